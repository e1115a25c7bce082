-- The index of a link that was found.
use Rattle.std.proofs.Common.{◌≡◌, ℕ, ◌<◌, Bool, true, List, [], ◌∷◌, length, get_or, Option, Some, None, zero, suc, arith, refl, ap, sym, ◌∙◌}
use Rattle.std.specs.Prelude.{IfSome, slice_get}
use Rattle.std.specs.List.{position}
use Rattle.std.proofs.lemmas.List.Quantifiers.{position-Some}
use Rattle.std.proofs.lemmas.Option.{slice_get-get_or}
use Rattle.dap_end.specs.Ports.{PortValue}
use Rattle.dap_end.specs.Node.{has_local, is_between}
use Rattle.dap_live.specs.Node.{one_link}

pub local-some : (local : ℕ) (o : Option PortValue) → has_local local o ≡ true → (p : PortValue) × (o ≡ Some p)
local-some local None e = absurd (let none : ⊥ = cc in none)
local-some local (Some p) e = (p, refl)

pub between-some : (local remote : ℕ) (o : Option PortValue) → is_between local remote o ≡ true → (p : PortValue) × (o ≡ Some p)
between-some local remote None e = absurd (let none : ⊥ = cc in none)
between-some local remote (Some p) e = (p, refl)

pub within : (test : Option PortValue → Bool) (ports : List (Option PortValue)) (r : Option ℕ) → r ≡ position test ports → IfSome r (λ i. i < length ports)
within test ports None e = tt
within test ports (Some i) e = (position-Some test ports i None (sym e)).0

module _ (test : Option PortValue → Bool) (some : (o : Option PortValue) → test o ≡ true → (p : PortValue) × (o ≡ Some p)) where
  pub at : (ports : List (Option PortValue)) (i : ℕ) → position test ports ≡ Some i → (p : PortValue) × (slice_get ports i ≡ Some (Some p))
  at ports i e =
      let f = position-Some test ports i None e in
      let s = some (get_or ports i None) f.1 in
      (s.0, slice_get-get_or ports i None f.0 ∙ ap Some s.1)

  pub there : (ports : List (Option PortValue)) (r : Option ℕ) → r ≡ position test ports → IfSome r (λ i. (p : PortValue) × (slice_get ports i ≡ Some (Some p)))
  there ports None e = tt
  there ports (Some i) e = at ports i (sym e)

-- ---- The only link.

pub one_is : (ports : List (Option PortValue)) (p : PortValue) → length ports ≡ 1 → slice_get ports 0 ≡ Some (Some p) → one_link ports ≡ Some 0
one_is [] p count there = absurd (let none : ⊥ = cc in none)
one_is (None ∷ []) p count there = absurd (let none : ⊥ = cc in none)
one_is (Some q ∷ []) p count there = refl
one_is (x ∷ y ∷ ports) p count there = absurd (omega (arith, count))

pub one_none : (ports : List (Option PortValue)) → ((p : PortValue) → slice_get ports 0 ≡ Some (Some p) → ⊥) → one_link ports ≡ None
one_none [] none = refl
one_none (None ∷ ports) none = refl
one_none (Some p ∷ ports) none = absurd (none p refl)

pub one_several : (ports : List (Option PortValue)) → (length ports ≡ 1 → ⊥) → one_link ports ≡ None
one_several [] several = refl
one_several (None ∷ ports) several = refl
one_several (Some p ∷ []) several = absurd (several refl)
one_several (Some p ∷ q ∷ ports) several = refl

pub one_only : (ports : List (Option PortValue)) (other : ℕ) (p : PortValue) → length ports ≡ 1 → slice_get ports other ≡ Some (Some p) → other ≡ 0
one_only [] other p count there = absurd (omega (arith, count))
one_only (x ∷ []) zero p count there = refl
one_only (x ∷ []) (suc other) p count there = absurd (let none : ⊥ = cc in none)
one_only (x ∷ y ∷ ports) other p count there = absurd (omega (arith, count))
