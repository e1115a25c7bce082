-- Whether a segment came on a link of a node.
use Rattle.std.proofs.Common.{◌≡◌, ℕ, zero, suc, ◌<◌, ◌⊎◌, Bool, true, false, ◌||◌, List, [], ◌∷◌, Option, Some, None, refl, ap, sym, subst, ◌∙◌, inl, inr, nat_lt, lt-ltb, ltb-true, length}
use Rattle.std.specs.List.{list_any}
use Rattle.std.proofs.Math.Bool.{or-true}
use Rattle.dap_end.specs.Ports.{HasCome, PortValue}
use Rattle.dap_end.specs.Node.{NoneHasCome, SomeHasCome}
use Rattle.dap_end.specs.Inner.Come.{come_on, has_come}

yes_by : (a b : ℕ) (x y : Bool) → nat_lt 0 a ≡ x → nat_lt 0 b ≡ y → (x || y) ≡ true → (0 < a) ⊎ (0 < b)
yes_by a b true y p q e = inl (ltb-true 0 a p)
yes_by a b false true p q e = inr (ltb-true 0 b q)
yes_by a b false false p q e = absurd (let none : ⊥ = cc in none)

of_yes : (a b : ℕ) → (0 < a) ⊎ (0 < b) → (nat_lt 0 a || nat_lt 0 b) ≡ true
of_yes a b (inl h) = ap (λ (x : Bool). x || nat_lt 0 b) (lt-ltb 0 a h)
of_yes a b (inr h) = ap (λ (x : Bool). nat_lt 0 a || x) (lt-ltb 0 b h) ∙ or-true (nat_lt 0 a)

came : (p : PortValue) → has_come p ≡ true → HasCome p
came p e = yes_by p.link.coming.received (length p.link.held) _ _ refl refl e

shows : (p : PortValue) → HasCome p → has_come p ≡ true
shows p h = of_yes p.link.coming.received (length p.link.held) h

neither : (x y : Bool) → (x || y) ≡ false → (x ≡ false) × (y ≡ false)
neither true y e = absurd (let none : ⊥ = cc in none)
neither false y e = (refl, e)

later : (o : Option PortValue) (ports : List (Option PortValue)) → SomeHasCome ports → SomeHasCome (o ∷ ports)
later o ports h = (suc h.0, h.1, h.2, h.3)

first_or : (p : PortValue) (ports : List (Option PortValue)) (x : Bool) → has_come p ≡ x → (list_any come_on ports ≡ true → SomeHasCome ports) → (x || list_any come_on ports) ≡ true → SomeHasCome (Some p ∷ ports)
first_or p ports true is then e = (0, p, refl, came p is)
first_or p ports false is then e = later (Some p) ports (then e)

pub some_come : (ports : List (Option PortValue)) → list_any come_on ports ≡ true → SomeHasCome ports
some_come [] e = absurd (let none : ⊥ = cc in none)
some_come (None ∷ ports) e = later None ports (some_come ports e)
some_come (Some p ∷ ports) e = first_or p ports (has_come p) refl (some_come ports) e

not_first : (q p : PortValue) → has_come q ≡ false → Some (Some q) ≡ Some (Some p) → HasCome p → ⊥
not_first q p still is come =
    let same : q ≡ p = cc in
    let came_there = shows q (subst HasCome (sym same) come) in
    let none : ⊥ = cc in
    none

pub none_come : (ports : List (Option PortValue)) → list_any come_on ports ≡ false → NoneHasCome ports
none_come [] e link p is come = absurd (let none : ⊥ = cc in none)
none_come (None ∷ ports) e zero p is come = absurd (let none : ⊥ = cc in none)
none_come (Some q ∷ ports) e zero p is come = not_first q p (neither (has_come q) (list_any come_on ports) e).0 is come
none_come (o ∷ ports) e (suc link) p is come = none_come ports (neither (come_on o) (list_any come_on ports) e).1 link p is come
