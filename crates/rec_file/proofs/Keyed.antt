-- An ordered map's entries, as numbered values whose numbers rise: what stands at a number after each edit.
use Rattle.std.proofs.Common.{◌≡◌, ℕ, ◌<◌, ◌≤◌, ◌≢◌, ◌&&◌, cond, eqb, Bool, true, false, List, [], ◌∷◌, map, Option, Some, None, IsSome, refl, sym, ap, subst, ◌∙◌, arith, inl, inr}
use Rattle.std.specs.List.{filter, AllByRecursion}
use Rattle.std.specs.Ordering.{nat_cmp, is_le, match_ordering}
use Rattle.std.specs.declared.cmp.Ordering.TheVariants.{Less, Equal, Greater}
use Rattle.std.specs.Map.{lookup, set_value, remove_entry}
use Rattle.std.specs.BTreeMap.{is_at, insert_entry}
use Rattle.std.proofs.lemmas.Bool.{cases_lt}
use Rattle.std.proofs.lemmas.Bool.Decides.{nat_tests}
use Rattle.rec_file.proofs.Rising.{at, AllAbove, IsRising, at_below, at_tail, at_first, same_or_not}

-- the test of a map for a number
pub is_there : (p k : ℕ) → p ≡ k → is_at (nat_cmp p) k ≡ true
is_there p k same = grind (arith, nat_tests)

pub is_elsewhere : (p k : ℕ) → p ≢ k → is_at (nat_cmp p) k ≡ false
is_elsewhere p k other = grind (arith, nat_tests)

is_less : (p k : ℕ) → p < k → nat_cmp p k ≡ Less
is_less p k lt = grind (arith, nat_tests)

is_equal : (p k : ℕ) → p ≡ k → nat_cmp p k ≡ Equal
is_equal p k same = grind (arith, nat_tests)

is_greater : (p k : ℕ) → k < p → nat_cmp p k ≡ Greater
is_greater p k lt = grind (arith, nat_tests)

nothing : {X : Type 0} (b : Bool) → (let o : Option X = None in o ≡ cond b o o)
nothing true = refl
nothing false = refl

module _ {X : Type 0} where
  pub lookup_is_at : (es : List (ℕ × X)) (q : ℕ) → lookup (is_at (nat_cmp q)) es ≡ at es q
  lookup_is_at [] q = refl
  lookup_is_at (e ∷ es) q = tie q e.0 (Some e.1) (lookup (is_at (nat_cmp q)) es) ∙ ap (λ o. cond (eqb q e.0) (Some e.1) o) (lookup_is_at es q)
    where
      tie : (a b : ℕ) (x y : Option X) → cond (is_at (nat_cmp a) b) x y ≡ cond (eqb a b) x y
      tie a b x y = grind (arith, nat_tests)

  above_less : (x y : ℕ) (es : List (ℕ × X)) → AllAbove y es → x ≤ y → AllAbove x es
  above_less x y [] h le = tt
  above_less x y (e ∷ es) h le = (let lt = h.0 in omega arith, above_less x y es h.1 le)

  -- another value at a number that has one
  pub at-written : (es : List (ℕ × X)) (p : ℕ) (v : X) → IsSome (at es p) → (q : ℕ) → at (set_value (is_at (nat_cmp p)) es v) q ≡ cond (eqb q p) (Some v) (at es q)
  at-written [] p v some q = cc
  at-written (e ∷ es) p v some q = elim (same_or_not p e.0) [
    | inl same ↦ ap (λ b. at (cond b ((e.0, v) ∷ es) (e ∷ set_value (is_at (nat_cmp p)) es v)) q) (is_there p e.0 same) ∙ first same (at es q)
    | inr other ↦
        ap (λ b. at (cond b ((e.0, v) ∷ es) (e ∷ set_value (is_at (nat_cmp p)) es v)) q) (is_elsewhere p e.0 other)
        ∙ ap (cond (eqb q e.0) (Some e.1)) (at-written es p v (subst IsSome (at_tail e es p other) some) q) ∙ swap other (at es q)
  ]
    where
      first : p ≡ e.0 → (o : Option X) → cond (eqb q e.0) (Some v) o ≡ cond (eqb q p) (Some v) (cond (eqb q e.0) (Some e.1) o)
      first same o = grind (arith, nat_tests)

      swap : p ≢ e.0 → (o : Option X) → cond (eqb q e.0) (Some e.1) (cond (eqb q p) (Some v) o) ≡ cond (eqb q p) (Some v) (cond (eqb q e.0) (Some e.1) o)
      swap other o = grind (arith, nat_tests)

  above-written : (x : ℕ) (t : ℕ → Bool) (es : List (ℕ × X)) (v : X) → AllAbove x es → AllAbove x (set_value t es v)
  above-written x t [] v h = tt
  above-written x t (e ∷ es) v h = elim (t e.0) as (λ b. AllAbove x (cond b ((e.0, v) ∷ es) (e ∷ set_value t es v))) [ true ↦ h | false ↦ (h.0, above-written x t es v h.1) ]

  pub rising-written : (t : ℕ → Bool) (es : List (ℕ × X)) (v : X) → IsRising es → IsRising (set_value t es v)
  rising-written t [] v r = tt
  rising-written t (e ∷ es) v r = elim (t e.0) as (λ b. IsRising (cond b ((e.0, v) ∷ es) (e ∷ set_value t es v))) [ true ↦ r | false ↦ (above-written e.0 t es v r.0, rising-written t es v r.1) ]

  -- a value under a number more
  pub at-inserted : (es : List (ℕ × X)) (p : ℕ) (v : X) (q : ℕ) → at (insert_entry nat_cmp es p v) q ≡ cond (eqb q p) (Some v) (at es q)
  at-inserted [] p v q = refl
  at-inserted (e ∷ es) p v q = elim (cases_lt p e.0) [
    | inl less ↦ ap (λ o. at (match_ordering o ((p, v) ∷ e ∷ es) ((e.0, v) ∷ es) (e ∷ insert_entry nat_cmp es p v)) q) (is_less p e.0 less)
    | inr least ↦ elim (same_or_not p e.0) [
      | inl same ↦ ap (λ o. at (match_ordering o ((p, v) ∷ e ∷ es) ((e.0, v) ∷ es) (e ∷ insert_entry nat_cmp es p v)) q) (is_equal p e.0 same) ∙ first same (at es q)
      | inr other ↦
          ap (λ o. at (match_ordering o ((p, v) ∷ e ∷ es) ((e.0, v) ∷ es) (e ∷ insert_entry nat_cmp es p v)) q) (is_greater p e.0 (omega arith))
          ∙ ap (cond (eqb q e.0) (Some e.1)) (at-inserted es p v q) ∙ swap other (at es q)
    ]
  ]
    where
      first : p ≡ e.0 → (o : Option X) → cond (eqb q e.0) (Some v) o ≡ cond (eqb q p) (Some v) (cond (eqb q e.0) (Some e.1) o)
      first same o = grind (arith, nat_tests)

      swap : p ≢ e.0 → (o : Option X) → cond (eqb q e.0) (Some e.1) (cond (eqb q p) (Some v) o) ≡ cond (eqb q p) (Some v) (cond (eqb q e.0) (Some e.1) o)
      swap other o = grind (arith, nat_tests)

  above-inserted : (x : ℕ) (es : List (ℕ × X)) (p : ℕ) (v : X) → AllAbove x es → x < p → AllAbove x (insert_entry nat_cmp es p v)
  above-inserted x [] p v h lt = (lt, tt)
  above-inserted x (e ∷ es) p v h lt = elim (nat_cmp p e.0) as (λ o. AllAbove x (match_ordering o ((p, v) ∷ e ∷ es) ((e.0, v) ∷ es) (e ∷ insert_entry nat_cmp es p v))) [
    | Less ↦ (lt, h)
    | Equal ↦ h
    | Greater ↦ (h.0, above-inserted x es p v h.1 lt)
  ]

  pub rising-inserted : (es : List (ℕ × X)) (p : ℕ) (v : X) → IsRising es → IsRising (insert_entry nat_cmp es p v)
  rising-inserted [] p v r = (tt, tt)
  rising-inserted (e ∷ es) p v r = elim (cases_lt p e.0) [
    | inl less ↦ subst (λ o. IsRising (match_ordering o ((p, v) ∷ e ∷ es) ((e.0, v) ∷ es) (e ∷ insert_entry nat_cmp es p v))) (sym (is_less p e.0 less)) ((less, above_less p e.0 es r.0 (omega arith)), r)
    | inr least ↦ elim (same_or_not p e.0) [
      | inl same ↦ subst (λ o. IsRising (match_ordering o ((p, v) ∷ e ∷ es) ((e.0, v) ∷ es) (e ∷ insert_entry nat_cmp es p v))) (sym (is_equal p e.0 same)) r
      | inr other ↦
          subst (λ o. IsRising (match_ordering o ((p, v) ∷ e ∷ es) ((e.0, v) ∷ es) (e ∷ insert_entry nat_cmp es p v))) (sym (is_greater p e.0 (omega arith)))
          (above-inserted e.0 es p v r.0 (omega arith), rising-inserted es p v r.1)
    ]
  ]

  -- a number less
  pub at-removed : (es : List (ℕ × X)) (p : ℕ) → IsRising es → (q : ℕ) → at (remove_entry (is_at (nat_cmp p)) es) q ≡ cond (eqb q p) None (at es q)
  at-removed [] p r q = nothing (eqb q p)
  at-removed (e ∷ es) p r q = elim (same_or_not p e.0) [
    | inl same ↦ ap (λ b. at (cond b es (e ∷ remove_entry (is_at (nat_cmp p)) es)) q) (is_there p e.0 same) ∙ first same
    | inr other ↦
        ap (λ b. at (cond b es (e ∷ remove_entry (is_at (nat_cmp p)) es)) q) (is_elsewhere p e.0 other)
        ∙ ap (cond (eqb q e.0) (Some e.1)) (at-removed es p r.1 q) ∙ swap other (at es q)
  ]
    where
      first : p ≡ e.0 → at es q ≡ cond (eqb q p) None (cond (eqb q e.0) (Some e.1) (at es q))
      first same = elim (same_or_not q e.0) [
        | inl here ↦ let none = at_below e.0 q es r.0 (omega arith) in grind (arith, nat_tests)
        | inr other ↦ grind (arith, nat_tests)
      ]

      swap : p ≢ e.0 → (o : Option X) → cond (eqb q e.0) (Some e.1) (cond (eqb q p) None o) ≡ cond (eqb q p) None (cond (eqb q e.0) (Some e.1) o)
      swap other o = grind (arith, nat_tests)

  above-removed : (x : ℕ) (t : ℕ → Bool) (es : List (ℕ × X)) → AllAbove x es → AllAbove x (remove_entry t es)
  above-removed x t [] h = tt
  above-removed x t (e ∷ es) h = elim (t e.0) as (λ b. AllAbove x (cond b es (e ∷ remove_entry t es))) [ true ↦ h.1 | false ↦ (h.0, above-removed x t es h.1) ]

  pub rising-removed : (t : ℕ → Bool) (es : List (ℕ × X)) → IsRising es → IsRising (remove_entry t es)
  rising-removed t [] r = tt
  rising-removed t (e ∷ es) r = elim (t e.0) as (λ b. IsRising (cond b es (e ∷ remove_entry t es))) [ true ↦ r.1 | false ↦ (above-removed e.0 t es r.0, rising-removed t es r.1) ]

  -- the values from a number on
  abbrev pub behind : ℕ → List (ℕ × X) → List (ℕ × X)
  behind p es = filter (λ e. is_le (nat_cmp p e.0) && true) es

  pub at-behind : (p : ℕ) (es : List (ℕ × X)) (q : ℕ) → p ≤ q → at (behind p es) q ≡ at es q
  at-behind p [] q le = refl
  at-behind p (e ∷ es) q le = elim (cases_lt e.0 p) [
    | inl low ↦ ap (λ b. at (cond b (e ∷ behind p es) (behind p es)) q) (let no : (is_le (nat_cmp p e.0) && true) ≡ false = grind (arith, nat_tests) in no) ∙ at-behind p es q le ∙ sym (at_tail e es q (omega arith))
    | inr high ↦ ap (λ b. at (cond b (e ∷ behind p es) (behind p es)) q) (let yes : (is_le (nat_cmp p e.0) && true) ≡ true = grind (arith, nat_tests) in yes) ∙ ap (cond (eqb q e.0) (Some e.1)) (at-behind p es q le)
  ]

  above-behind : (x p : ℕ) (es : List (ℕ × X)) → AllAbove x es → AllAbove x (behind p es)
  above-behind x p [] h = tt
  above-behind x p (e ∷ es) h = elim (is_le (nat_cmp p e.0) && true) as (λ b. AllAbove x (cond b (e ∷ behind p es) (behind p es))) [ true ↦ (h.0, above-behind x p es h.1) | false ↦ above-behind x p es h.1 ]

  pub rising-behind : (p : ℕ) (es : List (ℕ × X)) → IsRising es → IsRising (behind p es)
  rising-behind p [] r = tt
  rising-behind p (e ∷ es) r = elim (is_le (nat_cmp p e.0) && true) as (λ b. IsRising (cond b (e ∷ behind p es) (behind p es))) [ true ↦ (above-behind e.0 p es r.0, rising-behind p es r.1) | false ↦ rising-behind p es r.1 ]

  -- none is below it
  pub first-behind : (p : ℕ) (es : List (ℕ × X)) (e : ℕ × X) (t : List (ℕ × X)) → behind p es ≡ e ∷ t → p ≤ e.0
  first-behind p [] e t is = cc
  first-behind p (x ∷ es) e t is = elim (cases_lt x.0 p) [
    | inl low ↦ first-behind p es e t (sym (ap (λ b. cond b (x ∷ behind p es) (behind p es)) (let no : (is_le (nat_cmp p x.0) && true) ≡ false = grind (arith, nat_tests) in no)) ∙ is)
    | inr high ↦
        let yes : (is_le (nat_cmp p x.0) && true) ≡ true = grind (arith, nat_tests) in
        let same : x ≡ e = head (behind p es) t (sym (ap (λ b. cond b (x ∷ behind p es) (behind p es)) yes) ∙ is) in
        subst (λ y. p ≤ y.0) same high
  ]
    where
      head : (a b : List (ℕ × X)) → x ∷ a ≡ e ∷ b → x ≡ e
      head a b h = cc

  -- what holds of all values holds after an edit
  module _ (P : X → Type 0) where
    abbrev pub AllValues : List (ℕ × X) → Type 0
    AllValues es = AllByRecursion P (map (λ e. e.1) es)

    pub value_at : (es : List (ℕ × X)) (p : ℕ) (v : X) → AllValues es → at es p ≡ Some v → P v
    value_at [] p v h is = cc
    value_at (e ∷ es) p v h is = elim (same_or_not p e.0) [
      | inl same ↦ subst P (value (sym (at_first e es p same) ∙ is)) h.0
      | inr other ↦ value_at es p v h.1 (sym (at_tail e es p other) ∙ is)
    ]
      where
        value : Some e.1 ≡ Some v → e.1 ≡ v
        value h = cc

    pub all-written : (t : ℕ → Bool) (es : List (ℕ × X)) (v : X) → AllValues es → P v → AllValues (set_value t es v)
    all-written t [] v h p = tt
    all-written t (e ∷ es) v h p = elim (t e.0) as (λ b. AllValues (cond b ((e.0, v) ∷ es) (e ∷ set_value t es v))) [ true ↦ (p, h.1) | false ↦ (h.0, all-written t es v h.1 p) ]

    pub all-inserted : (es : List (ℕ × X)) (k : ℕ) (v : X) → AllValues es → P v → AllValues (insert_entry nat_cmp es k v)
    all-inserted [] k v h p = (p, tt)
    all-inserted (e ∷ es) k v h p = elim (nat_cmp k e.0) as (λ o. AllValues (match_ordering o ((k, v) ∷ e ∷ es) ((e.0, v) ∷ es) (e ∷ insert_entry nat_cmp es k v))) [
      | Less ↦ (p, h)
      | Equal ↦ (p, h.1)
      | Greater ↦ (h.0, all-inserted es k v h.1 p)
    ]

    pub all-removed : (t : ℕ → Bool) (es : List (ℕ × X)) → AllValues es → AllValues (remove_entry t es)
    all-removed t [] h = tt
    all-removed t (e ∷ es) h = elim (t e.0) as (λ b. AllValues (cond b es (e ∷ remove_entry t es))) [ true ↦ h.1 | false ↦ (h.0, all-removed t es h.1) ]
