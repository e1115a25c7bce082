-- Lists of numbered values whose numbers rise.
use Rattle.std.proofs.Common.{◌≡◌, ℕ, ◌+◌, ◌<◌, ◌≤◌, ◌≢◌, Bool, true, false, cond, ◌&&◌, eqb, leb, T, List, [], ◌∷◌, map, Option, Some, None, IsSome, unwrap_or, refl, sym, ap, subst, ◌∙◌, arith, inl, inr, ◌⊎◌}
use Rattle.std.specs.List.{filter, last_or, slice_get}
use Rattle.std.specs.Ordering.{nat_cmp, eq_by_cmp, is_lt}
use Rattle.std.specs.FinMap.Entries.{find, is_sorted, below_all}
use Rattle.std.proofs.lemmas.Bool.{cases_lt}
use Rattle.std.proofs.lemmas.Bool.Decides.{nat_tests}
use Rattle.std.proofs.lemmas.Option.{same_Some}

-- the first of a list
abbrev first_in : List ℕ → Option ℕ
first_in ns = slice_get ns 0

-- the last, and 0 where there is none
abbrev pub last_of : List ℕ → ℕ
last_of ns = unwrap_or (last_or None ns) 0

some-none : (n : ℕ) → Some n ≡ None → ⊥
some-none n h = cc

less_and : (a b : ℕ) (c : Bool) → T (is_lt (nat_cmp a b) && c) → (a < b) × T c
less_and a b true h = (grind (arith, nat_tests), tt)
less_and a b false h = grind (arith, nat_tests)

and_less : (a b : ℕ) (c : Bool) → a < b → T c → T (is_lt (nat_cmp a b) && c)
and_less a b true lt h = grind (arith, nat_tests)
and_less a b false lt h = absurd h

both_of : (b c : Bool) → T (b && c) → T b × T c
both_of true c h = (tt, h)
both_of false c h = absurd h

and_both : (b c : Bool) → T b → T c → T (b && c)
and_both true c g h = h
and_both false c g h = absurd g

pub same_or_not : (a b : ℕ) → (a ≡ b) ⊎ (a ≢ b)
same_or_not a b = elim (cases_lt a b) [ inl less ↦ inr (omega arith) | inr least ↦ elim (cases_lt b a) [ inl more ↦ inr (omega arith) | inr most ↦ inl (omega arith) ] ]

module _ {X : Type 0} where
  -- what stands at a number
  abbrev pub at : List (ℕ × X) → ℕ → Option X
  at [] q = None
  at (e ∷ es) q = cond (eqb q e.0) (Some e.1) (at es q)

  -- every number is above x
  abbrev pub AllAbove : ℕ → List (ℕ × X) → Type 0
  AllAbove x [] = Unit {0}
  AllAbove x (e ∷ es) = (x < e.0) × AllAbove x es

  abbrev pub IsRising : List (ℕ × X) → Type 0
  IsRising [] = Unit {0}
  IsRising (e ∷ es) = AllAbove e.0 es × IsRising es

  tie_is : (a b : ℕ) (x y : Option X) → cond (eq_by_cmp nat_cmp a b) x y ≡ cond (eqb a b) x y
  tie_is a b x y = grind (arith, nat_tests)

  pub find_is_at : (es : List (ℕ × X)) (q : ℕ) → find nat_cmp q es ≡ at es q
  find_is_at [] q = refl
  find_is_at (e ∷ es) q = tie_is q e.0 _ _ ∙ ap (λ o. cond (eqb q e.0) (Some e.1) o) (find_is_at es q)

  -- the tests of std, and the facts
  all_above : (x : ℕ) (es : List (ℕ × X)) → T (below_all nat_cmp x es) → AllAbove x es
  all_above x [] h = tt
  all_above x (e ∷ es) h = let p = less_and x e.0 _ h in (p.0, all_above x es p.1)

  pub rising_from_sorted : (es : List (ℕ × X)) → T (is_sorted nat_cmp es) → IsRising es
  rising_from_sorted [] h = tt
  rising_from_sorted (e ∷ es) h = let p = both_of _ _ h in (all_above e.0 es p.0, rising_from_sorted es p.1)

  below_all_from : (x : ℕ) (es : List (ℕ × X)) → AllAbove x es → T (below_all nat_cmp x es)
  below_all_from x [] h = tt
  below_all_from x (e ∷ es) h = and_less x e.0 _ h.0 (below_all_from x es h.1)

  pub sorted_from_rising : (es : List (ℕ × X)) → IsRising es → T (is_sorted nat_cmp es)
  sorted_from_rising [] h = tt
  sorted_from_rising (e ∷ es) h = and_both _ _ (below_all_from e.0 es h.0) (sorted_from_rising es h.1)

  -- nothing stands below the numbers
  pub at_below : (x q : ℕ) (es : List (ℕ × X)) → AllAbove x es → q ≤ x → at es q ≡ None
  at_below x q [] h le = refl
  at_below x q (e ∷ es) h le = grind (arith, nat_tests, at_below x q es h.1 le, h.0)

  -- what stands in the tail, at a number that isn't the first
  pub at_tail : (e : ℕ × X) (es : List (ℕ × X)) (q : ℕ) → q ≢ e.0 → at (e ∷ es) q ≡ at es q
  at_tail e es q ne = grind (arith, nat_tests)

  pub at_first : (e : ℕ × X) (es : List (ℕ × X)) (q : ℕ) → q ≡ e.0 → at (e ∷ es) q ≡ Some e.1
  at_first e es q same = grind (arith, nat_tests)

  -- the first number from n on, where k is it
  pub first_of_some : (es : List (ℕ × X)) (n k : ℕ) → IsRising es → n ≤ k → IsSome (at es k) → ((j : ℕ) → n ≤ j → j < k → at es j ≡ None) → first_in (filter (leb n) (map (λ e. e.0) es)) ≡ Some k
  first_of_some [] n k r le some none = cc
  first_of_some (e ∷ es) n k r le some none = elim (cases_lt e.0 n) [
    | inl low ↦
        let rest : first_in (filter (leb n) (map (λ e. e.0) es)) ≡ Some k =
        first_of_some es n k r.1 le (subst IsSome (at_tail e es k (omega arith)) some) (λ j a b. sym (at_tail e es j (omega arith)) ∙ none j a b) in
        grind (arith, nat_tests)
    | inr high ↦ elim (cases_lt e.0 k) [
      | inl before ↦ cc (none e.0 high before, at_first e es e.0 refl)
      | inr after ↦ elim (cases_lt k e.0) [
        | inl past ↦ cc (at_tail e es k (omega arith), at_below e.0 k es r.0 (omega arith))
        | inr not_past ↦ let same : e.0 ≡ k = omega arith in grind (arith, nat_tests)
      ]
    ]
  ]

  pub first_of_none : (es : List (ℕ × X)) (n : ℕ) → ((j : ℕ) → n ≤ j → at es j ≡ None) → first_in (filter (leb n) (map (λ e. e.0) es)) ≡ None
  first_of_none [] n none = refl
  first_of_none (e ∷ es) n none = elim (cases_lt e.0 n) [
    | inl low ↦
        let rest : first_in (filter (leb n) (map (λ e. e.0) es)) ≡ None = first_of_none es n (λ j a. sym (at_tail e es j (omega arith)) ∙ none j a) in
        grind (arith, nat_tests)
    | inr high ↦ cc (none e.0 high, at_first e es e.0 refl)
  ]

  -- the last number, where h is it
  pub last_of_some : (es : List (ℕ × X)) (h : ℕ) → IsRising es → IsSome (at es h) → ((j : ℕ) → h < j → at es j ≡ None) → last_of (map (λ e. e.0) es) ≡ h
  last_of_some [] h r some none = cc
  last_of_some (e ∷ []) h r some none = elim (same_or_not h e.0) [ inl same ↦ sym same | inr other ↦ cc (at_tail e [] h other) ]
  last_of_some (e ∷ f ∷ es) h r some none = elim (same_or_not h e.0) [
    | inl same ↦
        let up : e.0 < f.0 = r.0.0 in
        cc (none f.0 (omega arith), at_tail e (f ∷ es) f.0 (omega arith), at_first f es f.0 refl)
    | inr other ↦ last_of_some (f ∷ es) h r.1 (subst IsSome (at_tail e (f ∷ es) h other) some) (λ j lt. elim (same_or_not j e.0) [
      | inl same ↦ cc (none j lt, at_first e (f ∷ es) j same)
      | inr other ↦ sym (at_tail e (f ∷ es) j other) ∙ none j lt
    ])
  ]

  pub last_of_none : (es : List (ℕ × X)) → ((j : ℕ) → at es j ≡ None) → last_of (map (λ e. e.0) es) ≡ 0
  last_of_none [] none = refl
  last_of_none (e ∷ es) none = cc (none e.0, at_first e es e.0 refl)

  -- the last number is above what all numbers are above
  pub below_last : (x : ℕ) (f : ℕ × X) (es : List (ℕ × X)) → AllAbove x (f ∷ es) → x < last_of (map (λ e. e.0) (f ∷ es))
  below_last x f [] h = h.0
  below_last x f (g ∷ es) h = below_last x g es h.1

  -- from a number on: all of what is above
  above_kept : (x n : ℕ) (es : List (ℕ × X)) → AllAbove x es → n ≤ x + 1 → filter (λ e. leb n e.0) es ≡ es
  above_kept x n [] h le = refl
  above_kept x n (e ∷ es) h le =
      let rest = above_kept x n es h.1 le in
      let test : leb n e.0 ≡ true = (let lt = h.0 in grind (arith, nat_tests)) in
      ap (λ b. cond b (e ∷ filter (λ e. leb n e.0) es) (filter (λ e. leb n e.0) es)) test ∙ ap (λ l. e ∷ l) rest

  -- the first from a number on is not below it
  first_above : (es : List (ℕ × X)) (n k : ℕ) → first_in (filter (leb n) (map (λ e. e.0) es)) ≡ Some k → n ≤ k
  first_above [] n k is = cc
  first_above (e ∷ es) n k is = elim (cases_lt e.0 n) [
    | inl low ↦ let no : leb n e.0 ≡ false = grind (arith, nat_tests) in first_above es n k (sym (ap (λ b. first_in (cond b (e.0 ∷ filter (leb n) (map (λ e. e.0) es)) (filter (leb n) (map (λ e. e.0) es)))) no) ∙ is)
    | inr high ↦
        let yes : leb n e.0 ≡ true = grind (arith, nat_tests) in
        let same : e.0 ≡ k = same_Some e.0 k (sym (ap (λ b. first_in (cond b (e.0 ∷ filter (leb n) (map (λ e. e.0) es)) (filter (leb n) (map (λ e. e.0) es)))) yes) ∙ is) in
        omega arith
  ]

  -- and something stands at it
  pub first_there : (es : List (ℕ × X)) (n k : ℕ) → IsRising es → first_in (filter (leb n) (map (λ e. e.0) es)) ≡ Some k → at es k ≡ None → ⊥
  first_there [] n k r is none = cc
  first_there (e ∷ es) n k r is none = elim (same_or_not k e.0) [
    | inl same ↦ cc (at_first e es k same, none)
    | inr other ↦ elim (cases_lt e.0 n) [
      | inl low ↦
          let no : leb n e.0 ≡ false = grind (arith, nat_tests) in
          first_there es n k r.1 (sym (ap (λ b. first_in (cond b (e.0 ∷ filter (leb n) (map (λ e. e.0) es)) (filter (leb n) (map (λ e. e.0) es)))) no) ∙ is) (sym (at_tail e es k other) ∙ none)
      | inr high ↦
          let yes : leb n e.0 ≡ true = grind (arith, nat_tests) in
          other (sym (same_Some e.0 k (sym (ap (λ b. first_in (cond b (e.0 ∷ filter (leb n) (map (λ e. e.0) es)) (filter (leb n) (map (λ e. e.0) es)))) yes) ∙ is)))
    ]
  ]

  -- and after it stand those from the next number on
  pub from_some : (es : List (ℕ × X)) (n k : ℕ) (v : X) → IsRising es → first_in (filter (leb n) (map (λ e. e.0) es)) ≡ Some k → at es k ≡ Some v
      → filter (λ e. leb n e.0) es ≡ (k, v) ∷ filter (λ e. leb (k + 1) e.0) es
  from_some [] n k v r is here = cc
  from_some (e ∷ es) n k v r is here =
      let le = first_above (e ∷ es) n k is in
      elim (cases_lt e.0 n) [
        | inl low ↦
            let no : leb n e.0 ≡ false = grind (arith, nat_tests) in
            let later : leb (k + 1) e.0 ≡ false = grind (arith, nat_tests) in
            let rest = from_some es n k v r.1 (sym (ap (λ b. first_in (cond b (e.0 ∷ filter (leb n) (map (λ e. e.0) es)) (filter (leb n) (map (λ e. e.0) es)))) no) ∙ is) (sym (at_tail e es k (omega arith)) ∙ here) in
            ap (λ b. cond b (e ∷ filter (λ e. leb n e.0) es) (filter (λ e. leb n e.0) es)) no ∙ rest
            ∙ sym (ap (λ b. (k, v) ∷ cond b (e ∷ filter (λ e. leb (k + 1) e.0) es) (filter (λ e. leb (k + 1) e.0) es)) later)
        | inr high ↦
            let yes : leb n e.0 ≡ true = grind (arith, nat_tests) in
            let same : e.0 ≡ k = same_Some e.0 k (sym (ap (λ b. first_in (cond b (e.0 ∷ filter (leb n) (map (λ e. e.0) es)) (filter (leb n) (map (λ e. e.0) es)))) yes) ∙ is) in
            let value : e.1 ≡ v = same_Some e.1 v (sym (at_first e es k (sym same)) ∙ here) in
            let later : leb (k + 1) e.0 ≡ false = grind (arith, nat_tests) in
            ap (λ b. cond b (e ∷ filter (λ e. leb n e.0) es) (filter (λ e. leb n e.0) es)) yes
            ∙ ap (λ l. e ∷ l) (above_kept e.0 n es r.0 (omega arith) ∙ sym (above_kept e.0 (k + 1) es r.0 (omega arith)))
            ∙ ap (λ j. (j, e.1) ∷ filter (λ e. leb (k + 1) e.0) es) same ∙ ap (λ w. (k, w) ∷ filter (λ e. leb (k + 1) e.0) es) value
            ∙ sym (ap (λ b. (k, v) ∷ cond b (e ∷ filter (λ e. leb (k + 1) e.0) es) (filter (λ e. leb (k + 1) e.0) es)) later)
      ]

  pub from_none : (es : List (ℕ × X)) (n : ℕ) → first_in (filter (leb n) (map (λ e. e.0) es)) ≡ None → filter (λ e. leb n e.0) es ≡ []
  from_none [] n is = refl
  from_none (e ∷ es) n is = elim (cases_lt e.0 n) [
    | inl low ↦
        let no : leb n e.0 ≡ false = grind (arith, nat_tests) in
        ap (λ b. cond b (e ∷ filter (λ e. leb n e.0) es) (filter (λ e. leb n e.0) es)) no
        ∙ from_none es n (sym (ap (λ b. first_in (cond b (e.0 ∷ filter (leb n) (map (λ e. e.0) es)) (filter (leb n) (map (λ e. e.0) es)))) no) ∙ is)
    | inr high ↦
        let yes : leb n e.0 ≡ true = grind (arith, nat_tests) in
        absurd (some-none e.0 (sym (ap (λ b. first_in (cond b (e.0 ∷ filter (leb n) (map (λ e. e.0) es)) (filter (leb n) (map (λ e. e.0) es)))) yes) ∙ is))
  ]
