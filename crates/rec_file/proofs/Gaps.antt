-- A binary search among numbered values, and an edit at the index that it finds.
use Rattle.std.proofs.Common.{◌≡◌, ℕ, zero, suc, ◌<◌, ◌≤◌, cond, eqb, List, [], ◌∷◌, length, get_or, map, Some, None, Result, Ok, Err, IfOk, IfErr, slice_get, refl, sym, ap, subst, ◌∙◌, arith, inl, inr}
use Rattle.std.specs.List.{insert, remove}
use Rattle.std.specs.List.Sorted.{IsSearchInRange, IsBinarySearchResult, IsNonDecreasingBy}
use Rattle.std.specs.Ordering.{nat_cmp, ordering_index}
use Rattle.std.proofs.lemmas.Cmp.{ranked}
use Rattle.std.proofs.lemmas.Bool.Decides.{nat_tests}
use Rattle.std.proofs.lemmas.List.{length-map}
use Rattle.std.proofs.lemmas.Option.{same_Some}
use Rattle.rec_file.specs.Inner.Sorted.{IsInOrder, IsIndexOf, IsGapFor}
use Rattle.rec_file.proofs.Rising.{at, AllAbove, IsRising, at_below, at_tail, at_first, same_or_not}

-- what holds of an element at each default holds of it among the results of f
at_map : {X : Type 0} (f : X → ℕ) (l : List X) (j : ℕ) (P : ℕ → Type 0) → j < length l → ((d : X) → P (f (get_or l j d))) → P (get_or (map f l) j 0)
at_map f [] j P lt h = absurd (omega arith)
at_map f (x ∷ l) zero P lt h = h x
at_map f (x ∷ l) (suc j) P lt h = at_map f l j P (omega arith) h

-- and the other way round
from_map : {X : Type 0} (f : X → ℕ) (l : List X) (j : ℕ) (d : X) → j < length l → get_or (map f l) j 0 ≡ f (get_or l j d)
from_map f [] j d lt = absurd (omega arith)
from_map f (x ∷ l) zero d lt = refl
from_map f (x ∷ l) (suc j) d lt = from_map f l j d (omega arith)

module _ {X : Type 0} (f : X → ℕ) (l : List X) (ordered : IsInOrder (map f l)) (k : ℕ) where
  comparisons_rise : IsNonDecreasingBy (λ x. ordering_index (nat_cmp (f x) k)) l
  comparisons_rise i j d le lt =
      let rise : f (get_or l i d) ≤ f (get_or l j d) = elim (same_or_not i j) [
        | inl same ↦ let e = ap (λ k. f (get_or l k d)) same in omega arith
        | inr other ↦
            let up = ordered i j (omega arith) (let n = length-map l f in omega arith) in
            let low = from_map f l i d (omega arith) in
            let high = from_map f l j d lt in
            omega arith
      ] in
      grind (arith, nat_tests)

  -- a binary search by number ends at the number, or at the gap for it
  pub searched : (r : Result ℕ ℕ) → IsSearchInRange r (length l) → IsBinarySearchResult (λ x. nat_cmp (f x) k) l r → record { found : IfOk r (IsIndexOf (map f l) k); gap : IfErr r (IsGapFor (map f l) k) }
  searched (Ok i) in_range equal = record {
    found = record { in_range = subst (λ n. i < n) (sym (length-map l f)) in_range; same = at_map f l i (λ n. n ≡ k) in_range (λ d. ranked _ k _ (sym (equal d))) };
    gap = tt;
  }
  searched (Err i) in_range parted = record {
    found = tt;
    gap = record {
      in_range = subst (λ n. i ≤ n) (sym (length-map l f)) in_range;
      smaller_before = λ j lt. at_map f l j (λ n. n < k) (omega arith) (λ d. ranked _ k _ (sym ((parted comparisons_rise).0 j d (omega arith) lt)));
      greater_after = λ j le lt. let within : j < length l = subst (λ n. j < n) (length-map l f) lt in at_map f l j (λ n. k < n) within (λ d. ranked _ k _ (sym ((parted comparisons_rise).1 j d le within)));
    };
  }

module _ {X : Type 0} where
  abbrev pub numbers : List (ℕ × X) → List ℕ
  numbers es = map (λ e. e.0) es

  above_index : (x : ℕ) (es : List (ℕ × X)) → AllAbove x es → (j : ℕ) → j < length (numbers es) → x < get_or (numbers es) j 0
  above_index x [] h j lt = absurd (omega arith)
  above_index x (e ∷ es) h zero lt = h.0
  above_index x (e ∷ es) h (suc j) lt = above_index x es h.1 j (omega arith)

  pub ordered : (es : List (ℕ × X)) → IsRising es → IsInOrder (numbers es)
  ordered [] r i j lt in_range = absurd (omega arith)
  ordered (e ∷ es) r zero zero lt in_range = absurd (omega arith)
  ordered (e ∷ es) r zero (suc j) lt in_range = above_index e.0 es r.0 j (omega arith)
  ordered (e ∷ es) r (suc i) zero lt in_range = absurd (omega arith)
  ordered (e ∷ es) r (suc i) (suc j) lt in_range = ordered es r.1 i j (omega arith) (omega arith)

  all_above_from : (x : ℕ) (es : List (ℕ × X)) → ((j : ℕ) → j < length (numbers es) → x < get_or (numbers es) j 0) → AllAbove x es
  all_above_from x [] h = tt
  all_above_from x (e ∷ es) h = (h 0 (omega arith), all_above_from x es (λ j lt. h (suc j) (omega arith)))

  gap_tail : (e : ℕ × X) (es : List (ℕ × X)) (n i : ℕ) → IsGapFor (numbers (e ∷ es)) n (suc i) → IsGapFor (numbers es) n i
  gap_tail e es n i g = record {
    in_range = let h = g.in_range in omega arith;
    smaller_before = λ j lt. g.smaller_before (suc j) (omega arith);
    greater_after = λ j le lt. g.greater_after (suc j) (omega arith) (omega arith);
  }

  -- nothing stands at a number that has a gap
  pub at-gap : (es : List (ℕ × X)) (n i : ℕ) → IsGapFor (numbers es) n i → at es n ≡ None
  at-gap [] n i g = refl
  at-gap (e ∷ es) n zero g = at_below n n (e ∷ es) (all_above_from n (e ∷ es) (λ j lt. g.greater_after j (omega arith) lt)) (omega arith)
  at-gap (e ∷ es) n (suc i) g = let below = g.smaller_before 0 (omega arith) in at_tail e es n (omega arith) ∙ at-gap es n i (gap_tail e es n i g)

  above-index : (x : ℕ) (es : List (ℕ × X)) (i : ℕ) (e : ℕ × X) → AllAbove x es → slice_get es i ≡ Some e → x < e.0
  above-index x [] i e h is = cc
  above-index x (y ∷ es) zero e h is = subst (λ p. x < p.0) (same_Some y e is) h.0
  above-index x (y ∷ es) (suc i) e h is = above-index x es i e h.1 is

  -- what stands at an index
  pub at-index : (es : List (ℕ × X)) (i : ℕ) (e : ℕ × X) → IsRising es → slice_get es i ≡ Some e → at es e.0 ≡ Some e.1
  at-index [] i e r is = cc
  at-index (x ∷ es) zero e r is = subst (λ p. at (x ∷ es) p.0 ≡ Some p.1) (same_Some x e is) (at_first x es x.0 refl)
  at-index (x ∷ es) (suc i) e r is = let up = above-index x.0 es i e r.0 is in at_tail x es e.0 (omega arith) ∙ at-index es i e r.1 is

  -- a value more, in its gap
  pub at-insert : (es : List (ℕ × X)) (n i : ℕ) (v : X) → IsGapFor (numbers es) n i → (q : ℕ) → at (insert es i (n, v)) q ≡ cond (eqb q n) (Some v) (at es q)
  at-insert es n zero v g q = refl
  at-insert [] n (suc i) v g q = refl
  at-insert (e ∷ es) n (suc i) v g q =
      let r = at-insert es n i v (gap_tail e es n i g) q in
      let below = g.smaller_before 0 (omega arith) in
      grind (arith, nat_tests)

  above-insert : (x : ℕ) (es : List (ℕ × X)) (n i : ℕ) (v : X) → AllAbove x es → x < n → AllAbove x (insert es i (n, v))
  above-insert x es n zero v h lt = (lt, h)
  above-insert x [] n (suc i) v h lt = (lt, h)
  above-insert x (e ∷ es) n (suc i) v h lt = (h.0, above-insert x es n i v h.1 lt)

  pub rising-insert : (es : List (ℕ × X)) (n i : ℕ) (v : X) → IsRising es → IsGapFor (numbers es) n i → IsRising (insert es i (n, v))
  rising-insert es n zero v r g = (all_above_from n es (λ j lt. g.greater_after j (omega arith) lt), r)
  rising-insert [] n (suc i) v r g = (tt, tt)
  rising-insert (e ∷ es) n (suc i) v r g = (above-insert e.0 es n i v r.0 (g.smaller_before 0 (omega arith)), rising-insert es n i v r.1 (gap_tail e es n i g))

  -- a value less
  pub at-remove : (es : List (ℕ × X)) (i : ℕ) (e : ℕ × X) → IsRising es → slice_get es i ≡ Some e → (q : ℕ) → at (remove es i) q ≡ cond (eqb q e.0) None (at es q)
  at-remove [] i e r is q = cc
  at-remove (x ∷ es) zero e r is q =
      let same : x.0 ≡ e.0 = ap (λ p. p.0) (same_Some x e is) in
      elim (same_or_not q x.0) [
        | inl here ↦ let none = at_below x.0 q es r.0 (omega arith) in grind (arith, nat_tests)
        | inr other ↦ grind (arith, nat_tests)
      ]
  at-remove (x ∷ es) (suc i) e r is q =
      let rest = at-remove es i e r.1 is q in
      let up = above-index x.0 es i e r.0 is in
      grind (arith, nat_tests)

  above-remove : (x : ℕ) (es : List (ℕ × X)) (i : ℕ) → AllAbove x es → AllAbove x (remove es i)
  above-remove x [] zero h = tt
  above-remove x [] (suc i) h = tt
  above-remove x (e ∷ es) zero h = h.1
  above-remove x (e ∷ es) (suc i) h = (h.0, above-remove x es i h.1)

  pub rising-remove : (es : List (ℕ × X)) (i : ℕ) → IsRising es → IsRising (remove es i)
  rising-remove [] zero r = tt
  rising-remove [] (suc i) r = tt
  rising-remove (e ∷ es) zero r = r.1
  rising-remove (e ∷ es) (suc i) r = (above-remove e.0 es i r.0, rising-remove es i r.1)

  -- the number at an index
  pub number_at : (es : List (ℕ × X)) (i : ℕ) (e : ℕ × X) → slice_get es i ≡ Some e → get_or (numbers es) i 0 ≡ e.0
  number_at [] i e is = cc
  number_at (x ∷ es) zero e is = ap (λ p. p.0) (same_Some x e is)
  number_at (x ∷ es) (suc i) e is = number_at es i e is
