-- An edit in a list of numbered values whose numbers rise.
use Rattle.std.proofs.Common.{◌≡◌, ℕ, zero, suc, ◌<◌, ◌≤◌, cond, eqb, List, [], ◌∷◌, length, get_or, set, map, Some, slice_get, refl, ap, subst, arith, inl, inr}
use Rattle.std.specs.List.{insert, remove}
use Rattle.std.proofs.lemmas.Bool.Decides.{nat_tests}
use Rattle.std.proofs.lemmas.Option.{same_Some}
use Rattle.rec_file.specs.Inner.Sorted.{IsGapFor}
use Rattle.rec_file.proofs.ForCallers.{at, AllAbove, IsRising, same_or_not, numbers, ordered}

module _ {X : Type 0} where
  above-index : (x : ℕ) (es : List (ℕ × X)) (i : ℕ) (e : ℕ × X) → AllAbove x es → slice_get es i ≡ Some e → x < e.0
  above-index x [] i e h is = cc
  above-index x (y ∷ es) zero e h is = subst (λ p. x < p.0) (same_Some y e is) h.0
  above-index x (y ∷ es) (suc i) e h is = above-index x es i e h.1 is

  -- another value in the place of one
  pub at-set : (es : List (ℕ × X)) (i : ℕ) (e : ℕ × X) (v : X) → IsRising es → slice_get es i ≡ Some e → (q : ℕ) → at (set es i (e.0, v)) q ≡ cond (eqb q e.0) (Some v) (at es q)
  at-set [] i e v r is q = cc
  at-set (x ∷ es) zero e v r is q = let same : x.0 ≡ e.0 = ap (λ p. p.0) (same_Some x e is) in grind (arith, nat_tests)
  at-set (x ∷ es) (suc i) e v r is q =
      let rest = at-set es i e v r.1 is q in
      let up = above-index x.0 es i e r.0 is in
      grind (arith, nat_tests)

  above-set : (x : ℕ) (es : List (ℕ × X)) (i : ℕ) (e : ℕ × X) → AllAbove x es → x < e.0 → AllAbove x (set es i e)
  above-set x [] i e h lt = tt
  above-set x (y ∷ es) zero e h lt = (lt, h.1)
  above-set x (y ∷ es) (suc i) e h lt = (h.0, above-set x es i e h.1 lt)

  pub rising-set : (es : List (ℕ × X)) (i : ℕ) (e : ℕ × X) (v : X) → IsRising es → slice_get es i ≡ Some e → IsRising (set es i (e.0, v))
  rising-set [] i e v r is = tt
  rising-set (x ∷ es) zero e v r is = (subst (λ p. AllAbove p.0 es) (same_Some x e is) r.0, r.1)
  rising-set (x ∷ es) (suc i) e v r is = (above-set x.0 es i (e.0, v) r.0 (above-index x.0 es i e r.0 is), rising-set es i e v r.1 is)

  -- a gap for a number is one for each number up to the next
  pub gap_from : (es : List (ℕ × X)) (n i k : ℕ) → IsRising es → IsGapFor (numbers es) n i → n ≤ k → (i < length (numbers es) → k < get_or (numbers es) i 0) → IsGapFor (numbers es) k i
  gap_from es n i k r g le below = record {
    in_range = g.in_range;
    smaller_before = λ j lt. let h = g.smaller_before j lt in omega arith;
    greater_after = λ j ge lt. elim (same_or_not i j) [
      | inl same ↦ subst (λ m. k < get_or (numbers es) m 0) same (below (omega arith))
      | inr other ↦ let up = ordered es r i j (omega arith) lt in let h = below (omega arith) in omega arith
    ];
  }

pub map_insert : {A B : Type 0} (f : A → B) (l : List A) (i : ℕ) (x : A) → map f (insert l i x) ≡ insert (map f l) i (f x)
map_insert f l zero x = refl
map_insert f [] (suc i) x = refl
map_insert f (y ∷ l) (suc i) x = ap (λ r. f y ∷ r) (map_insert f l i x)

pub map_remove : {A B : Type 0} (f : A → B) (l : List A) (i : ℕ) → map f (remove l i) ≡ remove (map f l) i
map_remove f [] zero = refl
map_remove f [] (suc i) = refl
map_remove f (y ∷ l) zero = refl
map_remove f (y ∷ l) (suc i) = ap (λ r. f y ∷ r) (map_remove f l i)
