-- The segments of a stream in order, with one more.
use Rattle.std.proofs.Common.{◌≡◌, inl, inr, ⊎_elim, ℕ, ◌+◌, ◌%◌, ◌<◌, ◌≤◌, ◌==◌, Bool, true, false, cond, List, [], ◌∷◌, ◌++◌, map, max, Option, Some, None, arith, refl, ap, sym, subst, ◌∙◌}
use Rattle.std.specs.List.{AllByRecursion}
use Rattle.std.specs.List.Sorted.{IsStrictlySortedBy, IsStrictlyIncreasing}
use Rattle.std.specs.Ordering.{nat_cmp}
use Rattle.std.specs.declared.cmp.Ordering.TheVariants.{Less}
use Rattle.std.proofs.lemmas.Bool.{cases_eq}
use Rattle.std.proofs.lemmas.Bool.Decides.{nat_tests}
use Rattle.std.proofs.lemmas.Map.Keys.{IsStrictlyIncreasing-from_sorted}
use Rattle.dap_follow.specs.Streams.{AreSequenced, NumberedSegment, Sequenced, at, no_more, one_more}
use Rattle.dap_follow.specs.Keeping.Pieces.{IsPut, Rises}
use Rattle.dap_follow.specs.Segments.{sequenced_at, highest_in}
use Rattle.dap_follow.proofs.GlueLemmas.{all_append, all_back, all_front}

-- ---- sequence numbers

-- one segment more, near the highest before it
pub sequenced_more : {highest : ℕ} {before : List NumberedSegment} {sequenced : List Sequenced} (c : NumberedSegment) (sequence : ℕ) → AreSequenced highest before sequenced
    → highest_in highest sequenced ≤ sequence + 2047 → sequence ≤ highest_in highest sequenced + 2048 → sequence % 4096 ≡ c.1.number
    → AreSequenced highest (before ++ c ∷ []) (sequenced ++ sequenced_at sequence c ∷ [])
sequenced_more c sequence no_more low high number = one_more sequence low high number no_more
sequenced_more c sequence (one_more first l h n others) low high number = one_more first l h n (sequenced_more c sequence others low high number)

pub top_more : (highest : ℕ) (sequenced : List Sequenced) (s : Sequenced) → highest_in highest (sequenced ++ s ∷ []) ≡ max (highest_in highest sequenced) s.sequence
top_more highest [] s = refl
top_more highest (t ∷ sequenced) s = top_more (max highest t.sequence) sequenced s

-- ---- what stands at a sequence number

abbrev pub or_else : Option Sequenced → Option Sequenced → Option Sequenced
or_else None other = other
or_else (Some s) other = Some s

either : (b : Bool) (x : Sequenced) (o p : Option Sequenced) → cond b (Some x) (or_else o p) ≡ or_else (cond b (Some x) o) p
either true x o p = refl
either false x o p = refl

pub at-append : (p : ℕ) (xs ys : List Sequenced) → at p (xs ++ ys) ≡ or_else (at p xs) (at p ys)
at-append p [] ys = refl
at-append p (x ∷ xs) ys = ap (cond (x.sequence == p) (Some x)) (at-append p xs ys) ∙ either (x.sequence == p) x (at p xs) (at p ys)

apart_test : (a b : ℕ) → (a ≡ b → ⊥) → (a == b) ≡ false
apart_test a b apart = grind (arith, nat_tests)

same_test : (a b : ℕ) → a ≡ b → (a == b) ≡ true
same_test a b same = grind (arith, nat_tests)

pub at-here : (p : ℕ) (s : Sequenced) (others : List Sequenced) → s.sequence ≡ p → at p (s ∷ others) ≡ Some s
at-here p s others same = ap (λ b. cond b (Some s) (at p others)) (same_test s.sequence p same)

pub at-other : (p : ℕ) (s : Sequenced) (others : List Sequenced) → (s.sequence ≡ p → ⊥) → at p (s ∷ others) ≡ at p others
at-other p s others apart = ap (λ b. cond b (Some s) (at p others)) (apart_test s.sequence p apart)

at-apart : (p : ℕ) (xs : List Sequenced) → AllByRecursion (λ t. t.sequence ≡ p → ⊥) xs → at p xs ≡ None
at-apart p [] apart = refl
at-apart p (x ∷ xs) apart = at-other p x xs apart.0 ∙ at-apart p xs apart.1

each_below : (s : Sequenced) (p : ℕ) (xs : List Sequenced) → p ≡ s.sequence → AllByRecursion (λ t. t.sequence < s.sequence) xs → AllByRecursion (λ t. t.sequence ≡ p → ⊥) xs
each_below s p [] same below = tt
each_below s p (x ∷ xs) same below = ((λ e. let low : x.sequence < s.sequence = below.0 in omega (arith, low, e, same)), each_below s p xs same below.1)

each_above : (s : Sequenced) (p : ℕ) (xs : List Sequenced) → p ≡ s.sequence → AllByRecursion (λ t. s.sequence < t.sequence) xs → AllByRecursion (λ t. t.sequence ≡ p → ⊥) xs
each_above s p [] same above = tt
each_above s p (x ∷ xs) same above = ((λ e. let high : s.sequence < x.sequence = above.0 in omega (arith, high, e, same)), each_above s p xs same above.1)

pub at-below : (sequence : ℕ) (xs : List Sequenced) → AllByRecursion (λ t. t.sequence < sequence) xs → at sequence xs ≡ None
at-below sequence [] below = refl
at-below sequence (x ∷ xs) below = at-other sequence x xs (λ e. let low : x.sequence < sequence = below.0 in omega (arith, low, e)) ∙ at-below sequence xs below.1

pub at-above : (sequence : ℕ) (xs : List Sequenced) → AllByRecursion (λ t. sequence < t.sequence) xs → at sequence xs ≡ None
at-above sequence [] above = refl
at-above sequence (x ∷ xs) above = at-other sequence x xs (λ e. let high : sequence < x.sequence = above.0 in omega (arith, high, e)) ∙ at-above sequence xs above.1

none_else : (o : Option Sequenced) → or_else o None ≡ o
none_else None = refl
none_else (Some s) = refl

kept : (o : Option Sequenced) (s t : Sequenced) → or_else (or_else o (Some s)) (Some t) ≡ or_else o (Some s)
kept None s t = refl
kept (Some u) s t = refl

stays : (p : ℕ) (front back : List Sequenced) (other s : Sequenced) → other.sequence ≡ s.sequence → p ≡ s.sequence
    → or_else (at p (front ++ other ∷ back)) (Some s) ≡ at p (front ++ other ∷ back)
stays p front back other s same here =
    let found : at p (front ++ other ∷ back) ≡ or_else (at p front) (Some other) = at-append p front (other ∷ back) ∙ ap (λ o. or_else (at p front) o) (at-here p other back (same ∙ sym here)) in
    rw found (kept (at p front) other s)

pub at_put : (p : ℕ) (old : List Sequenced) (s : Sequenced) (new : List Sequenced) → IsPut old s new → at p new ≡ or_else (at p old) (at p (s ∷ []))
at_put p old s new (inl (same, front, back, other, is, there)) =
    ⊎_elim
    (λ (here : p ≡ s.sequence).
    let one : at p (s ∷ []) ≡ Some s = at-here p s [] (sym here) in
    rw (same, one, is) (sym (stays p front back other s there here)))
    (λ (apart : p ≡ s.sequence → ⊥).
    let none : at p (s ∷ []) ≡ None = at-other p s [] (λ e. apart (sym e)) in
    rw (same, none) (sym (none_else (at p old))))
    (cases_eq p s.sequence)
at_put p old s new (inr (front, back, before, after, below, above)) =
    let split : at p new ≡ or_else (at p front) (at p (s ∷ back)) = ap (λ l. at p l) after ∙ at-append p front (s ∷ back) in
    let was : at p old ≡ or_else (at p front) (at p back) = ap (λ l. at p l) before ∙ at-append p front back in
    ⊎_elim
    (λ (here : p ≡ s.sequence).
    let one = at-here p s [] (sym here) in
    let here_too = at-here p s back (sym here) in
    let no_front = at-apart p front (each_below s p front here below) in
    let no_back = at-apart p back (each_above s p back here above) in
    rw (split, was, one, here_too, no_front, no_back) refl)
    (λ (apart : p ≡ s.sequence → ⊥).
    let none = at-other p s [] (λ e. apart (sym e)) in
    let not_here = at-other p s back (λ e. apart (sym e)) in
    rw (split, was, none, not_here) (sym (none_else (or_else (at p front) (at p back)))))
    (cases_eq p s.sequence)

-- ---- the order

rises_all : (x : Sequenced) (front back : List Sequenced) (s : Sequenced) → AllByRecursion (λ t. x.sequence < t.sequence) (front ++ back) → x.sequence < s.sequence
    → AllByRecursion (λ t. x.sequence < t.sequence) (front ++ s ∷ back)
rises_all x [] back s all below = (below, all)
rises_all x (f ∷ front) back s all below = (all.0, rises_all x front back s all.1 below)

rises_between : (front back : List Sequenced) (s : Sequenced) → Rises (front ++ back) → AllByRecursion (λ t. t.sequence < s.sequence) front → AllByRecursion (λ t. s.sequence < t.sequence) back
    → Rises (front ++ s ∷ back)
rises_between [] back s rises below above = (above, rises)
rises_between (f ∷ front) back s rises below above = (rises_all f front back s rises.0 below.0, rises_between front back s rises.1 below.1 above)

pub rises_put : (old : List Sequenced) (s : Sequenced) (new : List Sequenced) → IsPut old s new → Rises old → Rises new
rises_put old s new (inl (same, front, back, other, is, there)) rises = subst (λ l. Rises l) (sym same) rises
rises_put old s new (inr (front, back, before, after, below, above)) rises =
    subst (λ l. Rises l) (sym after) (rises_between front back s (subst (λ l. Rises l) before rises) below above)

-- what holds of the old ones and of the new one holds of all
pub all_put : (P : Sequenced → Type 0) (old : List Sequenced) (s : Sequenced) (new : List Sequenced) → IsPut old s new → AllByRecursion P old → P s → AllByRecursion P new
all_put P old s new (inl (same, front, back, other, is, there)) all one = subst (λ l. AllByRecursion P l) (sym same) all
all_put P old s new (inr (front, back, before, after, below, above)) all one =
    let split = subst (λ l. AllByRecursion P l) before all in
    subst (λ l. AllByRecursion P l) (sym after) (all_append P front (s ∷ back) (all_front P front back split) (one, all_back P front back split))

-- ---- sequence numbers that rise are in order

less_is : (a b : ℕ) → a < b → nat_cmp a b ≡ Less
less_is a b below = grind (arith, nat_tests)

sorted_each : (n : ℕ) (xs : List Sequenced) → AllByRecursion (λ t. n < t.sequence) xs → AllByRecursion (λ y. nat_cmp n y ≡ Less) (map (λ s. s.sequence) xs)
sorted_each n [] above = tt
sorted_each n (x ∷ xs) above = (less_is n x.sequence above.0, sorted_each n xs above.1)

sorted_sequences : (xs : List Sequenced) → Rises xs → IsStrictlySortedBy nat_cmp (map (λ s. s.sequence) xs)
unfolding IsStrictlySortedBy
sorted_sequences [] rises = tt
sorted_sequences (x ∷ xs) rises = (sorted_each x.sequence xs rises.0, sorted_sequences xs rises.1)

pub ascending : (xs : List Sequenced) → Rises xs → IsStrictlyIncreasing (map (λ s. s.sequence) xs)
ascending xs rises = IsStrictlyIncreasing-from_sorted (map (λ s. s.sequence) xs) (sorted_sequences xs rises)
