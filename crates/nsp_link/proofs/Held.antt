-- Early segments in the ring, and the definition's list of them.
use Rattle.std.proofs.Common.{◌≡◌, ℕ, zero, suc, ◌+◌, ◌-◌, ◌<◌, ◌≤◌, List, [], ◌∷◌, ◌++◌, length, drop, replicate, Option, Some, None, refl, sym, ap, ◌∙◌, arith, Bool, true, false, inl, inr, subst, append_assoc, Bor}
use Rattle.std.specs.Prelude.{◌≢◌, slice_get, slice_set, MatchOption, is_none}
use Rattle.std.specs.Ordering.{nat_cmp}
use Rattle.std.specs.BTreeSet.{insert_key}
use Rattle.std.specs.List.{AllByRecursion}
use Rattle.std.specs.Option.{option_copied}
use Rattle.std.proofs.lemmas.Bool.{cases_eq, cases_lt, eq-eqb, ne_eqb, lt-ltb, le-ltb}
use Rattle.std.proofs.lemmas.List.{length-append, length-drop, length-replicate, drop-append-le, drop-drop, replicate-append-replicate}
use Rattle.nsp_link.specs.Inner.Pieces.{Held}
use Rattle.nsp_link.specs.Cutting.{Piece}
use Rattle.nsp_link.specs.Holding.{AreHeld, following}
use Rattle.nsp_link.specs.Inner.Pieces.{held_from, held_piece, leading}
use Rattle.nsp_link.proofs.Taking.{AreNext}

-- ---- bounds

-- what the slots hold has their numbers
pub held_within : (low n high : ℕ) (slots : List (Option Held)) → low < n → n + length slots ≤ high → AreHeld low high (held_from n slots)
unfolding AreHeld held_from
held_within low n high [] lt le = tt
held_within low n high (None ∷ slots) lt le = held_within low (n + 1) high slots (omega arith) (omega arith)
held_within low n high (Some h ∷ slots) lt le = (lt, omega arith, held_within n (n + 1) high slots (omega arith) (omega arith))

-- and fewer than there are numbers
pub held_few : (low high : ℕ) (held : List (ℕ × Piece)) → low < high → AreHeld low high held → length held + low < high
unfolding AreHeld
held_few low high [] lt all = omega arith
held_few low high (h ∷ held) lt all = let few = held_few h.0 high held all.1 all.2 in omega (arith, all.0)

-- ---- taking in what follows

none_follow : (k low high : ℕ) (held : List (ℕ × Piece)) → k < low → AreHeld low high held → following k held ≡ []
unfolding AreHeld following
none_follow k low high [] lt all = refl
none_follow k low high (h ∷ held) lt all = rw (ne_eqb h.0 (k + 1) (λ e. omega (arith, all.0))) refl

pub leading_follow : (n : ℕ) (slots : List (Option Held)) → following n (held_from (n + 1) slots) ≡ leading slots
unfolding following held_from leading
leading_follow n [] = refl
leading_follow n (None ∷ slots) = none_follow n (n + 1) (n + 1 + 1 + length slots) (held_from (n + 1 + 1) slots) (omega arith) (held_within (n + 1) (n + 1 + 1) (n + 1 + 1 + length slots) slots (omega arith) (omega arith))
leading_follow n (Some h ∷ slots) = rw (eq-eqb (n + 1) (n + 1) refl) (ap (λ (ps : List Piece). held_piece h ∷ ps) (leading_follow (n + 1) slots))

-- what follows leaves
pub held_left : (n : ℕ) (slots : List (Option Held)) → drop (length (leading slots)) (held_from n slots) ≡ held_from (n + length (leading slots)) (drop (length (leading slots)) slots)
unfolding held_from leading
held_left n [] = refl
held_left n (None ∷ slots) = let z : n + 0 ≡ n = omega arith in rw z refl
held_left n (Some h ∷ slots) =
    let e : (n + 1) + length (leading slots) ≡ n + suc (length (leading slots)) = omega arith in
    rw (← e) (held_left (n + 1) slots)

pub held_free : (n m : ℕ) → held_from n (replicate m None) ≡ []
unfolding held_from
held_free n zero = refl
held_free n (suc m) = held_free (n + 1) m

pub held_more_free : (n m : ℕ) (slots : List (Option Held)) → held_from n (slots ++ replicate m None) ≡ held_from n slots
unfolding held_from
held_more_free n m [] = held_free n m
held_more_free n m (None ∷ slots) = held_more_free (n + 1) m slots
held_more_free n m (Some h ∷ slots) = ap (λ (hs : List (ℕ × Piece)). (n, held_piece h) ∷ hs) (held_more_free (n + 1) m slots)

-- the slot after those that follow is free, or after the last
pub leading_ends : (slots : List (Option Held)) (m : ℕ) → 0 < m → slice_get (drop (length (leading slots)) slots ++ replicate m None) 0 ≡ Some None
unfolding leading
leading_ends [] zero lt = elim lt [ ]
leading_ends [] (suc m) lt = refl
leading_ends (None ∷ slots) m lt = refl
leading_ends (Some h ∷ slots) m lt = leading_ends slots m lt

pub leading_few : (slots : List (Option Held)) → length (leading slots) ≤ length slots
unfolding leading
leading_few [] = omega arith
leading_few (None ∷ slots) = omega arith
leading_few (Some h ∷ slots) = omega (arith, leading_few slots)

-- what a slot says of those that stand from there on
pub leading_stops : (slots : List (Option Held)) (i : ℕ) → slice_get slots i ≡ Some None → leading (drop i slots) ≡ []
unfolding leading
leading_stops [] zero at = refl
leading_stops [] (suc i) at = refl
leading_stops (None ∷ slots) zero at = refl
leading_stops (Some h ∷ slots) zero at = absurd (cc)
leading_stops (o ∷ slots) (suc i) at = leading_stops slots i at

pub leading_goes : (slots : List (Option Held)) (i : ℕ) (h : Held) → slice_get slots i ≡ Some (Some h) → leading (drop i slots) ≡ held_piece h ∷ leading (drop (suc i) slots)
unfolding leading
leading_goes [] i h at = absurd (cc)
leading_goes (None ∷ slots) zero h at = absurd (cc)
leading_goes (Some g ∷ slots) zero h at = let same : g ≡ h = (cc) in ap (λ (x : Held). held_piece x ∷ leading slots) same
leading_goes (o ∷ slots) (suc i) h at = leading_goes slots i h at

-- what is read at a slot says what stands from there on
leads_past : (slots : List (Option Held)) (i : ℕ) → slice_get slots i ≡ None → leading (drop i slots) ≡ []
unfolding leading
leads_past [] zero at = refl
leads_past [] (suc i) at = refl
leads_past (o ∷ slots) zero at = absurd (cc)
leads_past (o ∷ slots) (suc i) at = leads_past slots i at

pub leads_none : (slots : List (Option Held)) (i : ℕ) (read : Option (Bor (Option Held))) → option_copied read ≡ slice_get slots i → read ≡ None → leading (drop i slots) ≡ []
leads_none slots i None e is = leads_past slots i (sym e)
leads_none slots i (Some r) e is = absurd (cc)

pub leads_slot : (slots : List (Option Held)) (i : ℕ) (slot : Option Held) (held : Option (Bor Held)) → slice_get slots i ≡ Some slot → option_copied held ≡ slot
    → MatchOption held (leading (drop i slots) ≡ []) (λ h. leading (drop i slots) ≡ held_piece h.now ∷ leading (drop (i + 1) slots))
leads_slot slots i slot None at e = leading_stops slots i (at ∙ ap (λ (o : Option Held). Some o) (sym e))
leads_slot slots i slot (Some h) at e =
    let next : suc i ≡ i + 1 = omega arith in
    rw (← next) (leading_goes slots i h.now (at ∙ ap (λ (o : Option Held). Some o) (sym e)))

-- ---- keeping

-- with the first slot free, what is held lies above its number
pub held_end : (n high : ℕ) (slots : List (Option Held)) → slice_get slots 0 ≡ Some None → n + length slots ≤ high → AreHeld n high (held_from n slots)
unfolding held_from
held_end n high [] at le = absurd (cc)
held_end n high (None ∷ slots) at le = held_within n (n + 1) high slots (omega arith) (omega arith)
held_end n high (Some h ∷ slots) at le = absurd (cc)

pub ring_follows : (n : ℕ) (slots : List (Option Held)) → slice_get slots 0 ≡ Some None → following n (held_from n slots) ≡ leading (drop 1 slots)
unfolding held_from
ring_follows n [] at = absurd (cc)
ring_follows n (None ∷ slots) at = leading_follow n slots
ring_follows n (Some h ∷ slots) at = absurd (cc)

-- the slots once this many went on
pub ring_closed : (n m : ℕ) (slots : List (Option Held)) → slice_get slots 0 ≡ Some None → m ≡ 1 + length (leading (drop 1 slots))
    → drop (length (following n (held_from n slots))) (held_from n slots) ≡ held_from (n + m) (drop m slots ++ replicate m None)
unfolding held_from
ring_closed n m [] at e = absurd (cc)
ring_closed n m (None ∷ slots) at e =
    let len = length (leading slots) in
    let one : m ≡ suc len = omega arith in
    let at-is : (n + 1) + len ≡ n + suc len = omega arith in
    rw (one, held_more_free (n + suc len) (suc len) (drop len slots), leading_follow n slots) (held_left (n + 1) slots ∙ ap (λ (k : ℕ). held_from k (drop len slots)) at-is)
ring_closed n m (Some h ∷ slots) at e = absurd (cc)

pub ring_free : (m : ℕ) (slots : List (Option Held)) → slice_get slots 0 ≡ Some None → m ≡ 1 + length (leading (drop 1 slots)) → slice_get (drop m slots ++ replicate m None) 0 ≡ Some None
ring_free m [] at e = absurd (cc)
ring_free m (o ∷ slots) at e =
    let one : m ≡ suc (length (leading slots)) = omega arith in
    rw one (leading_ends slots (suc (length (leading slots))) (omega arith))

pub ring_fewer : (m : ℕ) (slots : List (Option Held)) → slice_get slots 0 ≡ Some None → m ≡ 1 + length (leading (drop 1 slots)) → m ≤ length slots
ring_fewer m [] at e = absurd (cc)
ring_fewer m (o ∷ slots) at e = omega (arith, e, leading_few slots)

pub ring_long : (m : ℕ) (slots : List (Option Held)) → m ≤ length slots → length (drop m slots ++ replicate m None) ≡ length slots
ring_long m slots le =
    let free : List (Option Held) = replicate m None in
    omega (arith, length-append (drop m slots) free, length-drop m slots, length-replicate {A = Option Held} m None)

-- one slot goes on
pub ring_step : (n cap : ℕ) (first items : List (Option Held)) → items ≡ drop n first ++ replicate n None → length first ≡ cap → n < length first
    → drop (length (drop 1 items ++ None ∷ []) - cap) (drop 1 items ++ None ∷ []) ≡ drop (n + 1) first ++ replicate (n + 1) None
ring_step n cap first items e full lt =
    let free : List (Option Held) = replicate n None in
    let rest = length-drop n first in
    let one : drop 1 items ≡ drop 1 (drop n first) ++ free = ap (λ (xs : List (Option Held)). drop 1 xs) e ∙ drop-append-le 1 (drop n first) free (omega arith) in
    let two : drop 1 (drop n first) ≡ drop (n + 1) first = drop-drop 1 n first in
    let three : free ++ None ∷ [] ≡ replicate (n + 1) None = replicate-append-replicate n 1 None in
    let all : drop 1 items ++ None ∷ [] ≡ drop (n + 1) first ++ replicate (n + 1) None = rw (one, two, ← three) (append_assoc (drop (n + 1) first) free (None ∷ [])) in
    let long = ring_long (n + 1) first (omega arith) in
    let zero-is : length (drop (n + 1) first ++ replicate (n + 1) None) - cap ≡ 0 = omega arith in
    rw (all, zero-is) refl

-- how many are held doesn't depend on the number of the first slot
held_any : (n m : ℕ) (slots : List (Option Held)) → length (held_from n slots) ≡ length (held_from m slots)
unfolding held_from
held_any n m [] = refl
held_any n m (None ∷ slots) = held_any (n + 1) (m + 1) slots
held_any n m (Some h ∷ slots) = ap (λ (k : ℕ). suc k) (held_any (n + 1) (m + 1) slots)

-- a slot that was free is filled
pub length-held_put : (n i : ℕ) (slots : List (Option Held)) (h : Held) → slice_get slots i ≡ Some None → length (held_from n (slice_set slots i (Some h))) ≡ length (held_from n slots) + 1
unfolding held_from
length-held_put n i [] h at = absurd (cc)
length-held_put n zero (None ∷ slots) h at = omega (arith, held_any n (n + 1) slots)
length-held_put n zero (Some g ∷ slots) h at = absurd (cc)
length-held_put n (suc i) (None ∷ slots) h at = length-held_put (n + 1) i slots h at
length-held_put n (suc i) (Some g ∷ slots) h at = let more = length-held_put (n + 1) i slots h at in omega arith

-- those in front are held
leading_held : (n : ℕ) (slots : List (Option Held)) → length (leading slots) ≤ length (held_from n slots)
unfolding held_from leading
leading_held n [] = omega arith
leading_held n (None ∷ slots) = omega arith
leading_held n (Some h ∷ slots) = let few = leading_held (n + 1) slots in omega arith

-- those that follow the next one are held
pub follows_held : (n : ℕ) (slots : List (Option Held)) → slice_get slots 0 ≡ Some None → length (leading (drop 1 slots)) ≤ length (held_from n slots)
unfolding held_from
follows_held n [] at = absurd (cc)
follows_held n (None ∷ slots) at = leading_held (n + 1) slots
follows_held n (Some h ∷ slots) at = absurd (cc)

-- those that follow the next one have left
pub length-ring_closed : (n k m : ℕ) (slots : List (Option Held)) → slice_get slots 0 ≡ Some None → m ≡ 1 + length (leading (drop 1 slots))
    → length (held_from k (drop m slots ++ replicate m None)) + length (leading (drop 1 slots)) ≡ length (held_from n slots)
length-ring_closed n k m slots at e =
    let after : List (Option Held) = drop m slots ++ replicate m None in
    let any = held_any k (n + m) after in
    let closed = ap length (ring_closed n m slots at e) in
    let dropped = length-drop (length (following n (held_from n slots))) (held_from n slots) in
    let follows = ap length (ring_follows n slots at) in
    let some = follows_held n slots at in
    omega (arith, any, closed, dropped, follows, some)

-- the k-th is held too
abbrev pub inserted : ℕ → Piece → List (ℕ × Piece) → List (ℕ × Piece)
inserted k p held = insert_key (λ a b. nat_cmp a.0 b.0) held (k, p)

-- the k-th isn't held
abbrev Lacks : ℕ → List (ℕ × Piece) → Type 0
Lacks k held = AllByRecursion (λ h. h.0 ≢ k) held

-- what is held above a number comes after it
inserted_low : (k low high : ℕ) (p : Piece) (held : List (ℕ × Piece)) → k ≤ low → AreHeld low high held → inserted k p held ≡ (k, p) ∷ held
unfolding AreHeld
inserted_low k low high p [] le all = refl
inserted_low k low high p (h ∷ held) le all = rw (lt-ltb k h.0 (omega (arith, all.0))) refl

inserted_past : (k : ℕ) (p : Piece) (h : ℕ × Piece) (held : List (ℕ × Piece)) → h.0 < k → inserted k p (h ∷ held) ≡ h ∷ inserted k p held
inserted_past k p h held lt = rw (le-ltb k h.0 (omega arith), ne_eqb k h.0 (λ e. omega arith)) refl

lacks_low : (k low high : ℕ) (held : List (ℕ × Piece)) → k ≤ low → AreHeld low high held → Lacks k held
unfolding AreHeld
lacks_low k low high [] le all = tt
lacks_low k low high (h ∷ held) le all = ((λ x. omega (arith, all.0)), lacks_low k h.0 high held (omega (arith, all.0)) all.2)

pub held_put : (n i : ℕ) (slots : List (Option Held)) (h : Held) → slice_get slots i ≡ Some None → held_from n (slice_set slots i (Some h)) ≡ inserted (n + i) (held_piece h) (held_from n slots)
unfolding held_from
held_put n i [] h at = absurd (cc)
held_put n zero (None ∷ slots) h at =
    let z : n + 0 ≡ n = omega arith in
    rw (z, inserted_low n n (n + 1 + length slots) (held_piece h) (held_from (n + 1) slots) (omega arith) (held_within n (n + 1) (n + 1 + length slots) slots (omega arith) (omega arith))) refl
held_put n zero (Some g ∷ slots) h at = absurd (cc)
held_put n (suc i) (None ∷ slots) h at =
    let e : (n + 1) + i ≡ n + suc i = omega arith in
    held_put (n + 1) i slots h at ∙ ap (λ (k : ℕ). inserted k (held_piece h) (held_from (n + 1) slots)) e
held_put n (suc i) (Some g ∷ slots) h at =
    let e : (n + 1) + i ≡ n + suc i = omega arith in
    ap (λ (hs : List (ℕ × Piece)). (n, held_piece g) ∷ hs) (held_put (n + 1) i slots h at ∙ ap (λ (k : ℕ). inserted k (held_piece h) (held_from (n + 1) slots)) e)
    ∙ sym (inserted_past (n + suc i) (held_piece h) (n, held_piece g) (held_from (n + 1) slots) (omega arith))

pub held_there : (n i : ℕ) (slots : List (Option Held)) (h : Held) (p : Piece) → slice_get slots i ≡ Some (Some h) → inserted (n + i) p (held_from n slots) ≡ held_from n slots
unfolding held_from
held_there n i [] h p at = absurd (cc)
held_there n zero (None ∷ slots) h p at = absurd (cc)
held_there n zero (Some g ∷ slots) h p at = let z : n + 0 ≡ n = omega arith in rw (z, le-ltb n n (omega arith), eq-eqb n n refl) refl
held_there n (suc i) (None ∷ slots) h p at =
    let e : n + suc i ≡ (n + 1) + i = omega arith in
    ap (λ (k : ℕ). inserted k p (held_from (n + 1) slots)) e ∙ held_there (n + 1) i slots h p at
held_there n (suc i) (Some g ∷ slots) h p at =
    let e : n + suc i ≡ (n + 1) + i = omega arith in
    inserted_past (n + suc i) p (n, held_piece g) (held_from (n + 1) slots) (omega arith)
    ∙ ap (λ (hs : List (ℕ × Piece)). (n, held_piece g) ∷ hs) (ap (λ (k : ℕ). inserted k p (held_from (n + 1) slots)) e ∙ held_there (n + 1) i slots h p at)

pub held_lacks : (n i : ℕ) (slots : List (Option Held)) → slice_get slots i ≡ Some None → Lacks (n + i) (held_from n slots)
unfolding held_from
held_lacks n i [] at = absurd (cc)
held_lacks n zero (None ∷ slots) at =
    let z : n + 0 ≡ n = omega arith in
    rw z (lacks_low n n (n + 1 + length slots) (held_from (n + 1) slots) (omega arith) (held_within n (n + 1) (n + 1 + length slots) slots (omega arith) (omega arith)))
held_lacks n zero (Some g ∷ slots) at = absurd (cc)
held_lacks n (suc i) (None ∷ slots) at = let e : (n + 1) + i ≡ n + suc i = omega arith in subst (λ (k : ℕ). Lacks k (held_from (n + 1) slots)) e (held_lacks (n + 1) i slots at)
held_lacks n (suc i) (Some g ∷ slots) at =
    let e : (n + 1) + i ≡ n + suc i = omega arith in
    ((λ x. omega arith), subst (λ (k : ℕ). Lacks k (held_from (n + 1) slots)) e (held_lacks (n + 1) i slots at))

-- ---- what is held of the messages

-- those that follow are the next segments
pub following_next : (k : ℕ) (segments : List Piece) (held : List (ℕ × Piece)) → AllByRecursion (λ h. slice_get segments (h.0 - 1) ≡ Some h.1) held → AreNext segments k (following k held)
unfolding AreNext following
following_next k segments [] all = tt
following_next k segments (h ∷ held) all = elim (cases_eq h.0 (k + 1)) [
  | inl e ↦
      let at : h.0 - 1 ≡ k = omega arith in
      rw (eq-eqb h.0 (k + 1) e) (rw at at all.0, following_next (k + 1) segments held all.1)
  | inr ne ↦ rw (ne_eqb h.0 (k + 1) ne) tt
]

pub all_drop : (segments : List Piece) (n : ℕ) (held : List (ℕ × Piece)) → AllByRecursion (λ h. slice_get segments (h.0 - 1) ≡ Some h.1) held → AllByRecursion (λ h. slice_get segments (h.0 - 1) ≡ Some h.1) (drop n held)
all_drop segments zero held all = all
all_drop segments (suc n) [] all = tt
all_drop segments (suc n) (h ∷ held) all = all_drop segments n held all.1

pub all_inserted : (segments : List Piece) (k : ℕ) (p : Piece) (held : List (ℕ × Piece)) → slice_get segments (k - 1) ≡ Some p → AllByRecursion (λ h. slice_get segments (h.0 - 1) ≡ Some h.1) held → AllByRecursion (λ h. slice_get segments (h.0 - 1) ≡ Some h.1) (inserted k p held)
all_inserted segments k p [] at all = (at, tt)
all_inserted segments k p (h ∷ held) at all = elim (cases_lt k h.0) [
  | inl lt ↦ rw (lt-ltb k h.0 lt) (at, all)
  | inr le ↦ elim (cases_eq k h.0) [
    | inl e ↦ rw (le-ltb k h.0 le, eq-eqb k h.0 e) all
    | inr ne ↦ rw (le-ltb k h.0 le, ne_eqb k h.0 ne) (all.0, all_inserted segments k p held at all.1)
  ]
]

-- ---- what reading a slot says

free_read : (o : Option (Option Held)) (b : Bool) → MatchOption o (b ≡ false) (λ x. b ≡ is_none x) → b ≡ true → o ≡ Some None
free_read None b m e = absurd cc
free_read (Some None) b m e = refl
free_read (Some (Some h)) b m e = absurd cc

pub is_free_read : (slots : List (Option Held)) (i : ℕ) (b : Bool) → MatchOption (slice_get slots i) (b ≡ false) (λ x. b ≡ is_none x) → b ≡ true → slice_get slots i ≡ Some None
is_free_read slots i b m e = free_read (slice_get slots i) b m e

pub data Taken (o : Option (Option Held)) : Type 0 where
  beyond : o ≡ None → Taken o
  there : (h : Held) → o ≡ Some (Some h) → Taken o

taken_read : (o : Option (Option Held)) (b : Bool) → MatchOption o (b ≡ false) (λ x. b ≡ is_none x) → b ≡ false → Taken o
taken_read None b m e = beyond refl
taken_read (Some None) b m e = absurd cc
taken_read (Some (Some h)) b m e = there h refl

pub is_taken_read : (slots : List (Option Held)) (i : ℕ) (b : Bool) → MatchOption (slice_get slots i) (b ≡ false) (λ x. b ≡ is_none x) → b ≡ false → Taken (slice_get slots i)
is_taken_read slots i b m e = taken_read (slice_get slots i) b m e
