-- The lines of an input, one after another.
use Rattle.std.proofs.Common.{◌≡◌, ◌⊎◌, inl, inr, ◌==◌, ◌&&◌, ℕ, zero, suc, ◌+◌, ◌-◌, ◌<◌, nat_lt, Bool, true, false, List, [], ◌∷◌, ◌++◌, length, length-append, take, if◌then◌else◌, arith, refl, ap, sym, ◌∙◌, eqb-true}
use Rattle.std.specs.Prelude.{slice_index}
use Rattle.std.specs.List.{All, slice_split}
use Rattle.std.specs.Io.BufRead.{drop_through, ends_with_byte, first_line, strip_last, take_through}
use Rattle.std.specs.Str.Lines.{lines, lines_of_parts, strip_carriage_return}
use Rattle.std.proofs.lemmas.Bool.Decides.{nat_tests}
use Rattle.std.proofs.lemmas.List.Splits.{length-slice_split, slice_split_at, slice_split_none}
use Rattle.decnet_frames.proofs.BoolLemmas.{by_bool}

abbrev is_feed : ℕ → Bool
is_feed byte = byte == 10

-- bytes without a line feed
Lacks : List ℕ → Type 0
Lacks xs = All (λ x. is_feed x ≡ false) xs

lacks_cons : (x : ℕ) (xs : List ℕ) → is_feed x ≡ false → Lacks xs → Lacks (x ∷ xs)
unfolding Lacks
lacks_cons x xs one all zero d below = one
lacks_cons x xs one all (suc k) d below = all k d (omega arith)

-- what is up to the first line feed and after it
record Cut (rest before after : List ℕ) : Type 0 where
  pub is : rest ≡ before ++ 10 ∷ after
  pub lacks : Lacks before
  pub through : take_through 10 rest ≡ before ++ 10 ∷ []
  pub behind : drop_through 10 rest ≡ after

record Uncut (rest : List ℕ) : Type 0 where
  pub lacks : Lacks rest
  pub through : take_through 10 rest ≡ rest
  pub behind : drop_through 10 rest ≡ []

feed_is : (x : ℕ) → (x == 10) ≡ true → x ≡ 10
feed_is x h = eqb-true _ _ h

cut_here : (x : ℕ) (xs : List ℕ) → (x == 10) ≡ true → Cut (x ∷ xs) [] xs
unfolding Lacks
cut_here x xs h = record {
  is = ap (λ y. y ∷ xs) (feed_is x h);
  lacks = λ k d below. absurd (omega arith);
  through = ap (λ b. if b then x ∷ [] else x ∷ take_through 10 xs) h ∙ ap (λ y. y ∷ []) (feed_is x h);
  behind = ap (λ b. if b then xs else drop_through 10 xs) h;
}

cut_later : (x : ℕ) (xs before after : List ℕ) → (x == 10) ≡ false → Cut xs before after → Cut (x ∷ xs) (x ∷ before) after
cut_later x xs before after h c = record {
  is = ap (λ l. x ∷ l) c.is;
  lacks = lacks_cons x before h c.lacks;
  through = ap (λ b. if b then x ∷ [] else x ∷ take_through 10 xs) h ∙ ap (λ l. x ∷ l) c.through;
  behind = ap (λ b. if b then xs else drop_through 10 xs) h ∙ c.behind;
}

uncut_more : (x : ℕ) (xs : List ℕ) → (x == 10) ≡ false → Uncut xs → Uncut (x ∷ xs)
uncut_more x xs h c = record {
  lacks = lacks_cons x xs h c.lacks;
  through = ap (λ b. if b then x ∷ [] else x ∷ take_through 10 xs) h ∙ ap (λ l. x ∷ l) c.through;
  behind = ap (λ b. if b then xs else drop_through 10 xs) h ∙ c.behind;
}

later : (x : ℕ) (xs : List ℕ) → (x == 10) ≡ false → Uncut xs ⊎ ((before after : List ℕ) × Cut xs before after) → Uncut (x ∷ xs) ⊎ ((before after : List ℕ) × Cut (x ∷ xs) before after)
later x xs h (inl uncut) = inl (uncut_more x xs h uncut)
later x xs h (inr (before, after, cut)) = inr (x ∷ before, after, cut_later x xs before after h cut)

cut_or_not : (rest : List ℕ) → Uncut rest ⊎ ((before after : List ℕ) × Cut rest before after)
unfolding Lacks
cut_or_not [] = inl (record { lacks = λ k d below. absurd (omega arith); through = refl; behind = refl })
cut_or_not (x ∷ xs) =
    by_bool (x == 10)
    (λ t. inr ([], xs, cut_here x xs t))
    (λ f. later x xs f (cut_or_not xs))

-- ---- a line that has its end

last_is : (xs : List ℕ) (y : ℕ) → slice_index (xs ++ y ∷ []) (length xs) ≡ y
last_is [] y = refl
last_is (x ∷ xs) y = last_is xs y

take_all_but : (xs : List ℕ) (y : ℕ) → take (length xs) (xs ++ y ∷ []) ≡ xs
take_all_but [] y = refl
take_all_but (x ∷ xs) y = ap (λ l. x ∷ l) (take_all_but xs y)

some_lt : (n : ℕ) → (nat_lt 0 (n + 1) && true) ≡ true
some_lt n = grind (arith, nat_tests)

ends_so : (xs : List ℕ) → ends_with_byte 10 (xs ++ 10 ∷ []) ≡ true
ends_so xs =
    let size : length (xs ++ 10 ∷ []) ≡ length xs + 1 = length-append xs (10 ∷ []) in
    let at : length (xs ++ 10 ∷ []) - 1 ≡ length xs = omega (arith, size) in
    ap (λ n. nat_lt 0 (length (xs ++ 10 ∷ [])) && (slice_index (xs ++ 10 ∷ []) n == 10)) at
    ∙ ap (λ y. nat_lt 0 (length (xs ++ 10 ∷ [])) && (y == 10)) (last_is xs 10) ∙ ap (λ n. nat_lt 0 n && true) size ∙ some_lt (length xs)

stripped : (xs : List ℕ) → strip_last 10 (xs ++ 10 ∷ []) ≡ xs
stripped xs =
    let size : length (xs ++ 10 ∷ []) ≡ length xs + 1 = length-append xs (10 ∷ []) in
    let at : length (xs ++ 10 ∷ []) - 1 ≡ length xs = omega (arith, size) in
    ap (λ b. if b then take (length (xs ++ 10 ∷ []) - 1) (xs ++ 10 ∷ []) else xs ++ 10 ∷ []) (ends_so xs) ∙ ap (λ n. take n (xs ++ 10 ∷ [])) at ∙ take_all_but xs 10

some_bytes : (x : ℕ) (xs : List ℕ) → nat_lt 0 (length (x ∷ xs)) ≡ true
some_bytes x xs = grind (arith, nat_tests)

-- a carriage return goes in the same way
returns_same : (xs : List ℕ) → strip_last 13 xs ≡ strip_carriage_return xs
returns_same [] = refl
returns_same (x ∷ xs) =
    ap (λ b. if b && (slice_index (x ∷ xs) (length (x ∷ xs) - 1) == 13) then take (length (x ∷ xs) - 1) (x ∷ xs) else x ∷ xs) (some_bytes x xs)

parts_some : (xs : List ℕ) → 0 < length (slice_split is_feed xs)
parts_some xs = let size = length-slice_split is_feed xs in omega (arith, size)

more_parts : (part : List ℕ) (parts : List (List ℕ)) → 0 < length parts → lines_of_parts (part ∷ parts) ≡ strip_carriage_return part ∷ lines_of_parts parts
more_parts part [] some = absurd (omega arith)
more_parts part (next ∷ parts) some = refl

line_cut : (rest before after : List ℕ) → Cut rest before after → lines rest ≡ first_line rest ∷ lines (drop_through 10 rest)
unfolding Lacks
line_cut rest before after c =
    let split : slice_split is_feed rest ≡ before ∷ slice_split is_feed after = ap (λ l. slice_split is_feed l) c.is ∙ slice_split_at is_feed before 10 after c.lacks refl in
    let first : first_line rest ≡ strip_carriage_return before =
    ap (λ l. if ends_with_byte 10 l then strip_last 13 (strip_last 10 l) else strip_last 10 l) c.through
    ∙ ap (λ b. if b then strip_last 13 (strip_last 10 (before ++ 10 ∷ [])) else strip_last 10 (before ++ 10 ∷ [])) (ends_so before)
    ∙ ap (λ l. strip_last 13 l) (stripped before) ∙ returns_same before in
    ap (λ l. lines_of_parts l) split ∙ more_parts before (slice_split is_feed after) (parts_some after) ∙ ap (λ l. l ∷ lines after) (sym first)
    ∙ ap (λ l. first_line rest ∷ lines l) (sym c.behind)

-- ---- the last line, without its end

not_ended : (rest : List ℕ) → Lacks rest → ends_with_byte 10 rest ≡ false
unfolding Lacks
not_ended [] lacks = refl
not_ended (x ∷ xs) lacks =
    ap (λ b. b && (slice_index (x ∷ xs) (length (x ∷ xs) - 1) == 10)) (some_bytes x xs) ∙ lacks (length (x ∷ xs) - 1) 0 (omega arith)

one_part : (x : ℕ) (xs : List ℕ) → lines_of_parts ((x ∷ xs) ∷ []) ≡ (x ∷ xs) ∷ []
one_part x xs = grind (arith, nat_tests)

line_uncut : (rest : List ℕ) → 0 < length rest → Uncut rest → lines rest ≡ first_line rest ∷ lines (drop_through 10 rest)
unfolding Lacks
line_uncut [] some c = absurd (omega arith)
line_uncut (x ∷ xs) some c =
    let rest : List ℕ = x ∷ xs in
    let split : slice_split is_feed rest ≡ rest ∷ [] = slice_split_none is_feed rest c.lacks in
    let ends = not_ended rest c.lacks in
    let first : first_line rest ≡ rest =
    ap (λ l. if ends_with_byte 10 l then strip_last 13 (strip_last 10 l) else strip_last 10 l) c.through
    ∙ ap (λ b. if b then strip_last 13 (strip_last 10 rest) else strip_last 10 rest) ends
    ∙ ap (λ b. if b then take (length rest - 1) rest else rest) ends in
    ap (λ l. lines_of_parts l) split ∙ one_part x xs ∙ ap (λ l. l ∷ []) (sym first) ∙ ap (λ l. first_line rest ∷ lines l) (sym c.behind)

either : (rest : List ℕ) → 0 < length rest → Uncut rest ⊎ ((before after : List ℕ) × Cut rest before after) → lines rest ≡ first_line rest ∷ lines (drop_through 10 rest)
either rest some (inl uncut) = line_uncut rest some uncut
either rest some (inr (before, after, cut)) = line_cut rest before after cut

pub line_more : (rest : List ℕ) → 0 < length rest → lines rest ≡ first_line rest ∷ lines (drop_through 10 rest)
line_more rest some = either rest some (cut_or_not rest)

-- ---- the first line and what is after it

pub through_all : (rest : List ℕ) → take_through 10 rest ++ drop_through 10 rest ≡ rest
through_all [] = refl
through_all (x ∷ xs) =
    by_bool (x == 10)
    (λ t. rw t refl)
    (λ f. rw f (ap (λ l. x ∷ l) (through_all xs)))
