-- The first part of a text, and the others, with a byte between each two; the words of a line are such parts.
use Rattle.std.proofs.Common.{◌≡◌, ◌<◌, ◌≤◌, ◌+◌, ◌==◌, ℕ, List, [], ◌∷◌, length, take, drop, ap, arith, Bool, Some, None, cond, nat_lt}
use Rattle.std.specs.List.{position, position_or_len, slice_split}
use Rattle.std.proofs.lemmas.List.Splits.{slice_split_first, slice_split_none, length-slice_split}
use Rattle.std.proofs.lemmas.List.Quantifiers.{position-Some}
use Rattle.std.proofs.lemmas.List.Sums.{position_or_len_is, fails_before_first}
use Rattle.std.proofs.lemmas.Bool.Decides.{nat_tests}
use Rattle.texts.specs.Words.{words_of}

abbrev is_byte : ℕ → ℕ → Bool
is_byte between byte = byte == between

pub some_part : (between : ℕ) (text : List ℕ) (end : ℕ) → position (λ byte. byte == between) text ≡ Some end → (slice_split (λ byte. byte == between) text ≡ take end text ∷ slice_split (λ byte. byte == between) (drop (end + 1) text)) × (end < length text)
some_part between text end found =
    let at = position-Some (is_byte between) text end 0 found in
    let here : position_or_len (is_byte between) text ≡ end = position_or_len_is (is_byte between) text end 0 (omega (arith, at.0)) at.2 (λ h. at.1) in
    let inside : position_or_len (is_byte between) text < length text = omega (arith, at.0) in
    (rw here at (slice_split_first (is_byte between) text 0 inside), at.0)

nowhere : (at count : ℕ) → cond (nat_lt at count) (Some at) None ≡ None → count ≤ at
nowhere at count none = grind (arith, nat_tests)

pub only_part : (between : ℕ) (text : List ℕ) → position (λ byte. byte == between) text ≡ None → slice_split (λ byte. byte == between) text ≡ text ∷ []
only_part between text none =
    let past : length text ≤ position_or_len (is_byte between) text = nowhere (position_or_len (is_byte between) text) (length text) none in
    slice_split_none (is_byte between) text (λ k d h. fails_before_first (is_byte between) text k d (omega arith))

pub some_words : (line : List ℕ) → words_of line ≡ [] → ⊥
some_words line none =
    let count : length (words_of line) ≡ 0 = ap length none in
    absurd (omega (arith, length-slice_split (is_byte 32) line, count))
