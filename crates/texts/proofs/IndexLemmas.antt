-- Where a byte stands first.
use Rattle.std.proofs.Common.{◌≡◌, ◌<◌, ◌==◌, ℕ, List, length, refl, arith, Bool, true, false, Option, Some, None, cond, nat_lt}
use Rattle.std.specs.List.{position, position_or_len}
use Rattle.std.proofs.lemmas.List.Sums.{position_or_len_is}
use Rattle.std.proofs.lemmas.Bool.Decides.{nat_tests}
use Rattle.memchr.specs.Find.{IsFirstByte, is_byte}

not_passed : (b : Bool) → (b ≡ true → ⊥) → b ≡ false
not_passed true never = absurd (never refl)
not_passed false never = refl

found_at : (at count k : ℕ) → at ≡ k → k < count → Some k ≡ cond (nat_lt at count) (Some at) None
found_at at count k same below = grind (arith, nat_tests)

found_nowhere : (at count : ℕ) → at ≡ count → None ≡ cond (nat_lt at count) (Some at) None
found_nowhere at count same = grind (arith, nat_tests)

-- what a search for the first index of a byte finds
pub first_index : (wanted : ℕ) (bytes : List ℕ) (found : Option ℕ) → IsFirstByte (is_byte wanted) bytes found → found ≡ position (λ byte. byte == wanted) bytes
first_index wanted bytes None nowhere =
    let all : position_or_len (λ byte. byte == wanted) bytes ≡ length bytes =
    position_or_len_is (λ byte. byte == wanted) bytes (length bytes) 0 (omega arith) (λ k below. not_passed _ (nowhere k (omega arith) below)) (λ past. absurd (omega (arith, past))) in
    found_nowhere (position_or_len (λ byte. byte == wanted) bytes) (length bytes) all
first_index wanted bytes (Some k) found =
    let here : position_or_len (λ byte. byte == wanted) bytes ≡ k =
    position_or_len_is (λ byte. byte == wanted) bytes k 0 (omega (arith, found.0.high)) (λ j below. not_passed _ (found.0.before j (omega arith) below)) (λ inside. found.1) in
    found_at (position_or_len (λ byte. byte == wanted) bytes) (length bytes) k here found.0.high
