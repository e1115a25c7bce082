-- The digits of values below 16.
use Rattle.std.proofs.Common.{◌≡◌, ◌<◌, ◌≤◌, ◌+◌, ◌-◌, ◌==◌, ◌&&◌, ℕ, zero, suc, Bool, true, slice_index, cond, nat_lt, arith, inl, inr, ◌∙◌, refl}
use Rattle.std.proofs.lemmas.Bool.{and_parts, cases_lt, eqb-true}
use Rattle.std.proofs.lemmas.Bool.Decides.{nat_tests}
use Rattle.hex.specs.Hex.{lower_digits}

abbrev digit : ℕ → ℕ
digit v = cond (nat_lt v 10) (48 + v) (87 + v)

abbrev is_digit : ℕ → Bool
is_digit v = slice_index lower_digits v == digit v

abbrev are_digits : ℕ → Bool
are_digits zero = true
are_digits (suc n) = is_digit n && are_digits n

among : (n v : ℕ) → are_digits n ≡ true → v < n → is_digit v ≡ true
among zero v all below = absurd (omega arith)
among (suc n) v all below =
    let parts = and_parts (is_digit n) (are_digits n) all in
    elim (cases_lt v n) [
      | inl less ↦ among n v parts.1 less
      | inr top ↦
          let same : v ≡ n = omega arith in
          rw same parts.0
    ]

below_sixteen : (v : ℕ) → v < 16 → slice_index lower_digits v ≡ digit v
below_sixteen v below = eqb-true (slice_index lower_digits v) (digit v) (among 16 v refl below)

is_number : (v : ℕ) → v < 10 → digit v ≡ 48 + v
is_number v below = grind (arith, nat_tests)

is_letter : (v : ℕ) → 10 ≤ v → digit v ≡ 97 + (v - 10)
is_letter v from = grind (arith, nat_tests)

pub number_digit : (v : ℕ) → v < 10 → slice_index lower_digits v ≡ 48 + v
number_digit v below = below_sixteen v (omega arith) ∙ is_number v below

pub letter_digit : (v : ℕ) → 10 ≤ v → v < 16 → slice_index lower_digits v ≡ 97 + (v - 10)
letter_digit v from below = below_sixteen v below ∙ is_letter v from
