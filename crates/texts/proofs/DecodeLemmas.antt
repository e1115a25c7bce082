-- What hex digits stand for.
use Rattle.std.proofs.Common.{◌≡◌, ◌<◌, ◌≤◌, ◌+◌, ◌-◌, ◌*◌, ◌⊎◌, ℕ, Bool, true, false, Some, None, Ok, refl, arith, inl, inr}
use Rattle.std.proofs.lemmas.Bool.Decides.{nat_tests}
use Rattle.hex.specs.Hex.{hex_digit_value, is_hex_digit, pair_value}

pub in_range : (c : ℕ) → is_hex_digit c ≡ true → ((48 ≤ c) × (c ≤ 57)) ⊎ (((65 ≤ c) × (c ≤ 70)) ⊎ ((97 ≤ c) × (c ≤ 102)))
in_range c h = grind (arith, nat_tests)

pub number : (c : ℕ) → 48 ≤ c → c ≤ 57 → hex_digit_value c ≡ Some (c - 48)
number c low high = grind (arith, nat_tests, low, high)

pub capital : (c : ℕ) → 65 ≤ c → c ≤ 70 → hex_digit_value c ≡ Some (c - 55)
capital c low high = grind (arith, nat_tests, low, high)

pub small_letter : (c : ℕ) → 97 ≤ c → c ≤ 102 → hex_digit_value c ≡ Some (c - 87)
small_letter c low high = grind (arith, nat_tests, low, high)

pub pair_is : (high low a b index : ℕ) → hex_digit_value high ≡ Some a → hex_digit_value low ≡ Some b → pair_value high low index ≡ Ok (a * 16 + b)
pair_is high low a b index one two = rw (one, two) refl
