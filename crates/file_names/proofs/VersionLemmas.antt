-- Numbers that digits spell, read one after another.
use Rattle.std.proofs.Common.{◌≡◌, ◌<◌, ◌+◌, ◌*◌, ◌-◌, ℕ, Bool, true, false, List, length, take, Some, None, sym, ◌∙◌, arith, cond, refl, lit≤}
use Rattle.std.specs.Prelude.{get_or, nat_le, ◌&&◌}
use Rattle.std.specs.Char.{digit_value, is_ascii_digit}
use Rattle.std.specs.List.{list_all}
use Rattle.std.specs.Str.Parse.{digits_value}
use Rattle.std.proofs.lemmas.Bool.Decides.{nat_tests}
use Rattle.std.proofs.lemmas.Int.Digits.{digits_value_more}
use Rattle.std.proofs.lemmas.List.Folds.{list_all_at}
use Rattle.std.proofs.lemmas.Str.Parse.{digits_value-take-le}

value_of : (c : ℕ) → is_ascii_digit c ≡ true → digit_value c ≡ c - 48
value_of c h = grind (arith, nat_tests)

-- each byte is a digit
is_digit : (text : List ℕ) (i : ℕ) → list_all is_ascii_digit text ≡ true → i < length text → is_ascii_digit (get_or text i 0) ≡ true
is_digit text i are inside = by (is_ascii_digit (get_or text i 0)) refl
  where
    by : (b : Bool) → is_ascii_digit (get_or text i 0) ≡ b → is_ascii_digit (get_or text i 0) ≡ true
    by true e = e
    by false e = let no : true ≡ false = sym are ∙ list_all_at is_ascii_digit text i 0 inside e in absurd cc

-- the number that one digit more makes
pub next_value : (text : List ℕ) (i number : ℕ) → list_all is_ascii_digit text ≡ true → i < length text → number ≡ digits_value 10 (take i text)
    → 10 * number + (get_or text i 0 - 48) ≡ digits_value 10 (take (i + 1) text)
next_value text i number are inside so_far =
    let more = digits_value_more 10 text i inside in
    let value = value_of (get_or text i 0) (is_digit text i are inside) in
    omega (arith, more, value, so_far)

past : (a : Bool) (most value : ℕ) → most < value → cond (a && nat_le value most) (Some value) None ≡ None
past a most value more = grind (arith, nat_tests)

-- a number that is too great when not all digits were read
pub too_great : (text : List ℕ) (i number most : ℕ) → list_all is_ascii_digit text ≡ true → i < length text → number ≡ digits_value 10 (take i text)
    → most < 10 * number + (get_or text i 0 - 48)
    → cond (list_all is_ascii_digit text && nat_le (digits_value 10 text) most) (Some (digits_value 10 text)) None ≡ None
too_great text i number most are inside so_far more =
    past (list_all is_ascii_digit text) most (digits_value 10 text)
    (omega (arith, more, next_value text i number are inside so_far, digits_value-take-le 10 text (i + 1) (lit≤ tt)))
