-- What decimal digits stand for.
use Rattle.std.proofs.Common.{◌≡◌, ◌+◌, ◌*◌, ◌-◌, ℕ, true, List, refl, ap, arith}
use Rattle.std.specs.Char.{is_ascii_digit}
use Rattle.std.specs.Int.{IsInRange}
use Rattle.std.specs.List.{fold, list_all}
use Rattle.std.specs.Str.Parse.{digits_value}
use Rattle.std.proofs.lemmas.Bool.{and_from, and_parts}
use Rattle.std.proofs.lemmas.Bool.Decides.{nat_tests}
use Rattle.std.proofs.lemmas.Str.Parse.{FoldsDigits, IsDigitsTest, IsNumeralModel, numerals_by_fold, numerals_by_value}
use Rattle.texts.specs.Inner.Words.{decimal_value}

in_range : (c : ℕ) → is_ascii_digit c ≡ true → IsInRange 48 57 c
in_range c h = grind (arith, nat_tests)

from_range : (c : ℕ) → IsInRange 48 57 c → is_ascii_digit c ≡ true
from_range c h = grind (arith, nat_tests)

abbrev AreDigits : List ℕ → Type 0
AreDigits digits = list_all is_ascii_digit digits ≡ true

tells : IsDigitsTest AreDigits
tells = record {
  empty = refl;
  parts = λ c cs all. let both = and_parts (is_ascii_digit c) (list_all is_ascii_digit cs) all in (in_range c both.0, both.1);
  more = λ c cs here others. and_from (is_ascii_digit c) (list_all is_ascii_digit cs) (from_range c here) others;
}

abbrev value_from : ℕ → List ℕ → ℕ
value_from n digits = fold (λ number digit. 10 * number + (digit - 48)) n digits

turned : (n c : ℕ) → 10 * n + (c - 48) ≡ n * 10 + (c - 48)
turned n c = omega arith

folds : FoldsDigits value_from
folds = record { empty = λ n. refl; more = λ n c cs here. ap (λ m. value_from m cs) (turned n c) }

folded : IsNumeralModel AreDigits (value_from 0)
folded = numerals_by_fold AreDigits tells value_from folds

pub values : IsNumeralModel AreDigits (digits_value 10)
values = numerals_by_value AreDigits tells

-- the digits stand for one number, in both words
pub value_is : (word : List ℕ) → list_all is_ascii_digit word ≡ true → decimal_value word ≡ digits_value 10 word
value_is word are = folded.same word (folded.to word are)
