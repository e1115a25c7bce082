-- Hex text decodes.
use Rattle.std.proofs.Common.{◌≡◌, ◌*◌, ◌/◌, ◌%◌, ℕ, List, length, get_or, true, Ok, arith}
use Rattle.std.specs.List.{AllPass, list_all}
use Rattle.std.specs.Char.{is_ascii_hexdigit}
use Rattle.std.proofs.lemmas.List.Sums.{AllPass-from_list_all}
use Rattle.std.proofs.lemmas.Bool.Decides.{nat_tests}
use Rattle.hex.specs.Hex.{decode_of, is_hex_digit}
use Rattle.hex.proofs.HexLemmas.{decode_of-digits}
use Rattle.texts.specs.Words.{is_hex_text}

same_digit : (c : ℕ) → is_ascii_hexdigit c ≡ true → is_hex_digit c ≡ true
same_digit c h = grind (arith, nat_tests)

parts : (digits : List ℕ) → is_hex_text digits ≡ true → (length digits % 2 ≡ 0) × (list_all is_ascii_hexdigit digits ≡ true)
parts digits h = grind (arith, nat_tests)

pub all_digits : (digits : List ℕ) → is_hex_text digits ≡ true → AllPass is_hex_digit digits
all_digits digits h k d below =
    same_digit (get_or digits k d) (AllPass-from_list_all is_ascii_hexdigit digits ((parts digits h).1) k d below)

pub even_hex : (digits : List ℕ) → is_hex_text digits ≡ true → length digits ≡ 2 * (length digits / 2)
even_hex digits h = let p = parts digits h in omega (arith, p.0)

pub hex_decodes : (digits : List ℕ) → is_hex_text digits ≡ true → (bytes : List ℕ) × (decode_of digits ≡ Ok bytes)
hex_decodes digits h = decode_of-digits digits ((parts digits h).0) (all_digits digits h)
