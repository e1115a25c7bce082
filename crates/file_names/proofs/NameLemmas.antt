-- The name of a version finds that version.
use Rattle.std.proofs.Common.{◌≡◌, ℕ, ◌+◌, ◌-◌, ◌*◌, ◌<◌, ◌≤◌, ◌==◌, ◌&&◌, nat_lt, Bool, true, false, List, [], ◌∷◌, ◌++◌, length, drop, cond, if◌then◌else◌, Option, Some, None, refl, ap, sym, ◌∙◌, arith}
use Rattle.std.specs.Prelude.{bytes_eq, nat_le}
use Rattle.std.specs.Char.{digit_value, is_ascii_digit}
use Rattle.std.specs.Fmt.{decimal}
use Rattle.std.specs.List.{list_all, position_or_len}
use Rattle.std.specs.Option.{option_map_or}
use Rattle.std.specs.Str.Parse.{AllDigits, digits_value, digits_value_after}
use Rattle.std.proofs.Math.Seq.{drop-append-add}
use Rattle.std.proofs.lemmas.Bool.Decides.{nat_tests}
use Rattle.std.proofs.lemmas.Fmt.{decimal_is_IsNumeral}
use Rattle.std.proofs.lemmas.List.{length-append}
use Rattle.file_names.specs.declared.versions.Wanted.{Wanted}
use Rattle.file_names.specs.declared.versions.Wanted.TheVariants.{Latest, Version, All, Nothing}
use Rattle.file_names.specs.Folds.{after_last, ends_directory, fold, is_byte}
use Rattle.file_names.specs.Versions.{asked_for, dropped_digits, max_version, numbered, version_in_tail, version_name, version_number, version_part, version_wanted}
use Rattle.file_names.proofs.FoldLemmas.{fold_counts, fold_with_number, numbered_same, semicolon_at}

a_digit : (c : ℕ) → digit_value c < 10 → is_ascii_digit c ≡ true
a_digit c h = grind (arith, nat_tests, h)

are_digits : (digits : List ℕ) → AllDigits 10 digits → list_all is_ascii_digit digits ≡ true
are_digits [] h = refl
are_digits (c ∷ digits) h = ap (λ b. b && list_all is_ascii_digit digits) (a_digit c h.0) ∙ are_digits digits h.1

decimal_digits : (number : ℕ) → number ≤ max_version → list_all is_ascii_digit (decimal number) ≡ true
decimal_digits number le = are_digits (decimal number) (decimal_is_IsNumeral number (omega (arith, le))).0.1

pub fold_of_version : (name : List ℕ) (number : ℕ) → number ≤ max_version → fold (version_name name number) ≡ fold name
fold_of_version name number le = fold_with_number name (decimal number) (decimal_digits number le)

-- ---- the number

abbrev number_of : Wanted → ℕ
number_of wanted = elim wanted [ Latest ↦ 0 | Version n ↦ n | All ↦ 0 | Nothing ↦ 0 ]

zero_digit : (c : ℕ) → is_byte 0x30 c ≡ true → digit_value c ≡ 0
zero_digit c h = grind (arith, nat_tests, h)

and_one : (a b : Bool) → (a && b) ≡ true → a ≡ true
and_one true b e = refl
and_one false b e = e

and_two : (a b : Bool) → (a && b) ≡ true → b ≡ true
and_two true b e = e
and_two false b e = cc

zeros_value : (n : ℕ) (digits : List ℕ) → n ≡ 0 → list_all (is_byte 0x30) digits ≡ true → digits_value_after 10 n digits ≡ 0
zeros_value n [] z h = z
zeros_value n (c ∷ digits) z h =
    let one = zero_digit c (and_one (is_byte 0x30 c) (list_all (is_byte 0x30) digits) h) in
    zeros_value (n * 10 + digit_value c) digits (omega (arith, z, one)) (and_two (is_byte 0x30 c) (list_all (is_byte 0x30) digits) h)

-- digits are no star
no_star : (digits : List ℕ) → list_all is_ascii_digit digits ≡ true → bytes_eq digits (0x2A ∷ []) ≡ false
no_star [] h = refl
no_star (c ∷ digits) h = starts c digits (and_one (is_ascii_digit c) (list_all is_ascii_digit digits) h)
  where
    starts : (c : ℕ) (digits : List ℕ) → is_ascii_digit c ≡ true → bytes_eq (c ∷ digits) (0x2A ∷ []) ≡ false
    starts c digits e = grind (arith, nat_tests, e)

le_is : (a b : ℕ) → a ≤ b → nat_le a b ≡ true
le_is a b h = grind (arith, nat_tests, h)

number_asked : (digits : List ℕ) (number : ℕ) → list_all is_ascii_digit digits ≡ true → digits_value 10 digits ≡ number → number ≤ max_version → number_of (asked_for digits) ≡ number
number_asked digits number are is le = by (list_all (is_byte 0x30) digits) refl
  where
    one : numbered digits ≡ Version number
    one =
        ap (λ b. if b && nat_le (digits_value 10 digits) max_version then Version (digits_value 10 digits) else Nothing) are
        ∙ ap (λ n. if nat_le n max_version then Version n else Nothing) is
        ∙ ap (λ b. if b then Version number else Nothing) (le_is number max_version le)

    by : (b : Bool) → list_all (is_byte 0x30) digits ≡ b → number_of (if b then Latest else if bytes_eq digits (0x2A ∷ []) then All else numbered digits) ≡ number
    by true e = sym (zeros_value 0 digits refl e) ∙ is
    by false e = ap (λ b. number_of (if b then All else numbered digits)) (no_star digits are) ∙ ap number_of one

less_is : (a b : ℕ) → a < b → nat_lt a b ≡ true
less_is a b h = grind (arith, nat_tests, h)

part_of : (name digits : List ℕ) → list_all is_ascii_digit digits ≡ true → version_part (fold name ++ 0x3B ∷ digits) ≡ Some digits
part_of name digits are =
    let whole = fold name ++ 0x3B ∷ digits in
    let at = semicolon_at (fold name) digits (fold_counts name).semicolon in
    let size = length-append (fold name) (0x3B ∷ digits) in
    let less : position_or_len (is_byte 0x3B) whole < length whole = omega (arith, at, size) in
    let behind : drop (position_or_len (is_byte 0x3B) whole + 1) whole ≡ digits = ap (λ m. drop (m + 1) whole) at ∙ drop-append-add (fold name) (0x3B ∷ digits) 1 in
    ap version_in_tail (numbered_same name digits are)
    ∙ ap (λ b. if b then Some (drop (position_or_len (is_byte 0x3B) whole + 1) whole) else dropped_digits whole) (less_is (position_or_len (is_byte 0x3B) whole) (length whole) less)
    ∙ ap (λ (l : List ℕ). Some l) behind

pub number_of_version : (name : List ℕ) (number : ℕ) → number ≤ max_version → version_number (version_name name number) ≡ number
number_of_version name number le =
    let digits = decimal number in
    let are = decimal_digits number le in
    ap (λ (part : Option (List ℕ)). number_of (option_map_or asked_for part Latest)) (part_of name digits are)
    ∙ number_asked digits number are (decimal_is_IsNumeral number (omega (arith, le))).1 le

-- ---- what is asked for

pub wanted_within : (name : List ℕ) (n : ℕ) → version_wanted name ≡ Version n → n ≤ max_version
wanted_within name n e = of_part (version_part name) e
  where
    of_number : (b : Bool) (v : ℕ) → (b ≡ true → v ≤ max_version) → (if b then Version v else Nothing) ≡ Version n → n ≤ max_version
    of_number true v le h = let same : v ≡ n = cc in let low = le refl in omega (arith, same, low)
    of_number false v le h = absurd cc

    of_text : (zeros star : Bool) (text : List ℕ) → (if zeros then Latest else if star then All else numbered text) ≡ Version n → n ≤ max_version
    of_text true star text h = absurd cc
    of_text false true text h = absurd cc
    of_text false false text h =
        of_number (list_all is_ascii_digit text && nat_le (digits_value 10 text) max_version) (digits_value 10 text) (λ f. is_le (digits_value 10 text) max_version (and_two (list_all is_ascii_digit text) (nat_le (digits_value 10 text) max_version) f)) h
      where
        is_le : (a b : ℕ) → nat_le a b ≡ true → a ≤ b
        is_le a b f = grind (arith, nat_tests, f)

    of_part : (part : Option (List ℕ)) → option_map_or asked_for part Latest ≡ Version n → n ≤ max_version
    of_part None h = absurd cc
    of_part (Some text) h = of_text (list_all (is_byte 0x30) text) (bytes_eq text (0x2A ∷ [])) text h
