-- Which version of a file a name asks for. The rules are a choice of this implementation, in the manner of VMS, but for
-- `;0` and `;`, which are the latest there too. From memory.
use Rattle.std.specs.Prelude.{ℕ, ◌&&◌, ◌+◌, nat_lt, nat_le, if◌then◌else◌, List, [], ◌∷◌, ◌++◌, length, drop, bytes_eq, Option, Some, None}
use Rattle.std.specs.Fmt.{decimal}
use Rattle.std.specs.List.{list_all, position_or_len}
use Rattle.std.specs.Char.{is_ascii_digit}
use Rattle.std.specs.Str.Parse.{digits_value}
use Rattle.std.specs.Option.{option_map_or}
use Rattle.file_names.specs.declared.versions.Wanted.{Wanted}
use Rattle.file_names.specs.declared.versions.Wanted.TheVariants.{Latest, Version, All, Nothing}
use Rattle.file_names.specs.Folds.{after_last, ends_directory, fold, is_byte, second_dot}

-- what follows the second dot, where that is nothing or only digits
abbrev pub dropped_digits : List ℕ → Option (List ℕ)
dropped_digits tail =
    let end = second_dot tail in
    if nat_lt end (length tail) && list_all is_ascii_digit (drop (end + 1) tail) then Some (drop (end + 1) tail) else None

-- what follows the first `;`; without a `;`, what the fold drops after a second dot
abbrev pub version_in_tail : List ℕ → Option (List ℕ)
version_in_tail tail =
    let end = position_or_len (is_byte 0x3B) tail in
    if nat_lt end (length tail) then Some (drop (end + 1) tail) else dropped_digits tail

-- the version text of a name, after its last device or directory, where it has one
abbrev pub version_part : List ℕ → Option (List ℕ)
version_part name = version_in_tail (after_last ends_directory name)

-- the highest version that there may be
abbrev pub max_version : ℕ
max_version = 32767

-- digits that aren't all zeros, of a version that there may be
abbrev pub numbered : List ℕ → Wanted
numbered text =
    if list_all is_ascii_digit text && nat_le (digits_value 10 text) max_version then Version (digits_value 10 text) else Nothing

-- what a version text asks for: the latest where it is empty, or only zeros; all by `*`; one by its digits
abbrev pub asked_for : List ℕ → Wanted
asked_for text =
    if list_all (is_byte 0x30) text then Latest else if bytes_eq text (0x2A ∷ []) then All else numbered text

-- what a name asks for: the latest, where it has no version text
abbrev pub version_wanted : List ℕ → Wanted
version_wanted name = option_map_or asked_for (version_part name) Latest

-- the number that a name asks for, from 1; 0 where it asks for none
abbrev pub version_number : List ℕ → ℕ
version_number name = elim (version_wanted name) [ Latest ↦ 0 | Version n ↦ n | All ↦ 0 | Nothing ↦ 0 ]

-- the name of a version: the fold of this name, `;` and the number
abbrev pub version_name : (name : List ℕ) → (number : ℕ) → List ℕ
version_name name number = fold name ++ 0x3B ∷ decimal number
