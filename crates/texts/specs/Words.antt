-- The words of a line, and what a word means.
use Rattle.std.specs.Prelude.{ℕ, Bool, ◌%◌, ◌==◌, ◌&&◌, nat_le, List, [], ◌∷◌, length, codes, bytes_eq, if◌then◌else◌, Option, Some, None}
use Rattle.std.specs.Option.{option_and_then, option_map, option_or, option_zip}
use Rattle.std.specs.Result.{result_ok}
use Rattle.std.specs.List.{slice_split, list_all}
use Rattle.std.specs.Str.Parse.{digits_value}
use Rattle.std.specs.Char.{is_ascii_digit, is_ascii_hexdigit}
use Rattle.hex.specs.Hex.{decode_of}

-- the words of a line, separated by single spaces
abbrev pub words_of : List ℕ → List (List ℕ)
words_of line = slice_split (λ byte. byte == 32) line

-- a number of 1 to 10 decimal digits, not above this one
abbrev pub decimal_of : ℕ → List ℕ → Option ℕ
decimal_of most word =
    if nat_le 1 (length word) && nat_le (length word) 10 && list_all is_ascii_digit word && nat_le (digits_value 10 word) most
    then Some (digits_value 10 word) else None

-- an even number of hex digits of either case, at least two
abbrev pub is_hex_text : List ℕ → Bool
is_hex_text digits = nat_le 2 (length digits) && (length digits % 2 == 0 && list_all is_ascii_hexdigit digits)

-- the bytes that such digits are
abbrev pub hex_of : List ℕ → Option (List ℕ)
hex_of word = if is_hex_text word then result_ok (decode_of word) else None

-- the bytes that a word of digits is, or no bytes for `-`
abbrev pub text_of : List ℕ → Option (List ℕ)
text_of word = if bytes_eq word (codes "-") then Some [] else hex_of word

-- all words are such
abbrev pub texts_of : List (List ℕ) → Option (List (List ℕ))
texts_of [] = Some []
texts_of (word ∷ words) = option_map (λ p. p.0 ∷ p.1) (option_zip (text_of word) (texts_of words))

-- ---- Reading words one by one.

-- the words of a line that aren't read yet
abbrev pub Words : Type 0
Words = List (List ℕ)

-- no word follows
abbrev pub ends : {X : Type 0} → X → Words → Option X
ends x [] = Some x
ends x (word ∷ words) = None

-- the next word is this one, and the words after it are read by what follows
abbrev pub word : {X : Type 0} → List ℕ → (Words → Option X) → Words → Option X
word name next [] = None
word name next (w ∷ words) = if bytes_eq w name then next words else None

-- the next word as it is read, and the words after it
abbrev pub read_next : {X : Type 0} → (List ℕ → Option X) → Words → Option (X × Words)
read_next read [] = None
read_next read (word ∷ words) = option_map (λ x. (x, words)) (read word)

-- the next word is read, and the words after it are read by what follows
abbrev pub field : {X Y : Type 0} → (List ℕ → Option X) → (X → Words → Option Y) → Words → Option Y
field read next words = option_and_then (λ p. next p.0 p.1) (read_next read words)

-- the first of these forms that the words have
abbrev pub one_of : {X : Type 0} → List (Words → Option X) → Words → Option X
one_of [] words = None
one_of (form ∷ forms) words = option_or (form words) (one_of forms words)

-- numbers, by the maximum value of their fields

-- a number of at most 2 bytes
abbrev pub short : List ℕ → Option ℕ
short word = decimal_of 65535 word

-- a number of at most 4 bytes
abbrev pub long : List ℕ → Option ℕ
long word = decimal_of 4294967295 word
