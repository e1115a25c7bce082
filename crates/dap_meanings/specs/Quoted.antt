-- Bytes as text.
use Rattle.std.specs.Prelude.{ℕ, ◌==◌, ◌&&◌, ◌||◌, nat_le, nat_lt, Bool, List, [], ◌∷◌, ◌++◌, codes, length, take, if◌then◌else◌}
use Rattle.std.specs.List.{flat_map, list_all}

-- a space or a visible character of ASCII
abbrev pub is_printable : ℕ → Bool
is_printable byte = nat_le 0x20 byte && nat_le byte 0x7E

-- a quote or a backslash is after a backslash
abbrev pub escaped_byte : ℕ → List ℕ
escaped_byte byte = if byte == 34 || byte == 92 then 92 ∷ byte ∷ [] else byte ∷ []

-- the maximum number of bytes that are quoted
abbrev pub max_quoted : ℕ
max_quoted = 60

-- the quote at the end, and two dots where there are more bytes
abbrev pub closing : List ℕ → List ℕ
closing bytes = if nat_lt max_quoted (length bytes) then codes "\".." else codes "\""

-- the first bytes in quotes
abbrev pub quote : List ℕ → List ℕ
quote bytes = codes "\"" ++ (flat_map escaped_byte (take max_quoted bytes) ++ closing bytes)

-- bytes that are all printable, in quotes; others have no words
abbrev pub quoted_bytes : List ℕ → List (List ℕ)
quoted_bytes bytes = if list_all is_printable bytes then quote bytes ∷ [] else []
