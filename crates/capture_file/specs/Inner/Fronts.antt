-- Whether the first bytes of a file tell what it is.
use Rattle.std.specs.Prelude.{ℕ, ◌&&◌, nat_lt, Bool, List, take, length, bytes_eq}
use Rattle.std.specs.Int.{to_be_bytes, w32}

-- whether these are fewer than four bytes, with which this number begins, its high byte first
abbrev pub begins_number : List ℕ → ℕ → Bool
begins_number front number = nat_lt (length front) 4 && bytes_eq front (take (length front) (to_be_bytes w32 number))
