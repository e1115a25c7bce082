-- What is kept of a line while it is read.
use Rattle.std.specs.Prelude.{◌≡◌, ◌≢◌, ℕ, ◌+◌, ◌<◌, ◌≤◌, Bool, true, All, List, ◌++◌, length, Option, IfSome, OnSome, if◌then◌else◌}
use Rattle.std.specs.Io.{StopsAt, IsEmptyOrEndsWith}
use Rattle.std.specs.Io.KnownBytes.{Consumes, IsAtEnd}
use Rattle.std.specs.Io.BufRead.{take_through, ends_with_byte, strip_last, DropsThrough}
use Rattle.linewise.specs.Talks.{max_line}
use Rattle.linewise.specs.declared.reading.Kept.{Kept}
use Rattle.linewise.specs.declared.reading.Kept.TheVariants.{All as whole, TooLong, NoMemory}
use Rattle.linewise.specs.declared.reading.Line.{Line}

-- these bytes were read of it; no more is kept than the longest line has
abbrev pub HoldsAs : Kept → List ℕ → List ℕ → Type 0
HoldsAs whole kept read = (kept ≡ read) × (length kept ≤ max_line + 2)
HoldsAs TooLong kept read = (max_line + 2 < length read) × (length kept ≤ max_line + 2)
HoldsAs NoMemory kept read = 0 < length read

abbrev pub HoldsLine : Line → List ℕ → Type 0
HoldsLine line read = HoldsAs line.kept line.bytes.items read

abbrev pub HoldsMore : Line → Line → List ℕ → Type 0
HoldsMore old new more = (read : List ℕ) → HoldsLine old read → HoldsLine new (read ++ more)

-- a line without the line feed, or carriage return and line feed, at its end
abbrev pub without_end : List ℕ → List ℕ
without_end line = if ends_with_byte 10 line then strip_last 13 (strip_last 10 line) else strip_last 10 line

-- Some bytes were taken of the reader, and are kept so. They go no further than the first line feed, and to it, or to
-- the end, where the line is done.
pub record Passes (unread left : Option (List ℕ)) (old new : Line) (done : Bool) : Type 0 where
  pub bytes : List ℕ
  pub taken : Consumes unread left bytes
  pub kept : HoldsMore old new bytes
  pub stops : StopsAt bytes 10
  pub ends : done ≡ true → IsEmptyOrEndsWith bytes 10
  pub end : done ≡ true → length bytes ≡ 0 → OnSome unread (IsAtEnd left)
  pub goes : done ≢ true → All (λ byte. byte ≢ 10) bytes

-- a whole line was read, of which there are no bytes where none is left
abbrev pub HasReadLine : Option (List ℕ) → Option (List ℕ) → Line → Type 0
HasReadLine unread left line = (read : List ℕ) × HoldsLine line read
    × IfSome unread (λ rest. read ≡ take_through 10 rest) × DropsThrough unread left 10
