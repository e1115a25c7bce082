-- A record file as a value: a shape, what is kept besides, and a finite map from numbers to records.
use Rattle.std.specs.Prelude.{ℕ, ◌≤◌, ◌+◌, nat_le, nat_eq, Bool, not, ◌&&◌, ◌||◌, List, length, filter, slice_get, unwrap_or, Option, None, is_none, is_some, IsSome, IsTrue, IfSome}
use Rattle.std.specs.List.{last_or}
use Rattle.std.specs.Ordering.{nat_cmp}
use Rattle.std.specs.FinMap.{FinMap, empty, get, keys, entries, insert, remove}
use Rattle.rec_file.specs.declared.look.Look.{Look}
use Rattle.rec_file.specs.declared.shapes.Shape.{Shape}
use Rattle.rec_file.specs.Looks.{IsLook}
use Rattle.rec_file.specs.Shapes.{is_shape, is_seq, max_number, allows_length}

-- records by their numbers
abbrev pub Records : Type 0
Records = FinMap nat_cmp (List ℕ)

-- a shape, what is kept of the Attributes that made it, and the records
pub record FileVal : Type 0 where
  pub shape : Shape
  pub look : Look
  pub records : Records

-- the lowest occupied number from n on: the keys of a finite map are in order
abbrev pub lowest_from : Records → ℕ → Option ℕ
lowest_from m n = slice_get (filter (nat_le n) (keys m)) 0

-- the highest occupied number, the last of the keys, and 0 where there is none
abbrev pub highest_of : Records → ℕ
highest_of m = unwrap_or (last_or None (keys m)) 0

-- the records from number n on, in order
abbrev pub records_from : Records → ℕ → List (ℕ × List ℕ)
records_from m n = filter (λ e. nat_le n e.0) (entries m)

-- what holds of every file: its shape is one that the check gives, and its look is one of that shape; numbers are 1 to
-- the limit, and in a sequential file exactly 1 to the highest; each length is one that the shape allows
pub record IsFile (file : FileVal) : Type 0 where
  pub shape : IsTrue (is_shape file.shape)
  pub look : IsLook file.shape file.look
  pub above : (n : ℕ) → IsSome (get file.records n) → 1 ≤ n
  pub within : (n : ℕ) → IsSome (get file.records n) → n ≤ max_number file.shape
  pub dense : IsTrue (is_seq file.shape.org) → (n : ℕ) → 1 ≤ n → n ≤ highest_of file.records → IsSome (get file.records n)
  pub lengths : (n : ℕ) → IfSome (get file.records n) (λ body. IsTrue (allows_length file.shape (length body)))

-- the file with these bytes under n, whatever was there
abbrev pub file_with_record : FileVal → ℕ → List ℕ → FileVal
file_with_record file n body = record file { records = insert file.records n body }

-- the file with nothing under n
abbrev pub file_without_record : FileVal → ℕ → FileVal
file_without_record file n = record file { records = remove file.records n }

-- whether n is a number for a new record: 1 to the limit, and in a sequential file the next one
abbrev pub takes_number : FileVal → ℕ → Bool
takes_number file n =
    nat_le 1 n && nat_le n (max_number file.shape) && (not (is_seq file.shape.org) || nat_eq n (highest_of file.records + 1))

-- whether a new record of this length may stand under n
abbrev pub may_place : FileVal → ℕ → ℕ → Bool
may_place file n size = takes_number file n && allows_length file.shape size && is_none (get file.records n)

-- whether the record under n may become another of this length
abbrev pub may_replace : FileVal → ℕ → ℕ → Bool
may_replace file n size = allows_length file.shape size && is_some (get file.records n)

-- whether the record under n may go, which no record of a sequential file may
abbrev pub may_remove : FileVal → ℕ → Bool
may_remove file n = not (is_seq file.shape.org) && is_some (get file.records n)

-- the file of a shape and a look, with no records
abbrev pub empty_file : Shape → Look → FileVal
empty_file shape look = record { shape = shape; look = look; records = empty }
