-- What a reader of a file has read, in pieces of any size.
use Rattle.std.specs.Prelude.{◌≡◌, ℕ, ◌+◌, ◌<◌, ◌≤◌, false, List, [], ◌∷◌, ◌++◌, take, length, Option, Some, None, Ok}
use Rattle.capture_file.specs.Units.{extent_of, head_len, kept_prefix}
use Rattle.capture_file.specs.Files.{HasUnits, bounded_count}
use Rattle.capture_file.specs.Meanings.{Record, frame_record}
use Rattle.capture_file.specs.declared.units.Extent.{Extent}
use Rattle.capture_file.specs.declared.units.Format.{Format}
use Rattle.capture_file.specs.declared.meaning.Given.{Given}
use Rattle.capture_file.specs.declared.reading.Reading.{Reading}

-- what is kept of a prefix of a unit
abbrev pub keeps : Option Extent → List ℕ → List ℕ
keeps None rest = rest
keeps (Some extent) rest = kept_prefix extent rest

-- how many bytes are wanted: of the head, or of the unit
abbrev pub wanted_count : Format → Option Extent → ℕ
wanted_count format None = head_len format
wanted_count format (Some extent) = extent.long

-- how long the unit is, is as its head says
abbrev pub IsMeasured : Format → Option Extent → List ℕ → Type 0
IsMeasured format None rest = Unit {0}
IsMeasured format (Some extent) rest =
    (head_len format ≤ length rest) × (extent_of format (take (head_len format) rest) ≡ Ok extent) × (head_len format ≤ extent.long)
    × (extent.whole ≡ false → (head_len format ≡ 12) × (16 ≤ extent.long))

-- these bytes of a unit were read
pub record Gathers (r : Reading) (rest : List ℕ) : Type 0 where
  pub seen : r.seen ≡ length rest
  pub kept : 0 < length rest → r.kept.items ≡ keeps r.extent rest
  pub measured : IsMeasured r.format r.extent rest
  pub within : length rest ≤ wanted_count r.format r.extent

-- These bytes of a file were read, and have these records: whole units, and after them less than one.
pub record HasRead (r : Reading) (bytes : List ℕ) (records : List Record) : Type 0 where
  pub front : List ℕ
  pub rest : List ℕ
  pub joined : bytes ≡ front ++ rest
  pub units : HasUnits front records r.format r.interfaces.items
  pub gathers : Gathers r rest
  pub short : length rest < wanted_count r.format r.extent
  pub offset : r.offset ≡ bounded_count (length front)

-- some bytes were read, and no fault was met
abbrev pub IsReady : Reading → Type 0
IsReady r = (bytes : List ℕ) × (records : List Record) × HasRead r bytes records

-- a frame is within what is kept
abbrev pub IsWithinKept : List ℕ → Given → Type 0
IsWithinKept kept given = given.from + given.count ≤ length kept

-- the records of a frame that was found, or of none
abbrev pub given_in : List ℕ → Option Given → List Record
given_in kept None = []
given_in kept (Some given) = frame_record kept given ∷ []
