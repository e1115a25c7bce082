-- A file of captured frames: units end to end.
use Rattle.std.specs.Prelude.{◌≡◌, ◌≢◌, ℕ, ◌<◌, ◌≤◌, ◌⊎◌, List, [], ◌++◌, take, length, min, Ok, Err}
use Rattle.capture_file.specs.Units.{IsUnit, extent_of, head_len, kept_prefix}
use Rattle.capture_file.specs.Meanings.{Record, format_after, interfaces_after, meaning_of, records_of}
use Rattle.capture_file.specs.declared.fault.FaultKind.{FaultKind}
use Rattle.capture_file.specs.declared.units.Extent.{Extent}
use Rattle.capture_file.specs.declared.units.Format.{Format}
use Rattle.capture_file.specs.declared.units.Format.TheVariants.{Start}
use Rattle.capture_file.specs.declared.meaning.Interface.{Interface}
use Rattle.capture_file.specs.declared.meaning.Meaning.{Meaning}

-- The bytes are units with these records, which lead from a format and its interfaces to others.
pub data Units : Format → List Interface → (bytes : List ℕ) → List Record → Format → List Interface → Type 0 where
  no_unit_more : {format : Format} {interfaces : List Interface} → Units format interfaces [] [] format interfaces
  one_unit_more : {format last : Format} {interfaces described : List Interface} {bytes : List ℕ} {records : List Record}
      (unit : List ℕ) (extent : Extent) (meaning : Meaning)
      → IsUnit format extent unit
      → meaning_of format interfaces (kept_prefix extent unit) ≡ Ok meaning
      → Units (format_after format meaning) (interfaces_after interfaces meaning) bytes records last described
      → Units format interfaces (unit ++ bytes) (records_of (kept_prefix extent unit) meaning ++ records) last described

-- a prefix of a file: whole units
abbrev pub HasUnits : (bytes : List ℕ) → List Record → Format → List Interface → Type 0
HasUnits bytes records format interfaces = Units Start [] bytes records format interfaces

-- ---- where it doesn't continue

-- less than the head of a unit, or than the unit
abbrev pub IsPart : Format → List ℕ → Type 0
IsPart format rest = (length rest < head_len format)
    ⊎ ((extent : Extent) × (head_len format ≤ length rest) × (extent_of format (take (head_len format) rest) ≡ Ok extent) × (length rest < extent.long))

-- what is in place of a unit is none: its head can't be, or what it says
abbrev pub IsNone : Format → List Interface → List ℕ → FaultKind → Type 0
IsNone format interfaces rest kind =
    ((head_len format ≤ length rest) × (extent_of format (take (head_len format) rest) ≡ Err kind))
    ⊎ ((unit more : List ℕ) × (extent : Extent) × (rest ≡ unit ++ more) × IsUnit format extent unit
    × (meaning_of format interfaces (kept_prefix extent unit) ≡ Err kind))

-- a count, or 2^64 - 1 where that is less
abbrev pub bounded_count : ℕ → ℕ
bounded_count offset = min offset 18446744073709551615

-- After these records there is something that is no unit: its fault, and its offset.
pub record Stops (bytes : List ℕ) (records : List Record) (kind : FaultKind) (at : ℕ) : Type 0 where
  pub front : List ℕ
  pub rest : List ℕ
  pub format : Format
  pub interfaces : List Interface
  pub joined : bytes ≡ front ++ rest
  pub units : HasUnits front records format interfaces
  pub none : IsNone format interfaces rest kind
  pub offset : at ≡ bounded_count (length front)

-- The file is cut short after these records, or is empty: the offset of the last unit.
pub record IsCutShort (bytes : List ℕ) (records : List Record) (at : ℕ) : Type 0 where
  pub front : List ℕ
  pub rest : List ℕ
  pub format : Format
  pub interfaces : List Interface
  pub joined : bytes ≡ front ++ rest
  pub units : HasUnits front records format interfaces
  pub some : (0 < length rest) ⊎ (format ≡ Start)
  pub partial : IsPart format rest
  pub offset : at ≡ bounded_count (length front)

-- The file is whole: it has begun, and its units have these records.
pub record IsWhole (bytes : List ℕ) (records : List Record) : Type 0 where
  pub format : Format
  pub begun : format ≢ Start
  pub interfaces : List Interface
  pub units : HasUnits bytes records format interfaces
