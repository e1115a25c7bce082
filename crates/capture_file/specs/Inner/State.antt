-- One step of a reader.
use Rattle.std.specs.Prelude.{◌≡◌, ℕ, ◌+◌, ◌-◌, nat_lt, Bool, true, false, List, ◌++◌, length, if◌then◌else◌, Option, Some, None}
use Rattle.capture_file.specs.Units.{head_len}
use Rattle.capture_file.specs.Files.{HasUnits, bounded_count}
use Rattle.capture_file.specs.Meanings.{Record, format_after, interfaces_after}
use Rattle.capture_file.specs.Reading.{Gathers}
use Rattle.capture_file.specs.declared.units.Extent.{Extent}
use Rattle.capture_file.specs.declared.units.Format.{Format}
use Rattle.capture_file.specs.declared.meaning.Given.{Given}
use Rattle.capture_file.specs.declared.meaning.Meaning.{Meaning}
use Rattle.capture_file.specs.declared.meaning.Meaning.TheVariants.{Gives}
use Rattle.capture_file.specs.declared.reading.Reading.{Reading}

-- how far the bytes go that are taken next, and whether they are kept
abbrev pub goal_of : Format → Option Extent → ℕ → ℕ × Bool
goal_of format None seen = (head_len format, true)
goal_of format (Some extent) seen =
    if extent.whole then (extent.long, true)
    else if nat_lt seen (extent.long - 4) then (extent.long - 4, false)
    else (extent.long, true)

-- the units before it are as they were
pub record KeepsUnits (old new : Reading) : Type 0 where
  pub format : new.format ≡ old.format
  pub interfaces : new.interfaces.items ≡ old.interfaces.items
  pub offset : new.offset ≡ old.offset

-- and how long the unit is
pub record Lies (old new : Reading) : Type 0 where
  pub stays : KeepsUnits old new
  pub extent : new.extent ≡ old.extent

-- the frame that a unit has
abbrev pub given_by : Meaning → Option Given
given_by (Gives given) = Some given
given_by _ = None

-- a unit was read to its end
pub record ReadsUnit (old new : Reading) (meaning : Meaning) (frame : Option Given) : Type 0 where
  pub format : new.format ≡ format_after old.format meaning
  pub interfaces : new.interfaces.items ≡ interfaces_after old.interfaces.items meaning
  pub offset : new.offset ≡ bounded_count (old.offset + old.seen)
  pub seen : new.seen ≡ 0
  pub extent : new.extent ≡ None
  pub kept : new.kept.items ≡ old.kept.items
  pub given : frame ≡ given_by meaning

-- after units there are some bytes of a unit, or all of one
pub record IsInUnits (r : Reading) (bytes : List ℕ) (records : List Record) (rest : List ℕ) : Type 0 where
  pub front : List ℕ
  pub joined : bytes ≡ front ++ rest
  pub units : HasUnits front records r.format r.interfaces.items
  pub gathers : Gathers r rest
  pub offset : r.offset ≡ bounded_count (length front)
