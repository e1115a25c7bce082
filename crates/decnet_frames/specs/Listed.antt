-- What is written of a capture file: what a taker makes of its packets.
use Rattle.std.specs.Prelude.{◌≡◌, ◌⊎◌, ℕ, List, ◌++◌, Option, Some}
use Rattle.std.specs.Io.KnownBytes.{Appends, Consumes}
use Rattle.linewise.specs.Output.{WritesFront}
use Rattle.capture_file.specs.Files.{HasUnits, IsCutShort, IsPart, IsWhole, Stops}
use Rattle.capture_file.specs.declared.units.Format.{Format}
use Rattle.capture_file.specs.declared.meaning.Interface.{Interface}
use Rattle.capture_file.specs.Meanings.{Record}
use Rattle.capture_file.specs.declared.fault.FileFault.{FileFault}
use Rattle.capture_file.specs.declared.fault.FaultKind.TheVariants.{CutShort}
use Rattle.decnet_frames.specs.Found.{TakesAll, Taking}
use Rattle.decnet_frames.specs.Founds.{counts_of_file, founds_of_file}
use Rattle.decnet_frames.specs.declared.run.FramesFault.{FramesFault}
use Rattle.decnet_frames.specs.declared.run.FramesFault.TheVariants.{File, ReadFailed, WriteFailed}
use Rattle.decnet_frames.specs.declared.tally.Counts.{Counts}
use Rattle.decnet_frames.specs.declared.ways.Between.{Between}

-- a taker took the packets of captured frames, and made this text of them
abbrev pub TakesFile : {T : Type 0} → Taking T → Between → T → List Record → T → List ℕ → Type 0
TakesFile taken between old records new text = TakesAll taken old (founds_of_file between records) new text

-- A whole file: the taker took its packets, their text is written, and these are the counts.
abbrev pub IsListed : {T : Type 0} → Taking T → Between → T → (input : List ℕ) → T → (written holds : Option (List ℕ)) → Counts → Type 0
IsListed taken between old input new written holds counts =
    (records : List Record) × (text : List ℕ) × IsWhole input records × TakesFile taken between old records new text × Appends written holds text
    × (counts ≡ counts_of_file between records)

-- after these records the file is at fault, or ends too soon
abbrev pub FileFails : List ℕ → List Record → FileFault → Type 0
FileFails input records fault =
    Stops input records fault.kind fault.at ⊎ ((fault.kind ≡ CutShort) × IsCutShort input records fault.at)

-- a prefix of the input is units with these records
pub record HasRecords (input : List ℕ) (records : List Record) : Type 0 where
  pub front : List ℕ
  pub rest : List ℕ
  pub format : Format
  pub interfaces : List Interface
  pub joined : input ≡ front ++ rest
  pub units : HasUnits front records format interfaces

-- these bytes are units with these records, and after them less than a unit
pub record HasJustRecords (bytes : List ℕ) (records : List Record) : Type 0 where
  pub front : List ℕ
  pub rest : List ℕ
  pub format : Format
  pub interfaces : List Interface
  pub joined : bytes ≡ front ++ rest
  pub units : HasUnits front records format interfaces
  pub partial : IsPart format rest

-- Where the file is at fault: the taker took the packets of the frames before it, their text is written, and these are
-- the counts. Where the reader fails: those of just the bytes that were read. Where memory is refused: those of some
-- frames from the first on. Where the writer fails: a prefix of such a text is written.
abbrev pub IsListedTo : {T : Type 0} → Taking T → Between → T → (input : List ℕ) → T → (left written holds : Option (List ℕ)) → FramesFault → Type 0
IsListedTo taken between old input new left written holds (File fault counts) =
    (records : List Record) × (text : List ℕ) × FileFails input records fault × TakesFile taken between old records new text × Appends written holds text
    × (counts ≡ counts_of_file between records)
IsListedTo taken between old input new left written holds ReadFailed =
    (came : List ℕ) × (records : List Record) × (text : List ℕ) × Consumes (Some input) left came × HasJustRecords came records
    × TakesFile taken between old records new text × Appends written holds text
IsListedTo {T} taken between old input new left written holds WriteFailed =
    (records : List Record) × (now : T) × (text : List ℕ) × HasRecords input records × TakesFile taken between old records now text × WritesFront written holds text
IsListedTo {T} taken between old input new left written holds _ =
    (records : List Record) × (now : T) × (text : List ℕ) × HasRecords input records × TakesFile taken between old records now text × Appends written holds text
