-- How far an input is listed.
use Rattle.std.specs.Prelude.{◌≡◌, ◌≢◌, ◌⊎◌, ℕ, ◌+◌, List, [], ◌∷◌, ◌++◌, length, Option}
use Rattle.std.specs.Global.{Vec}
use Rattle.std.specs.Io.KnownBytes.{Appends, Consumes}
use Rattle.linewise.specs.Output.{WritesFront}
use Rattle.texts.specs.Adding.{Adds}
use Rattle.capture_file.specs.Files.{Stops, bounded_count}
use Rattle.capture_file.specs.Meanings.{Record}
use Rattle.capture_file.specs.Reading.{HasRead}
use Rattle.capture_file.specs.declared.fault.FileFault.{FileFault}
use Rattle.capture_file.specs.declared.fault.FaultKind.TheVariants.{NoMemory}
use Rattle.decnet_frames.specs.Found.{FoundPacket, TakesAll, Taking}
use Rattle.decnet_frames.specs.Founds.{founds_of_file, record_pairs}
use Rattle.decnet_frames.specs.Listed.{HasRecords, TakesFile}
use Rattle.decnet_frames.specs.declared.run.FramesFault.{FramesFault}
use Rattle.decnet_frames.specs.declared.run.FramesFault.TheVariants.{File, WriteFailed, NoMemory as Wants}
use Rattle.decnet_frames.specs.declared.run.Frames.{Frames}
use Rattle.decnet_frames.specs.declared.tally.Counts.{Counts}
use Rattle.decnet_frames.specs.declared.ways.Between.{Between}
use Rattle.decnet_frames.specs.declared.ways.Ends.{Ends}

-- the text that a taker made of a packet was appended
abbrev pub AddsText : {T : Type 0} → Taking T → T → FoundPacket → T → (before after : Vec ℕ) → Type 0
AddsText taken old found new before after = (text : List ℕ) × taken old found new text × Adds before after text

-- and that of several
abbrev pub AddsTexts : {T : Type 0} → Taking T → T → List FoundPacket → T → (before after : Vec ℕ) → Type 0
AddsTexts taken old founds new before after = (text : List ℕ) × TakesAll taken old founds new text × Adds before after text

-- how many packets are taken after these, counted one by one
abbrev pub taken_with : ℕ → List FoundPacket → ℕ
taken_with count [] = count
taken_with count (found ∷ others) = taken_with (bounded_count (count + 1)) others

-- the pairs of nodes after captured frames
abbrev pub pairs_all : Between → List Ends → List Record → List Ends
pairs_all between pairs [] = pairs
pairs_all between pairs (r ∷ records) = pairs_all between (record_pairs between pairs r) records

-- how many captured frames there are, after a count of earlier ones
abbrev pub count_all : ℕ → List Record → ℕ
count_all count [] = count
count_all count (r ∷ records) = count_all (bounded_count (count + 1)) records

-- These bytes were read. What was written of them, and what isn't written yet, is what the taker made of the packets of
-- their frames.
pub record HasListed {T : Type 0} (taken : Taking T) (between : Between) (first : T) (f : Frames) (now : T) (bytes written : List ℕ) : Type 0 where
  pub records : List Record
  pub read : HasRead f.reading bytes records
  pub between_is : f.tally.ways.between ≡ between
  pub pairs_are : f.tally.ways.pairs.known.keys ≡ pairs_all between [] records
  pub counted : f.tally.count ≡ count_all 0 records
  pub taken_is : f.tally.taken ≡ bounded_count (length (founds_of_file between records))
  pub takes : TakesFile taken between first records now (written ++ f.text.items)

-- the file is at fault after these records, and the taker has taken their packets
pub record IsAtFault {T : Type 0} (between : Between) (f : Frames) (now last : T) (bytes : List ℕ) (records : List Record) (fault : FileFault) : Type 0 where
  pub stops : Stops bytes records fault.kind fault.at
  pub counted : f.tally.count ≡ count_all 0 records
  pub taken_is : f.tally.taken ≡ bounded_count (length (founds_of_file between records))
  pub same : last ≡ now

-- what isn't written yet, where a file is at fault or memory was refused
pub record HasStopped {T : Type 0} (taken : Taking T) (between : Between) (first : T) (f : Frames) (now : T) (bytes written : List ℕ) (fault : FileFault) : Type 0 where
  pub records : List Record
  pub last : T
  pub takes : TakesFile taken between first records last (written ++ f.text.items)
  pub why : ((fault.kind ≡ NoMemory) × HasRecords bytes records) ⊎ IsAtFault between f now last bytes records fault

-- a step over a piece of an input, at the end of which there is a fault
abbrev pub StepFails : {T : Type 0} → Taking T → Frames → T → Frames → T → (piece : List ℕ) → FileFault → Type 0
StepFails {T} taken old had new has piece fault =
    (between : Between) (first : T) (bytes written : List ℕ) → HasListed taken between first old had bytes written
    → HasStopped taken between first new has (bytes ++ piece) written fault

-- so far an input was read, whose text is written
pub record IsAt {T : Type 0} (taken : Taking T) (between : Between) (first : T) (f : Frames) (now : T) (input left written holds : Option (List ℕ)) : Type 0 where
  pub came : List ℕ
  pub text : List ℕ
  pub consumed : Consumes input left came
  pub listed : HasListed taken between first f now came text
  pub appended : Appends written holds text
  pub none_left : f.text.items ≡ []

-- what comes of a fault, by its kind: the text before it is written, or a prefix of it
abbrev pub IsEnded : FileFault → Counts → (text : List ℕ) → (written holds : Option (List ℕ)) → FramesFault → Type 0
IsEnded fault counts text written holds ended =
    ((ended ≡ WriteFailed) × WritesFront written holds text)
    ⊎ (Appends written holds text × (((fault.kind ≡ NoMemory) × (ended ≡ Wants)) ⊎ ((fault.kind ≢ NoMemory) × (ended ≡ File fault counts))))
