-- What is told of an input on standard error, and the exit status.
use Rattle.std.specs.Prelude.{◌≡◌, ◌⊎◌, ◌==◌, ℕ, List, [], ◌∷◌, ◌++◌, codes, if◌then◌else◌, Option, Some, None}
use Rattle.std.specs.List.{concat}
use Rattle.std.specs.Fmt.{decimal}
use Rattle.linewise.specs.Gives.{TellsFault}
use Rattle.linewise.specs.Output.{WritesFront}
use Rattle.linewise.specs.declared.fault.CaptureFault.TheVariants.{NoMemory}
use Rattle.capture_file.specs.declared.fault.FaultKind.{FaultKind}
use Rattle.capture_file.specs.declared.fault.FaultKind.TheVariants as kind
use Rattle.capture_file.specs.declared.fault.FileFault.{FileFault}
use Rattle.decnet_frames.specs.declared.tally.Counts.{Counts}
use Rattle.cap_cli.specs.declared.telling.FileEnd.{FileEnd}
use Rattle.cap_cli.specs.declared.telling.LinesEnd.{LinesEnd}

-- the name of a fault
abbrev pub fault_kind_text : FaultKind → List ℕ
fault_kind_text kind.UnknownMagic = codes "unknown"
fault_kind_text kind.UnknownOrder = codes "byte-order"
fault_kind_text kind.OtherLink = codes "link-type"
fault_kind_text kind.BadLength = codes "length"
fault_kind_text kind.TooLong = codes "too-long"
fault_kind_text kind.TooManyInterfaces = codes "interfaces"
fault_kind_text kind.CutShort = codes "cut-short"
fault_kind_text kind.NoMemory = codes "no-memory"

-- the line of a fault: its name, and the offset of the head, record or block that has it
abbrev pub file_fault_line : FileFault → List ℕ
file_fault_line fault = concat (codes "bad " ∷ fault_kind_text fault.kind ∷ codes " at=" ∷ decimal fault.at ∷ codes "\n" ∷ [])

-- and after it what helps, in words that aren't fixed
abbrev pub IsFaultText : FileFault → List ℕ → Type 0
IsFaultText fault text = (help : List ℕ) × (text ≡ file_fault_line fault ++ help)

-- the line of the counts
abbrev pub counts_text : Counts → List ℕ
counts_text counts = concat (codes "taken " ∷ decimal counts.taken ∷ codes " passed " ∷ decimal counts.passed ∷ codes "\n" ∷ [])

-- what is told at the end of a capture file: its fault, if it has one, and the counts
abbrev pub IsEndText : Option FileFault → Counts → List ℕ → Type 0
IsEndText None counts text = text ≡ counts_text counts
IsEndText (Some fault) counts text = (first : List ℕ) × IsFaultText fault first × (text ≡ first ++ counts_text counts)

-- of a file that ended so
abbrev pub IsFileText : FileEnd → List ℕ → Type 0
IsFileText end text = IsEndText end.fault end.counts text

-- what is told at the end of lines: the counts, where no packet was taken
abbrev pub lines_text : LinesEnd → List ℕ
lines_text end = if end.counts.taken == 0 then counts_text end.counts else []

-- the exit status at the end of a capture file: 1 where it is at fault
abbrev pub status_by : Option FileFault → ℕ
status_by None = 0
status_by (Some fault) = 1

-- that of a file that ended so
abbrev pub file_status : FileEnd → ℕ
file_status end = status_by end.fault

-- and at that of lines: 1 where one was bad
abbrev pub lines_status : LinesEnd → ℕ
lines_status end = if end.is_bad then 1 else 0

-- Such a text is told, all of it unless the error writer failed, with this status; or memory was refused.
abbrev pub TellsOr : (List ℕ → Type 0) → (good : ℕ) → (told tells : Option (List ℕ)) → (status : ℕ) → Type 0
TellsOr IsText good told tells status =
    ((text : List ℕ) × IsText text × WritesFront told tells text × (status ≡ good)) ⊎ (TellsFault NoMemory told tells × (status ≡ 3))
