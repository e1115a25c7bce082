-- What a command over a whole input does.
use Rattle.std.specs.Prelude.{◌≡◌, ◌≢◌, OnErr, OnOk, ℕ, ◌+◌, ◌<◌, ◌≤◌, List, [], codes, length, slice_get, Option, Some, Result, Ok, Err, ◌⊎◌}
use Rattle.std.specs.Io.KnownBytes.{Appends, Consumes, Keeps}
use Rattle.linewise.specs.Talks.{max_line}
use Rattle.linewise.specs.Output.{WritesFront}
use Rattle.linewise.specs.declared.fault.Outcome.{Outcome}
use Rattle.linewise.specs.declared.fault.Outcome.TheVariants.{Good, Stopped}
use Rattle.linewise.specs.declared.fault.CaptureFault.{CaptureFault}
use Rattle.linewise.specs.declared.fault.CaptureFault.TheVariants.{BadLine, NoMemory, ReadFailed, TooLarge, WriteFailed}

-- A prefix of the reader's known bytes is read: at most one byte more than an input may have (16,777,216).
abbrev pub TakesWithinLimit : Option (List ℕ) → Option (List ℕ) → Type 0
TakesWithinLimit old new = (taken : List ℕ) × Consumes old new taken × (length taken ≤ max_line + 1)

-- a prefix is read, no longer than an input may be
abbrev pub TakesAnInput : Option (List ℕ) → Option (List ℕ) → Type 0
TakesAnInput old new = (taken : List ℕ) × Consumes old new taken × (length taken ≤ max_line)

-- the input is within its limit, no line has a fault, and the text is as this says
abbrev pub IsTextOf : List CaptureFault → (List ℕ → Type 0) → (input text : List ℕ) → Type 0
IsTextOf faults IsText input text = (length input ≤ max_line) × (faults ≡ []) × IsText text

-- the input is within its limit, and this is the first fault of its lines
abbrev pub HasLineFault : List CaptureFault → (input : List ℕ) → CaptureFault → Type 0
HasLineFault faults input fault = (length input ≤ max_line) × (slice_get faults 0 ≡ Some fault)

-- What a command does with an input, by the faults of its lines and by the texts of each outcome. The text was
-- written; or a line has a fault, or the input is too large, and nothing was written; or the writer failed, and a
-- prefix of the text was written; or the reader failed or memory was refused, and nothing was written.
abbrev pub GivesText : List CaptureFault → (Outcome → List ℕ → Type 0) → List ℕ
    → Option (List ℕ) → Option (List ℕ) → Result Outcome CaptureFault → Type 0
GivesText faults IsText input old new (Ok outcome) =
    (text : List ℕ) × IsTextOf faults (IsText outcome) input text × Appends old new text
GivesText faults IsText input old new (Err (BadLine number)) =
    HasLineFault faults input (BadLine number) × Keeps old new
GivesText faults IsText input old new (Err TooLarge) =
    ((max_line < length input) ⊎ HasLineFault faults input TooLarge) × Keeps old new
GivesText faults IsText input old new (Err WriteFailed) =
    (outcome : Outcome) × (text : List ℕ) × IsTextOf faults (IsText outcome) input text × WritesFront old new text
GivesText faults IsText input old new (Err _) = Keeps old new

-- After a fault nothing was written, unless the writer failed.
abbrev pub KeepsUnwritten : Result Outcome CaptureFault → Option (List ℕ) → Option (List ℕ) → Type 0
KeepsUnwritten result old new = OnErr result ((result ≢ Err WriteFailed) → Keeps old new)

-- the exit status of an outcome
abbrev pub status_of : Result Outcome CaptureFault → ℕ
status_of (Ok Good) = 0
status_of (Ok Stopped) = 1
status_of (Err (BadLine number)) = 1
status_of (Err TooLarge) = 1
status_of (Err _) = 3

-- A fault with status 3 is told in its own line: nothing else is written, and all of it unless the error writer failed.
-- What is told of other faults, which name a line or the input, isn't said here.
abbrev pub TellsFault : CaptureFault → (told tells : Option (List ℕ)) → Type 0
TellsFault ReadFailed told tells = WritesFront told tells (codes "read failed\n")
TellsFault WriteFailed told tells = WritesFront told tells (codes "write failed\n")
TellsFault NoMemory told tells = WritesFront told tells (codes "no memory\n")
TellsFault fault told tells = Unit {0}

-- The command does so with some outcome, and the exit status is that of the outcome. Where it is no fault, this is true:
-- that nothing is reported.
abbrev pub HasStatus : (Result Outcome CaptureFault → Type 0) → (quiet : Type 0) → ℕ → Type 0
HasStatus Answers quiet status =
    (outcome : Result Outcome CaptureFault) × Answers outcome × (status ≡ status_of outcome) × OnOk outcome quiet
