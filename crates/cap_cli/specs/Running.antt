-- What becomes of an input: what is written, what is told, and the exit status.
use Rattle.std.specs.Prelude.{◌≡◌, ◌⊎◌, ℕ, Bool, true, false, List, [], ◌++◌, Option, Some, None, Result, Ok, Err}
use Rattle.std.specs.Io.KnownBytes.{Appends, Keeps}
use Rattle.std.specs.List.{list_any}
use Rattle.std.specs.Str.Lines.{lines}
use Rattle.linewise.specs.Gives.{TellsFault, status_of}
use Rattle.linewise.specs.Output.{WritesFront}
use Rattle.linewise.specs.Talks.{ReadsPart}
use Rattle.linewise.specs.declared.fault.CaptureFault.{CaptureFault}
use Rattle.linewise.specs.declared.fault.CaptureFault.TheVariants.{NoMemory, ReadFailed, WriteFailed}
use Rattle.capture_file.specs.Files.{IsWhole}
use Rattle.capture_file.specs.Meanings.{Record}
use Rattle.capture_file.specs.declared.fault.FileFault.{FileFault}
use Rattle.capture_file.specs.declared.fault.FaultKind.TheVariants.{UnknownMagic}
use Rattle.decnet_frames.specs.Found.{FoundPacket}
use Rattle.decnet_frames.specs.Founds.{counts_of_file, founds_of_file}
use Rattle.decnet_frames.specs.Lines.{HasFounds, counts_of_lines, founds_of_lines, is_refused}
use Rattle.decnet_frames.specs.Listed.{FileFails, HasJustRecords, HasRecords}
use Rattle.decnet_frames.specs.declared.ways.Between.{Between}
use Rattle.cap_cli.specs.Telling.{IsFaultText, IsFileText, TellsOr, file_status, lines_status, lines_text}
use Rattle.cap_cli.specs.declared.form.Form.{Form}
use Rattle.cap_cli.specs.declared.form.Form.TheVariants.{Lines, File, Unknown}
use Rattle.cap_cli.specs.declared.telling.FileEnd.{FileEnd}
use Rattle.cap_cli.specs.declared.telling.LinesEnd.{LinesEnd}

-- ---- The packets of an input.

-- packets that were found
abbrev pub Founds : Type 0
Founds = List FoundPacket

-- captured frames of a file up to its end, or up to its fault
abbrev pub AreFrames : Option FileFault → (input : List ℕ) → List Record → Type 0
AreFrames None input records = IsWhole input records
AreFrames (Some fault) input records = FileFails input records fault

-- the packets of a capture file that ended so
abbrev pub FileHas : Between → (input : List ℕ) → FileEnd → Founds → Type 0
FileHas between input end founds =
    (records : List Record) × AreFrames end.fault input records × (founds ≡ founds_of_file between records) × (end.counts ≡ counts_of_file between records)

-- those of a front of the file
abbrev pub FileFront : Between → (input : List ℕ) → Founds → Type 0
FileFront between input founds = (records : List Record) × HasRecords input records × (founds ≡ founds_of_file between records)

-- those of just some bytes that were read of it
abbrev pub FileCame : Between → (input : List ℕ) → Founds → Type 0
FileCame between input founds =
    (came unread : List ℕ) × (records : List Record) × (input ≡ came ++ unread) × HasJustRecords came records × (founds ≡ founds_of_file between records)

-- the packets of lines that ended so
abbrev pub LinesHave : Between → (input : List ℕ) → LinesEnd → Founds → Type 0
LinesHave between input end founds =
    (founds ≡ founds_of_lines between input) × (end.counts ≡ counts_of_lines between input) × (end.is_bad ≡ list_any is_refused (lines input))

-- those of a front of the lines
abbrev pub LinesFront : Between → (input : List ℕ) → Founds → Type 0
LinesFront between input founds = (unread : List ℕ) × HasFounds between input unread founds

-- those of just the lines that were read whole
abbrev pub LinesCame : Between → (input : List ℕ) → Founds → Type 0
LinesCame between input founds = (unread : List ℕ) × (left : Option (List ℕ)) × HasFounds between input unread founds × ReadsPart (Some unread) left

-- ---- What is written of them.

-- the text of packets as they come, and the text after it where the input ends
abbrev pub Texts : Type 1
Texts = Founds → (written rest : List ℕ) → Type 0

-- At the end of the input, or at its fault, both texts are written. Where reading failed, it is the first text of just
-- what was read; where memory was refused, that of some packets from the first on; and where writing failed, a prefix of
-- both. These are the packets of an input that ended so, of just what was read, and of a front of the input.
abbrev pub WritesTexts : {A : Type 0} → (Has : A → Founds → Type 0) → (Came Front : Founds → Type 0) → Texts
    → (old new : Option (List ℕ)) → Result A CaptureFault → Type 0
WritesTexts Has Came Front AreTexts old new (Ok end) =
    (founds : Founds) × (text rest : List ℕ) × Has end founds × AreTexts founds text rest × Appends old new (text ++ rest)
WritesTexts Has Came Front AreTexts old new (Err ReadFailed) =
    (founds : Founds) × (text rest : List ℕ) × Came founds × AreTexts founds text rest × Appends old new text
WritesTexts {A} Has Came Front AreTexts old new (Err WriteFailed) =
    (founds : Founds) × (text rest : List ℕ) × (Front founds ⊎ ((end : A) × Has end founds)) × AreTexts founds text rest × WritesFront old new (text ++ rest)
WritesTexts {A} Has Came Front AreTexts old new (Err NoMemory) =
    (founds : Founds) × (text rest : List ℕ) × (Front founds ⊎ ((end : A) × Has end founds)) × AreTexts founds text rest × Appends old new text
WritesTexts Has Came Front AreTexts old new (Err _) = ⊥

-- of a capture file
abbrev pub WritesFile : Texts → Between → List ℕ → (old new : Option (List ℕ)) → Result FileEnd CaptureFault → Type 0
WritesFile AreTexts between input = WritesTexts (FileHas between input) (FileCame between input) (FileFront between input) AreTexts

-- of lines
abbrev pub WritesLines : Texts → Between → List ℕ → (old new : Option (List ℕ)) → Result LinesEnd CaptureFault → Type 0
WritesLines AreTexts between input = WritesTexts (LinesHave between input) (LinesCame between input) (LinesFront between input) AreTexts

-- ---- An input that is listed as it is read.

-- A capture file: its text is written, and its end is told; or reading, writing or memory failed, which is told.
abbrev pub ListsFile : Texts → Between → List ℕ → (old new told tells : Option (List ℕ)) → ℕ → Type 0
ListsFile AreTexts between input old new told tells status =
    ((end : FileEnd) × WritesFile AreTexts between input old new (Ok end) × TellsOr (IsFileText end) (file_status end) told tells status)
    ⊎ ((fault : CaptureFault) × WritesFile AreTexts between input old new (Err fault) × TellsFault fault told tells × (status ≡ status_of (Err fault)))

-- Lines: their text is written, and their end is told, after what was told of bad ones; or reading, writing or memory
-- failed.
abbrev pub ListsLines : Texts → Between → List ℕ → (old new tells : Option (List ℕ)) → ℕ → Type 0
ListsLines AreTexts between input old new tells status =
    ((end : LinesEnd) × (heard : Option (List ℕ)) × WritesLines AreTexts between input old new (Ok end)
    × TellsOr (λ text. text ≡ lines_text end) (lines_status end) heard tells status)
    ⊎ ((fault : CaptureFault) × (heard : Option (List ℕ)) × WritesLines AreTexts between input old new (Err fault)
    × TellsFault fault heard tells × (status ≡ status_of (Err fault)))

-- what is wrong with an input of no known form
abbrev pub unknown : FileFault
unknown = record { kind = UnknownMagic; at = 0 }

-- An input of no known form: nothing is written, and that is told.
abbrev pub ListsNothing : (old new told tells : Option (List ℕ)) → ℕ → Type 0
ListsNothing old new told tells status = Keeps old new × TellsOr (IsFaultText unknown) 1 told tells status

-- an input by its form
abbrev pub ListsForm : Texts → Between → Form → List ℕ → (old new told tells : Option (List ℕ)) → ℕ → Type 0
ListsForm AreTexts between Lines input old new told tells status = ListsLines AreTexts between input old new tells status
ListsForm AreTexts between File input old new told tells status = ListsFile AreTexts between input old new told tells status
ListsForm AreTexts between Unknown input old new told tells status = ListsNothing old new told tells status

-- ---- An input that is checked first.

-- a whole text is written, and its end is told so; or the writer failed
abbrev pub WritesAll : (text : List ℕ) → (old new : Option (List ℕ)) → (Tells : ℕ → Type 0) → (Fails : Type 0) → ℕ → Type 0
WritesAll text old new Tells Fails status = (Appends old new text × Tells status) ⊎ (WritesFront old new text × Fails × (status ≡ 3))

-- the text of a capture file is written where it has no fault, and else nothing
abbrev pub StrictFileBy : Option FileFault → FileEnd → (text : List ℕ) → (old new told tells : Option (List ℕ)) → ℕ → Type 0
StrictFileBy None end text old new told tells status =
    WritesAll text old new (TellsOr (IsFileText end) 0 told tells) (TellsFault WriteFailed told tells) status
StrictFileBy (Some fault) end text old new told tells status = Keeps old new × TellsOr (IsFaultText fault) 1 told tells status

-- what was made of it in memory
abbrev pub StrictFileOf : Result FileEnd CaptureFault → (text : List ℕ) → (old new told tells : Option (List ℕ)) → ℕ → Type 0
StrictFileOf (Ok end) text old new told tells status = StrictFileBy end.fault end text old new told tells status
StrictFileOf (Err fault) text old new told tells status = Keeps old new × TellsFault NoMemory told tells × (status ≡ 3)

-- A capture file: its text is made in memory, and written if it is all.
abbrev pub StrictFile : Texts → Between → List ℕ → (old new told tells : Option (List ℕ)) → ℕ → Type 0
StrictFile AreTexts between input old new told tells status =
    (result : Result FileEnd CaptureFault) × (text : List ℕ)
    × WritesFile AreTexts between input (Some []) (Some text) result × StrictFileOf result text old new told tells status

-- the text of lines is written where none is bad, and else nothing
abbrev pub StrictLinesBy : Bool → LinesEnd → (text : List ℕ) → (old new tells : Option (List ℕ)) → ℕ → Type 0
StrictLinesBy false end text old new tells status =
    (heard : Option (List ℕ)) × WritesAll text old new (TellsOr (λ told. told ≡ lines_text end) 0 heard tells) (TellsFault WriteFailed heard tells) status
StrictLinesBy true end text old new tells status = Keeps old new × (status ≡ 1)

-- what was made of them in memory
abbrev pub StrictLinesOf : Result LinesEnd CaptureFault → (text : List ℕ) → (old new tells : Option (List ℕ)) → ℕ → Type 0
StrictLinesOf (Ok end) text old new tells status = StrictLinesBy end.is_bad end text old new tells status
StrictLinesOf (Err fault) text old new tells status = (heard : Option (List ℕ)) × Keeps old new × TellsFault NoMemory heard tells × (status ≡ 3)

-- Lines: their text is made in memory, and written if it is all.
abbrev pub StrictLines : Texts → Between → List ℕ → (old new tells : Option (List ℕ)) → ℕ → Type 0
StrictLines AreTexts between input old new tells status =
    (result : Result LinesEnd CaptureFault) × (text : List ℕ)
    × WritesLines AreTexts between input (Some []) (Some text) result × StrictLinesOf result text old new tells status

-- an input by its form
abbrev pub StrictForm : Texts → Between → Form → List ℕ → (old new told tells : Option (List ℕ)) → ℕ → Type 0
StrictForm AreTexts between Lines input old new told tells status = StrictLines AreTexts between input old new tells status
StrictForm AreTexts between File input old new told tells status = StrictFile AreTexts between input old new told tells status
StrictForm AreTexts between Unknown input old new told tells status = ListsNothing old new told tells status
