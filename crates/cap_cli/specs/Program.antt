-- What the program does by its words.
use Rattle.std.specs.Prelude.{◌≡◌, ◌⊎◌, ℕ, List, codes, bytes_eq, drop, if◌then◌else◌, Option, Some, None, IfSome}
use Rattle.std.specs.Io.KnownBytes.{Appends, Keeps}
use Rattle.linewise.specs.Gives.{TellsFault}
use Rattle.linewise.specs.Output.{WritesFront}
use Rattle.linewise.specs.declared.fault.CaptureFault.TheVariants.{WriteFailed}
use Rattle.cap_cli.specs.Opening.{unopened_line}
use Rattle.cap_cli.specs.Tasks.{ListsReader}
use Rattle.cap_cli.specs.Words.{WantedListing, Text}
use Rattle.cap_cli.specs.declared.opening.Unopened.{Unopened}

-- the words after the name of the program
abbrev pub after_name : List Text → List Text
after_name words = drop 1 words

-- the file that is opened: standard input where there is none or it is `-`
abbrev pub opened : Option Text → Option Text
opened None = None
opened (Some name) = if bytes_eq name (codes "-") then None else Some name

-- A page is written; or the writer failed, and a prefix of it is.
abbrev pub WritesPage : Text → (old new told tells : Option (List ℕ)) → ℕ → Type 0
WritesPage page old new told tells status =
    (Appends old new page × Keeps told tells × (status ≡ 0)) ⊎ (WritesFront old new page × TellsFault WriteFailed told tells × (status ≡ 3))

-- The input of a task is listed; or it can't be opened, and nothing is written. These are the bytes of files, and why they
-- may not be opened.
abbrev pub ListsTask : (held : Option Text → Option (List ℕ)) → (Refuses : Option Text → Unopened → Type 0) → WantedListing
    → (old new told tells : Option (List ℕ)) → ℕ → Type 0
ListsTask held Refuses asked old new told tells status =
    IfSome (held (opened asked.file)) (λ input. ListsReader asked.options input old new told tells status)
    ⊎ ((why : Unopened) × Refuses (opened asked.file) why × Keeps old new
    × WritesFront told tells (unopened_line (opened asked.file) why) × (status ≡ 3))
