-- The packets of an input, as a taker took them.
use Rattle.std.specs.Prelude.{◌≡◌, ◌⊎◌, ℕ, List, Option, Result, Ok, Err}
use Rattle.std.specs.Io.KnownBytes.{Appends, Keeps}
use Rattle.linewise.specs.Output.{WritesFront}
use Rattle.linewise.specs.declared.fault.CaptureFault.{CaptureFault}
use Rattle.linewise.specs.declared.fault.CaptureFault.TheVariants.{NoMemory, ReadFailed, WriteFailed}
use Rattle.decnet_frames.specs.Found.{TakesAll, Taking}
use Rattle.cap_cli.specs.Running.{Founds}

-- The taker took packets, and their text is written, or a prefix of it where the writer failed. After what the reader
-- gave, it is the taker that is left.
abbrev pub Took : {T A : Type 0} → (Has : A → Founds → Type 0) → (Came Front : Founds → Type 0) → Taking T
    → (first last : T) → (old new : Option (List ℕ)) → Result A CaptureFault → Type 0
Took Has Came Front taken first last old new (Ok end) =
    (founds : Founds) × (text : List ℕ) × Has end founds × TakesAll taken first founds last text × Appends old new text
Took Has Came Front taken first last old new (Err ReadFailed) =
    (founds : Founds) × (text : List ℕ) × Came founds × TakesAll taken first founds last text × Appends old new text
Took {T} Has Came Front taken first last old new (Err WriteFailed) =
    (founds : Founds) × (now : T) × (text : List ℕ) × Front founds × TakesAll taken first founds now text × WritesFront old new text
Took {T} Has Came Front taken first last old new (Err NoMemory) =
    (founds : Founds) × (now : T) × (text : List ℕ) × Front founds × TakesAll taken first founds now text × Appends old new text
Took Has Came Front taken first last old new (Err _) = ⊥

-- the text after isn't written: nothing of it where memory was refused, and a prefix where the writer failed
abbrev pub RestFails : CaptureFault → List ℕ → (written holds : Option (List ℕ)) → Type 0
RestFails fault rest written holds =
    ((fault ≡ NoMemory) × Keeps written holds) ⊎ ((fault ≡ WriteFailed) × WritesFront written holds rest)
