-- What a listing of an input comes to, by its options.
use Rattle.std.specs.Prelude.{◌≡◌, ◌⊎◌, ◌<◌, ◌≤◌, ℕ, Bool, not, true, false, List, [], length, Option}
use Rattle.std.specs.Io.KnownBytes.{Keeps}
use Rattle.linewise.specs.Gives.{TellsFault}
use Rattle.linewise.specs.Talks.{max_line}
use Rattle.linewise.specs.declared.fault.CaptureFault.{CaptureFault}
use Rattle.linewise.specs.declared.fault.CaptureFault.TheVariants.{NoMemory, ReadFailed}
use Rattle.decnet_frames.specs.HexLines.{all_hex_lines}
use Rattle.dap_follow.specs.Listed.{PacketsAreListed}
use Rattle.dap_follow.specs.declared.lister.Chosen.{Chosen}
use Rattle.cap_cli.specs.Forms.{form_of}
use Rattle.cap_cli.specs.Running.{ListsForm, StrictForm, Texts}
use Rattle.cap_cli.specs.declared.form.Form.{Form}
use Rattle.cap_cli.specs.declared.words.Options.{Options}

-- what a listing has
abbrev pub chosen_of : Options → Chosen
chosen_of options = record { in_words = not options.bare; is_joined = not options.segments }

-- lines of a capture, with nothing after them
abbrev pub AreHexLines : Texts
AreHexLines packets written rest = (written ≡ all_hex_lines packets) × (rest ≡ [])

-- the text of packets: lines of a capture, or a listing
abbrev pub TextsBy : Bool → Options → Texts
TextsBy true options = AreHexLines
TextsBy false options = PacketsAreListed (chosen_of options)

-- that of these options
abbrev pub TextsOf : Options → Texts
TextsOf options = TextsBy options.lines options

-- ---- As the input is read.

-- an input of this form is listed as it is read
abbrev pub ListsInput : Options → Form → List ℕ → (old new told tells : Option (List ℕ)) → ℕ → Type 0
ListsInput options = ListsForm (TextsOf options) options.between

-- The input is listed by its form; or reading failed within its first bytes, and nothing is written.
abbrev pub ListsAsRead : Options → List ℕ → (old new told tells : Option (List ℕ)) → ℕ → Type 0
ListsAsRead options input old new told tells status =
    ListsInput options (form_of input) input old new told tells status
    ⊎ (Keeps old new × TellsFault ReadFailed told tells × (status ≡ 3))

-- ---- With the input checked first.

-- an input of this form is checked, and listed
abbrev pub StrictInput : Options → Form → List ℕ → (old new told tells : Option (List ℕ)) → ℕ → Type 0
StrictInput options = StrictForm (TextsOf options) options.between

-- The input is checked, and listed where it is good. Or it is above its limit, with status 1; or reading failed or memory
-- was refused, which is told; and nothing is written.
abbrev pub ListsStrictly : Options → List ℕ → (old new told tells : Option (List ℕ)) → ℕ → Type 0
ListsStrictly options input old new told tells status =
    ((length input ≤ max_line) × StrictInput options (form_of input) input old new told tells status)
    ⊎ ((max_line < length input) × Keeps old new × (status ≡ 1))
    ⊎ ((fault : CaptureFault) × ((fault ≡ ReadFailed) ⊎ (fault ≡ NoMemory)) × Keeps old new × TellsFault fault told tells × (status ≡ 3))

-- ---- A task.

-- an input is checked first, or not
abbrev pub TaskBy : Bool → Options → List ℕ → (old new told tells : Option (List ℕ)) → ℕ → Type 0
TaskBy true = ListsStrictly
TaskBy false = ListsAsRead

-- an input is listed as its options say
abbrev pub ListsReader : Options → List ℕ → (old new told tells : Option (List ℕ)) → ℕ → Type 0
ListsReader options = TaskBy options.strict options
