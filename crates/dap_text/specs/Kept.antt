-- What is kept with a file, as the bytes of a message.
use Rattle.std.specs.Prelude.{◌≡◌, ℕ, ◌&&◌, ◌==◌, nat_le, if◌then◌else◌, List, [], Option, Some, None, Result, Ok, Err}
use Rattle.dap_msg.specs.BothEnds.{four_bytes}
use Rattle.dap_msg.specs.Canon.{canon}
use Rattle.dap_msg.specs.Codes.{rfm}
use Rattle.dap_msg.specs.Fitting.{FieldsFit}
use Rattle.dap_msg.specs.declared.message.Attributes.{Attributes}
use Rattle.dap_msg.specs.declared.message.Message.{Message}
use Rattle.dap_msg.specs.declared.message.Message.TheVariants.{Attrib}
use Rattle.rec_file.specs.declared.look.Look.{Look}
use Rattle.rec_file.specs.Looks.{is_plain}
use Rattle.dap_accessed.specs.declared.asked.Asked.{Asked}
use Rattle.dap_accessed.specs.Asked.{asked_fully, look_of, max_format}
use Rattle.dap_accessed.specs.Replies.{look_attributes}
use Rattle.dap_text.specs.declared.fault.FileFault.{FileFault}
use Rattle.dap_text.specs.declared.fault.FileFault.TheVariants as fault
use Rattle.dap_text.specs.declared.filed.FileLine.{FileLine}

-- what is kept, as an Attributes message
abbrev pub kept_message : Look → Message
kept_message look = Attrib (look_attributes look)

-- the bytes of that message, none where nothing is kept
abbrev pub look_bytes : Look → List ℕ
look_bytes look = if is_plain look then [] else canon (kept_message look)

-- ---- What a line of a file asks for.

-- RFM that a line asks for: that of what is kept, where the line says variable records and there is such a format
abbrev pub line_format : (said : ℕ) → (kept : Option ℕ) → ℕ
line_format said None = said
line_format said (Some kept) = if said == rfm.variable && nat_le kept max_format then kept else said

-- a line asks for what such attributes would: those that are kept, and ORG, RFM, MRS and MRN as it says them
abbrev pub line_attributes : FileLine → Look → Attributes
line_attributes file look = record (look_attributes look) {
  org = Some file.org;
  rfm = Some (line_format file.rfm look.rfm);
  mrs = Some file.mrs;
  mrn = Some (four_bytes file.mrn);
}

-- A line says that this is kept: its bytes are that message, and the file keeps all of it.
pub record SaysKept (file : FileLine) (look : Look) : Type 0 where
  pub fields : FieldsFit (kept_message look)
  pub spelled : look_bytes look ≡ file.kept
  pub all : look_of (line_attributes file look) ≡ look

-- What a line asks for; or why there is no such file: what it says is kept isn't, or its attributes are bad.
abbrev pub LineAsks : FileLine → Result Asked FileFault → Type 0
LineAsks file (Ok asked) = SaysKept file asked.look × (asked_fully (line_attributes file asked.look) ≡ Some asked)
LineAsks file (Err fault.BadKept) = (look : Look) → SaysKept file look → ⊥
LineAsks file (Err fault.BadAttributes) = (look : Look) × SaysKept file look × (asked_fully (line_attributes file look) ≡ None)
LineAsks file (Err fault.NoMemory) = ⊥
