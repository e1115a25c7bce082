-- What is kept with a file, in the steps of its functions.
use Rattle.std.specs.Prelude.{◌≡◌, ℕ, List, Option, Some, None}
use Rattle.dap_msg.specs.Fitting.{FieldsFit}
use Rattle.dap_msg.specs.declared.items.Item.{Item}
use Rattle.dap_msg.specs.declared.items.Item.TheVariants.{Whole}
use Rattle.dap_msg.specs.declared.message.Attributes.{Attributes}
use Rattle.dap_msg.specs.declared.message.Message.TheVariants.{Attrib}
use Rattle.rec_file.specs.declared.look.Look.{Look}
use Rattle.dap_text.specs.Kept.{look_bytes, kept_message}

-- what attributes have of what a file may keep
abbrev pub attributes_look : Attributes → Look
attributes_look a = record { datatype = a.datatype; rfm = a.rfm; rat = a.rat; bls = a.bls; bks = a.bks; fsz = a.fsz; bsz = a.bsz }

-- what is kept by a message of Attributes, and nothing for any other item
abbrev pub kept_in : Item → Option Look
kept_in (Whole (Attrib a)) = Some (attributes_look a)
kept_in item = None

-- these are the bytes of what is kept
pub record IsSpelledBy (bytes : List ℕ) (look : Look) : Type 0 where
  pub fields : FieldsFit (kept_message look)
  pub spelled : look_bytes look ≡ bytes
