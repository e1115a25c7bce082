-- The messages, whose bytes are lists of numbers (`MessageValue` of the program). All definitions speak of messages
-- by these.
use Rattle.std.specs.Prelude.{ℕ, ◌+◌, ◌*◌, Option, Some, None}
pub use Rattle.dap_msg.specs.declared.message.Message.{Message}
pub use Rattle.dap_msg.specs.declared.message.Configuration.{Configuration}
pub use Rattle.dap_msg.specs.declared.message.Attributes.{Attributes}
pub use Rattle.dap_msg.specs.declared.message.AccessFields.{AccessFields}
pub use Rattle.dap_msg.specs.declared.message.ControlFields.{ControlFields}
pub use Rattle.dap_msg.specs.declared.message.Completion.{Completion}
pub use Rattle.dap_msg.specs.declared.message.StatusFields.{StatusFields}
pub use Rattle.dap_msg.specs.declared.message.Message.TheVariants.{Config, Attrib, Access, Control, Contran, Ack, Accomp, Filedata, Status, Other}

-- ---- The header.

-- the header of a message: its type, FLAGS, and the length of the operand if FLAGS has it
pub record Header : Type 0 where
  -- the type of the message
  pub number : ℕ
  pub flags : ℕ
  -- the low and the high byte of the operand's length, where they are there
  pub low : Option ℕ
  pub high : Option ℕ

-- the operand's length, where the header has one
abbrev pub length_of : Option ℕ → Option ℕ → Option ℕ
length_of None high = None
length_of (Some low) None = Some low
length_of (Some low) (Some high) = Some (low + 256 * high)
