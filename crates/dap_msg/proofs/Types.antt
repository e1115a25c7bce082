-- The type of a message that was read is one byte.
use Rattle.std.proofs.Common.{ℕ, ◌<◌, List, arith}
use Rattle.dap_msg.specs.Message.{Message}
use Rattle.dap_msg.specs.Formats.{type_number}
use Rattle.dap_msg.specs.Items.{Whole, ItemAt}
use Rattle.dap_msg.proofs.Canonical.{number_fits}
use Rattle.dap_msg.proofs.Values.{fields_fit}

pub type_short : (bytes : List ℕ) (at : ℕ) (m : Message) (next : ℕ) → ItemAt bytes at (Whole m) next → type_number m < 256
type_short bytes at m next there =
    let known = number_fits m (fields_fit m (_, _, there.1.spelled)) in
    omega (arith, known.1)
