-- What the crates above may cite of this one's proofs. No other file here is for them.
use Rattle.std.proofs.Common.{◌≡◌, ℕ, List}
use Rattle.dap_msg.specs.Blocked.{all_joined}
use Rattle.nsp_link.specs.Cutting.{cut}
use Rattle.nsp_link.proofs.ForCallers.{written_one}
use Rattle.dap_events.specs.declared.event.End.{End}
use Rattle.dap_world.specs.Machine.{State, Sending, other_end, end_of}
use Rattle.dap_world.specs.Wires.{IsOnWire, end_address}
-- an event has one step at the most, or one reason why it has none
pub use Rattle.dap_world.proofs.Steps.Deciding.{no_step, one_reason, one_step}
-- what follows of a run that asks nothing, and of one that is all of settling
pub use Rattle.dap_world.proofs.Stretch.Quiet.{asks_nothing}
pub use Rattle.dap_world.proofs.Stretch.Still.{sends_nothing}
-- what an answer names is there
pub use Rattle.dap_world.proofs.Steps.Naming.{named}

-- one packet stands at an index of a wire
pub one_on_wire : (s : State) (end : End) (sending : Sending) (a b : List ℕ) → IsOnWire s end sending a → IsOnWire s end sending b → a ≡ b
unfolding IsOnWire
one_on_wire s end sending a b one two =
    written_one (end_address end) (end_address (other_end end)) (cut s.seg_size (all_joined (end_of s end).handed)) sending.segment sending.acks a b one two
