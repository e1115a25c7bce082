use Rattle.dap_msg.proofs.Offsets.{are_items}
use Rattle.dap_msg.proofs.laws.lists_messages.Goals as goal

pub returns : goal.returns
returns c = λ messages fit some. are_items messages fit some
