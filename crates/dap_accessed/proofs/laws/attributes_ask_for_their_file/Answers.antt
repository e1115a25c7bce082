use Rattle.dap_accessed.proofs.AskingBack.{attributes-back}
use Rattle.dap_accessed.proofs.laws.attributes_ask_for_their_file.Goals as goal

pub returns : goal.returns
returns c = attributes-back
