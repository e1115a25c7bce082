use Rattle.dap_live.proofs.OneAsking.{asking_text}
use Rattle.dap_live.proofs.OneNode.{node_text}
use Rattle.dap_live.proofs.laws.inputs_have_one_text.Goals as goal

pub returns-clause-asking : goal.returns-clause-asking
returns-clause-asking c = asking_text

pub returns-clause-node : goal.returns-clause-node
returns-clause-node c = node_text
