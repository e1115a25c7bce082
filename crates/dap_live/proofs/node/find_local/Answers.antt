use Rattle.dap_end.specs.Node.{has_local}
use Rattle.dap_live.proofs.Indices.{local-some, there, within}
use Rattle.dap_live.proofs.node.find_local.Goals as goal

pub returns-clause-there : goal.returns-clause-there
returns-clause-there c = there (has_local c.args.local) (local-some c.args.local) c.args.node.now.ports c.find_local.result c.find_local.ensures.found

pub returns-clause-within : goal.returns-clause-within
returns-clause-within c = within (has_local c.args.local) c.args.node.now.ports c.find_local.result c.find_local.ensures.found
