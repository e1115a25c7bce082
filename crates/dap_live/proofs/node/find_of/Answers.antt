use Rattle.std.proofs.Common.{sym, ◌∙◌}
use Rattle.dap_end.specs.Node.{is_between}
use Rattle.dap_live.proofs.Indices.{at, between-some}
use Rattle.dap_live.proofs.node.find_of.Goals as goal

pub returns-in-Some-clause-there : goal.returns-in-Some-clause-there
returns-in-Some-clause-there c =
    at (is_between c.addresses_of-local.result.0 c.addresses_of-local.result.1) (between-some c.addresses_of-local.result.0 c.addresses_of-local.result.1) c.args.node.now.ports c.in-Some.link (sym c.find_between.ensures ∙ c.in-Some.is)
