use Rattle.dap_live.proofs.NodeLemmas.{begun-err}
use Rattle.dap_live.proofs.node.begin.Goals as goal

pub returns-clause-err : goal.returns-clause-err
returns-clause-err c = begun-err c.args.link c.args.setup c.args.node.now c.begin.new.self c.begin.result c.requires.alone c.begin.ensures.err
