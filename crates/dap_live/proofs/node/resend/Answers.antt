use Rattle.std.proofs.Common.{◌∙◌, sym}
use Rattle.dap_live.proofs.NodeLemmas.{reaches-resend}
use Rattle.dap_live.proofs.ResultLemmas.{err_from}
use Rattle.dap_live.proofs.node.resend.Goals as goal

pub returns-in-Some-clause-err : goal.returns-in-Some-clause-err
returns-in-Some-clause-err c =
    err_from c.resend_on.result c.resend_on.ensures.err
    (reaches-resend c.args.local c.in-Some.link c.args.node.now c.resend_on.new.node (sym c.in-Some.is ∙ c.find.ensures.found))
