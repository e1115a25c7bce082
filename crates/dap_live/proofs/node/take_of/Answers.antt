use Rattle.std.proofs.Common.{inr, Ok}
use Rattle.dap_live.proofs.ResultLemmas.{err_from}
use Rattle.dap_live.proofs.node.take_of.Goals as goal

-- what was done is done, also where it isn't told
pub returns-in-Ok-clause-err : goal.returns-in-Ok-clause-err
returns-in-Ok-clause-err c =
    err_from c.take_on.result c.take_on.ensures.err (λ done. inr (done.0, done.1, (Ok c.in-Ok.link, c.in-Ok.ensures.finds, done.2)))
