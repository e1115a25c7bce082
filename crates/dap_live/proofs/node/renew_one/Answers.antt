use Rattle.dap_live.proofs.node.renew_one.Goals as goal

pub renew_on-requires-clause-alone : goal.renew_on-requires-clause-alone
renew_on-requires-clause-alone c = λ mine other at here has is. c.in-Some.ensures.only at other has
