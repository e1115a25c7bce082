use Rattle.std.proofs.Common.{◌∙◌, ap}
use Rattle.nsp_link.specs.declared.link.LinkSetup.{LinkSetup}
use Rattle.dap_live.proofs.NodeLemmas.{beside-local, no-link, only-link}
use Rattle.dap_live.proofs.node.renew.Goals as goal

pub renew_on-requires-clause-alone : goal.renew_on-requires-clause-alone
renew_on-requires-clause-alone c = λ mine other at here has is. only-link c.find_local.result c.in-Some.link at c.in-Some.is (c.find_local.ensures.only at other has is)

pub add_link-requires-clause-unused : goal.add_link-requires-clause-unused
add_link-requires-clause-unused c = λ other p has is.
    no-link c.find_local.result other c.in-None.is (c.find_local.ensures.only other p has (is ∙ ap (λ (s : LinkSetup). s.local) c.set_up_beside.ensures ∙ beside-local c.args.node.now.usual c.args.between))
