use Rattle.dap_live.proofs.node.add_link.Goals as goal

pub begin_on-requires-clause-alone : goal.begin_on-requires-clause-alone
begin_on-requires-clause-alone c = λ other p has is. absurd (c.requires.unused other p has is)
