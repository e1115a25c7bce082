use Rattle.dap_shared.specs.Nodes.{node_after}
use Rattle.dap_shared.proofs.Events.{drop-holds, drop-refused, history-shares}
use Rattle.dap_shared.proofs.Growing.{answers-dropped}
use Rattle.dap_shared.proofs.laws.a_drop_leaves_what_is_open.Goals as goal

pub returns-clause-busy : goal.returns-clause-busy
returns-clause-busy c = drop-refused

pub returns-clause-stays : goal.returns-clause-stays
returns-clause-stays c = λ own first links events link at held o is. drop-holds own (node_after own first links events) at (history-shares own first links events o).0 link held is

pub returns-clause-answers : goal.returns-clause-answers
returns-clause-answers c = answers-dropped
