use Rattle.dap_shared.proofs.Growing.{answers-grow, answers-stay}
use Rattle.dap_shared.proofs.laws.answers_grow_on.Goals as goal

pub returns-clause-own : goal.returns-clause-own
returns-clause-own c = answers-grow

pub returns-clause-others : goal.returns-clause-others
returns-clause-others c = answers-stay
