use Rattle.dap_accessed.proofs.Answering.{all-fit}
use Rattle.dap_accessed.proofs.laws.answers_fit.Goals as goal

pub returns : goal.returns
returns c = λ own small first items good r. all-fit own small first good items r
