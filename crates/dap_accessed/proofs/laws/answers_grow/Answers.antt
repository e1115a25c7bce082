use Rattle.dap_accessed.proofs.Cuts.{Answers-more}
use Rattle.dap_accessed.proofs.laws.answers_grow.Goals as goal

pub returns : goal.returns
returns c = λ own first items item. Answers-more own first items item
