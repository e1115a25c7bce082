use Rattle.dap_accessed.proofs.Answering.{added-sends, read-short}
use Rattle.dap_accessed.proofs.laws.answers_are_sendable.Goals as goal

pub returns : goal.returns
returns c = λ own small first items item good r. added-sends own small first good items item (read-short item r)
