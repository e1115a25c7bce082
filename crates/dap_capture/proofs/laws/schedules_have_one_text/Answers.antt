use Rattle.dap_capture.proofs.OneText.{one_text}
use Rattle.dap_capture.proofs.laws.schedules_have_one_text.Goals as goal

pub returns-clause-outcome : goal.returns-clause-outcome
returns-clause-outcome c = λ input a b one two played other. (one_text input a b one two played other).0

pub returns-clause-text : goal.returns-clause-text
returns-clause-text c = λ input a b one two played other. (one_text input a b one two played other).1
