use Rattle.dap_msg.proofs.Written.{writes_canon}
use Rattle.dap_msg.proofs.laws.writes_canon.Goals as goal

pub returns : goal.returns
returns c = λ m bytes fits. writes_canon m bytes fits
