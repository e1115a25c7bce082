use Rattle.dap_accessed.proofs.Apart.{all-apart}
use Rattle.dap_accessed.proofs.laws.names_stay_apart.Goals as goal

pub returns : goal.returns
returns c = λ own first items h. all-apart own first items h
