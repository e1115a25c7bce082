use Rattle.dap_shared.proofs.Events.{history-shares}
use Rattle.dap_shared.proofs.laws.writers_are_alone.Goals as goal

pub returns : goal.returns
returns c = λ own first links events one two o d. (history-shares own first links events o).0.apart one two d
