use Rattle.dap_shared.proofs.Holders.{has-holder, is-holder}
use Rattle.dap_shared.proofs.laws.a_locked_file_has_a_holder.Goals as goal

pub returns-clause-holder : goal.returns-clause-holder
returns-clause-holder c = has-holder

pub returns-clause-locked : goal.returns-clause-locked
returns-clause-locked c = is-holder
