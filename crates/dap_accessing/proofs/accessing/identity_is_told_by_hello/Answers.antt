use Rattle.dap_accessing.proofs.Identity.{admissible_by}
use Rattle.dap_accessing.proofs.Sending.{same_others}
use Rattle.dap_accessing.proofs.accessing.identity_is_told_by_hello.Goals as goal

pub returns-clause-others : goal.returns-clause-others
returns-clause-others c = λ one two request other. same_others one two request other

pub returns-clause-admissible : goal.returns-clause-admissible
returns-clause-admissible c = λ one two fits requests answers request m. admissible_by one two fits requests answers request m
