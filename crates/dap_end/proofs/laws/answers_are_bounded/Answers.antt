use Rattle.dap_end.proofs.Bounding.{going_bounded, taking_bounded, all_served}
use Rattle.dap_end.proofs.laws.answers_are_bounded.Goals as goal

pub returns-clause-go_on : goal.returns-clause-go_on
returns-clause-go_on c = going_bounded

pub returns-clause-take : goal.returns-clause-take
returns-clause-take c = taking_bounded

pub returns-clause-nothing_left : goal.returns-clause-nothing_left
returns-clause-nothing_left c = λ most past old new out all some pos room h w sent. all_served most past old new out all some pos room h w sent
