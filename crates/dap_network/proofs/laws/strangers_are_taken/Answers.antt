use Rattle.dap_network.proofs.Calling.{comes_of_stranger, go_on_leads, sent_to_stranger, take_leads}
use Rattle.dap_network.proofs.laws.strangers_are_taken.Goals as goal

pub returns-clause-take : goal.returns-clause-take
returns-clause-take c = λ link most old node bytes out all r none on.
    let t = take_leads link old most node bytes out all r (λ p there. comes_of_stranger link old none p.link bytes) on in sent_to_stranger link old none node t.0 t.1

pub returns-clause-go_on : goal.returns-clause-go_on
returns-clause-go_on c = λ link most old node out all r none on.
    let t = go_on_leads link old most node out all r on in sent_to_stranger link old none node t.0 t.1
