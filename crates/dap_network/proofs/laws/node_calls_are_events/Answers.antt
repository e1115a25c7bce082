use Rattle.dap_network.proofs.Asking.{leads_on}
use Rattle.dap_network.proofs.Calling.{ack_leads, comes_of_it, go_on_leads, resend_leads, sent_to_it, take_leads}
use Rattle.dap_network.proofs.laws.node_calls_are_events.Goals as goal

pub returns-clause-take : goal.returns-clause-take
returns-clause-take c = λ link most old node peer bytes out all r at brought on.
    let t = take_leads link old most node bytes out all r (λ p there. comes_of_it link old peer at p.link bytes (brought p there)) on in
    (t.0, sent_to_it link old peer at node t.0 t.1, t.2)

pub returns-clause-go_on : goal.returns-clause-go_on
returns-clause-go_on c = λ link most old node peer out all r at on.
    let t = go_on_leads link old most node out all r on in
    (t.0, sent_to_it link old peer at node t.0 t.1, t.2)

pub returns-clause-resend : goal.returns-clause-resend
returns-clause-resend c = λ link i old peer p bytes at there lt w. sent_to_it link old peer at old.node _ (resend_leads link old p i bytes there lt w)

pub returns-clause-ack : goal.returns-clause-ack
returns-clause-ack c = λ link old peer p bytes at there s. sent_to_it link old peer at old.node _ (ack_leads link old p bytes there s)

pub returns-clause-more : goal.returns-clause-more
returns-clause-more c = leads_on
