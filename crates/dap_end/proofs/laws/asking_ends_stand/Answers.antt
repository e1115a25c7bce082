use Rattle.dap_end.proofs.Asked.{asked_history, counted, handed_history, read_grows}
use Rattle.dap_end.proofs.Fronts.{here_front}
use Rattle.dap_end.proofs.Going.{next_items}
use Rattle.dap_end.proofs.laws.asking_ends_stand.Goals as goal

pub returns-clause-front : goal.returns-clause-front
returns-clause-front c = λ past v h. here_front past.given v.port.link.coming.inbox v.port.offset past.answers h.gone

pub returns-clause-asked : goal.returns-clause-asked
returns-clause-asked c = λ past request old new n h a. asked_history request old new n a past h

pub returns-clause-posted : goal.returns-clause-posted
returns-clause-posted c = λ past old new n h p. handed_history old new n p past h

pub returns-clause-read_on : goal.returns-clause-read_on
returns-clause-read_on c = λ past old new reports h on. counted past old new reports h (read_grows old new reports on)

pub returns-clause-rest : goal.returns-clause-rest
returns-clause-rest c = λ old new reports on. (let g = read_grows old new reports on in (g.own, g.outbox, g.link))

pub returns-clause-next : goal.returns-clause-next
returns-clause-next c = λ past v bytes later rest h came r. next_items past.given v.port.link.coming.inbox later bytes v.port.offset past.answers rest came h.gone r
