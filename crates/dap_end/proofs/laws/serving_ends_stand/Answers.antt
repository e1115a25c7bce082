use Rattle.std.proofs.Common.{ap, []}
use Rattle.dap_accessed.specs.Present.{Present}
use Rattle.dap_end.proofs.Afterwards.{posted_history}
use Rattle.dap_end.proofs.Proceeding.{counted, turn_grew}
use Rattle.dap_end.proofs.Fronts.{here_front}
use Rattle.dap_end.proofs.Going.{next_items}
use Rattle.dap_end.proofs.Running.{answers_from}
use Rattle.dap_end.proofs.laws.serving_ends_stand.Goals as goal

pub returns-clause-files : goal.returns-clause-files
returns-clause-files c = λ past v h. ap (λ (p : Present). p.files) h.serving

pub returns-clause-front : goal.returns-clause-front
returns-clause-front c = λ past v h. here_front past.given v.port.link.coming.inbox v.port.offset past.items h.gone

pub returns-clause-joined : goal.returns-clause-joined
returns-clause-joined c = λ own first items. answers_from own first [] items

pub returns-clause-posted : goal.returns-clause-posted
returns-clause-posted c = λ past old new n h p. posted_history old new n p past h

pub returns-clause-served_on : goal.returns-clause-served_on
returns-clause-served_on c = λ most past old new h on. counted past old new h (turn_grew most old new on)

pub returns-clause-rest : goal.returns-clause-rest
returns-clause-rest c = λ most old new on. (let g = turn_grew most old new on in (g.own, g.link))

pub returns-clause-next : goal.returns-clause-next
returns-clause-next c = λ past v bytes later rest h came r. next_items past.given v.port.link.coming.inbox later bytes v.port.offset past.items rest came h.gone r
