use Rattle.std.proofs.Common.{◌++◌, length, refl, subst, sym}
use Rattle.std.specs.Prelude.{Option}
use Rattle.dap_accessing.specs.declared.pending.Pending.{Pending}
use Rattle.dap_accessing.proofs.ForCallers.{taken_out}
use Rattle.dap_end.specs.Asking.{HasAsked}
use Rattle.dap_end.specs.Done.{AskingValue}
use Rattle.dap_end.specs.Each.{with_told}
use Rattle.dap_end.specs.Going.{processed_after}
use Rattle.dap_end.specs.Moved.{with_outbox_sent}
use Rattle.dap_end.proofs.Asked.{handed_is, handed_history, still_received, still_sent}
use Rattle.dap_end.proofs.Taking.{grown}
use Rattle.dap_end.proofs.laws.taken_records_count.Goals as goal

pub returns-clause-taken : goal.returns-clause-taken
returns-clause-taken c = λ told past v h.
    subst (λ (o : Option Pending). HasAsked past (record v { present = record v.present { pending = o } })) (sym (taken_out told v.present.pending)) h

pub returns-clause-read : goal.returns-clause-read
returns-clause-read c = λ told past old new report batch h r. (
  processed_after past.given r.one.bytes r.one.next,
  r.one.item,
  r.past_on told past batch h,
  r.told_on told past batch h,
)

pub returns-clause-received : goal.returns-clause-received
returns-clause-received c = λ told past old new packet r h took.
    subst (λ (v : AskingValue). HasAsked past (with_told told v)) (sym took.rest)
    (still_received (with_told told old) new.port.link (grown old.port.link new.port.link packet r took.receives) took.receives.sends past h)

pub returns-clause-posted : goal.returns-clause-posted
returns-clause-posted c = λ told past old new n h hands.
    subst (λ (v : AskingValue). HasAsked (record past { handed = past.handed ++ old.port.outbox }) (with_told told v)) (sym (handed_is old new n hands))
    (handed_history (with_told told old) (with_told told (record old { port = with_outbox_sent old.port })) n (hands.0, refl, hands.2) past h)

pub returns-clause-wrote : goal.returns-clause-wrote
returns-clause-wrote c = λ told past old new packets h rest wrote.
    subst (λ (v : AskingValue). HasAsked past (with_told told v)) (sym rest) (still_sent (with_told told old) new.port (length packets) wrote.sent past h)
