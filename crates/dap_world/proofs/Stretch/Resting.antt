-- What events of the links leave alone, whatever comes of them.
use Rattle.std.proofs.Common.{◌≡◌, ℕ, arith, refl, ◌∙◌, subst, sym, Ok, Err}
use Rattle.std.specs.Prelude.{Result}
use Rattle.dap_events.specs.declared.event.End.{End}
use Rattle.dap_events.specs.declared.event.End.TheVariants.{A, B}
use Rattle.dap_events.specs.declared.event.Event.TheVariants as event
use Rattle.dap_events.specs.declared.event.Step.{Step}
use Rattle.dap_events.specs.declared.event.WorldFault.{WorldFault}
use Rattle.dap_world.specs.Machine.{State, end_of, Steps}
use Rattle.dap_world.specs.Settling.{work}
use Rattle.dap_world.specs.Runs.{ComesTo}
use Rattle.dap_world.specs.Inner.Worlds.{IsWorld}
use Rattle.dap_world.specs.Inner.Settling.{SameBut, NothingSent}
use Rattle.dap_world.proofs.Steps.Others.{refused_same}
use Rattle.dap_world.proofs.Stretch.Bringing.{same_none, same_both, same_wrote, sent_same, same_emit, same_ack, same_deliver, ack_sent, deliver_sent}

pub rest_none : (s : State) → NothingSent s s
rest_none s = record { same = same_none s; sent = λ e. refl }

pub rest_is : (old new : State) → new ≡ old → NothingSent old new
rest_is old new is = subst (NothingSent old) (sym is) (rest_none old)

pub rest_both : (old mid new : State) → NothingSent old mid → NothingSent mid new → NothingSent old new
rest_both old mid new a b = record { same = same_both old mid new a.same b.same; sent = λ e. b.sent e ∙ a.sent e }

-- ---- Each event of a link.

resend_same : (old new : State) (end : End) (i : ℕ) (answer : Step) → Steps old (event.Resend end i) answer new → SameBut old new
unfolding Steps
resend_same old new end i answer step = same_wrote old new end _ _ step.2

resend_sent : (old new : State) (end e : End) (i : ℕ) (answer : Step) → Steps old (event.Resend end i) answer new → (end_of new e).sent ≡ (end_of old e).sent
unfolding Steps
resend_sent old new end e i answer step = sent_same old new end e _ step.2 refl

pub rest_resend : (old new : State) (end : End) (i : ℕ) (r : Result Step WorldFault) → ComesTo old (event.Resend end i) r new → NothingSent old new
rest_resend old new end i (Ok answer) went = record { same = resend_same old new end i answer went; sent = λ e. resend_sent old new end e i answer went }
rest_resend old new end i (Err f) went = rest_is old new (refused_same old new (event.Resend end i) f went)

pub rest_ack : (old new : State) (end : End) (r : Result Step WorldFault) → ComesTo old (event.Ack end) r new → NothingSent old new
rest_ack old new end (Ok answer) went = record { same = same_ack old new end answer went; sent = λ e. ack_sent old new end e answer went }
rest_ack old new end (Err f) went = rest_is old new (refused_same old new (event.Ack end) f went)

pub rest_deliver : (old new : State) (end : End) (j : ℕ) (r : Result Step WorldFault) → IsWorld old → ComesTo old (event.Deliver end j) r new → NothingSent old new
rest_deliver old new end j (Ok answer) h went = record { same = same_deliver old new end j answer h went; sent = λ e. deliver_sent old new end e j answer went }
rest_deliver old new end j (Err f) h went = rest_is old new (refused_same old new (event.Deliver end j) f went)

pub same_emitted : (old new : State) (end : End) (r : Result Step WorldFault) → ComesTo old (event.Emit end) r new → SameBut old new
same_emitted old new end (Ok answer) went = same_emit old new end answer went
same_emitted old new end (Err f) went = (rest_is old new (refused_same old new (event.Emit end) f went)).same

-- ---- Said by a state.

pub no_work : (old new : State) → NothingSent old new → work new ≡ work old
no_work old new h = omega (arith, h.sent A, h.sent B, h.same.served, h.same.read)
