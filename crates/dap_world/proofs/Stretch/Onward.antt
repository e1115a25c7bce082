-- What runs that ask nothing leave alone, and what only grows.
use Rattle.std.proofs.Common.{◌≡◌, ℕ, ◌≤◌, arith, refl, sym, ◌∙◌, subst, ap, append_assoc, List, [], ◌∷◌, ◌++◌, length, map, take}
use Rattle.std.proofs.lemmas.List.{append-nil, take-append-le, map-append}
use Rattle.dap_msg.specs.declared.message.Message.{Message}
use Rattle.dap_msg.specs.declared.items.Item.TheVariants.{Whole}
use Rattle.dap_msg.specs.Blocked.{NspMessage, messages_in}
use Rattle.dap_world.specs.Plain.{Answers}
use Rattle.dap_accessing.specs.Request.{Request}
use Rattle.dap_accessing.specs.Told.{Told}
use Rattle.dap_events.specs.declared.event.End.{End}
use Rattle.dap_events.specs.declared.event.End.TheVariants.{A, B}
use Rattle.dap_events.specs.declared.event.Event.{Event}
use Rattle.dap_events.specs.declared.event.Event.TheVariants as event
use Rattle.dap_events.specs.declared.event.Step.{Step}
use Rattle.dap_world.specs.Machine.{State, sent_by, served_by_b, answers_read, reports_by_a, Steps}
use Rattle.dap_world.specs.Runs.{Runs}
use Rattle.dap_world.specs.Inner.Worlds.{IsWorld}
use Rattle.dap_world.specs.Settling.{RanBy}
use Rattle.dap_world.specs.Inner.Settling.{AsksNothing, RanTo, SameBut}
use Rattle.dap_world.proofs.Headline.Asking.{answers-prefix}
use Rattle.dap_world.proofs.Stretch.Bringing.{same_emit, same_ack, same_deliver, same_wrote}
use Rattle.dap_world.proofs.Headline.Kept.{kept-step, taken-more, headline_of}
use Rattle.dap_world.proofs.Steps.Packets.{served-stays}
use Rattle.dap_world.proofs.Stretch.Quiet.{asks_nothing}
use Rattle.dap_world.proofs.Stretch.Settles.{ran_none}

pub record Onward (old new : State) : Type 0 where
  pub seg_size : new.seg_size ≡ old.seg_size
  pub window : new.window ≡ old.window
  pub own_a : new.own_a ≡ old.own_a
  pub own_b : new.own_b ≡ old.own_b
  pub requests : new.requests ≡ old.requests
  pub read : old.read ≤ new.read
  pub more : List Message
  pub taken : served_by_b new ≡ served_by_b old ++ more

on_none : (s : State) → Onward s s
on_none s = record { seg_size = refl; window = refl; own_a = refl; own_b = refl; requests = refl; read = omega arith; more = []; taken = sym (append-nil (served_by_b s)) }

on_is : (old mid new : State) → new ≡ mid → Onward old mid → Onward old new
on_is old mid new is h = subst (Onward old) (sym is) h

on_both : (old mid new : State) → Onward old mid → Onward mid new → Onward old new
on_both old mid new a b =
    record {
      seg_size = b.seg_size ∙ a.seg_size;
      window = b.window ∙ a.window;
      own_a = b.own_a ∙ a.own_a;
      own_b = b.own_b ∙ a.own_b;
      requests = b.requests ∙ a.requests;
      read = omega (arith, a.read, b.read);
      more = a.more ++ b.more;
      taken = b.taken ∙ ap (λ (l : List Message). l ++ b.more) a.taken ∙ append_assoc (served_by_b old) a.more b.more;
    }

on_same : (old new : State) → SameBut old new → Onward old new
on_same old new h =
    record {
      seg_size = h.seg_size;
      window = h.window;
      own_a = h.own_a;
      own_b = h.own_b;
      requests = h.requests;
      read = omega (arith, h.read);
      more = [];
      taken = ap (λ (n : ℕ). take n (sent_by new.a)) h.served ∙ ap (λ (l : List NspMessage). take old.served (messages_in l)) (h.handed A) ∙ sym (append-nil (served_by_b old));
    }

on_post : (old new : State) (end : End) (answer : Step) → IsWorld old → Steps old (event.Post end) answer new → Onward old new
unfolding Steps
on_post old new A answer h step =
    on_is old _ new step.3
    (record {
      seg_size = refl;
      window = refl;
      own_a = refl;
      own_b = refl;
      requests = refl;
      read = omega arith;
      more = [];
      taken = served-stays old.served old.seg_size old.b.taken old.a.handed old.a.waiting h.served ∙ sym (append-nil (served_by_b old));
    })
on_post old new B answer h step =
    on_is old _ new step.3
    (record { seg_size = refl; window = refl; own_a = refl; own_b = refl; requests = refl; read = omega arith; more = []; taken = sym (append-nil (served_by_b old)) })

on_resend : (old new : State) (end : End) (i : ℕ) (answer : Step) → Steps old (event.Resend end i) answer new → Onward old new
unfolding Steps
on_resend old new end i answer step = on_same old new (same_wrote old new end _ _ step.2)

on_serve : (old new : State) (answer : Step) → Steps old event.Serve answer new → Onward old new
unfolding Steps
on_serve old new answer step =
    on_is old _ new step.4
    (record { seg_size = refl; window = refl; own_a = refl; own_b = refl; requests = refl; read = omega arith; more = step.0 ∷ []; taken = taken-more old step.0 step.2 })

on_read : (old new : State) (answer : Step) → Steps old event.Read answer new → Onward old new
unfolding Steps
on_read old new answer step =
    on_is old _ new step.3
    (record { seg_size = refl; window = refl; own_a = refl; own_b = refl; requests = refl; read = omega arith; more = []; taken = sym (append-nil (served_by_b old)) })

on_step : (old new : State) (e : Event) (events : List Event) (answer : Step) → AsksNothing (e ∷ events) → IsWorld old → Steps old e answer new → Onward old new × AsksNothing events
on_step old new (event.Ask r) events answer quiet h step = absurd quiet
on_step old new (event.Post end) events answer quiet h step = (on_post old new end answer h step, quiet)
on_step old new (event.Emit end) events answer quiet h step = (on_same old new (same_emit old new end answer step), quiet)
on_step old new (event.Resend end i) events answer quiet h step = (on_resend old new end i answer step, quiet)
on_step old new (event.Ack end) events answer quiet h step = (on_same old new (same_ack old new end answer step), quiet)
on_step old new (event.Deliver end j) events answer quiet h step = (on_same old new (same_deliver old new end j answer h step), quiet)
on_step old new event.Serve events answer quiet h step = (on_serve old new answer step, quiet)
on_step old new event.Read events answer quiet h step = (on_read old new answer step, quiet)

onward : (old new : State) (events : List Event) → IsWorld old → AsksNothing events → Runs old events new → Onward old new × IsWorld new
onward old new [] h quiet run = (on_is old old new run (on_none old), subst IsWorld (sym run) h)
onward old new (e ∷ events) h quiet run =
    let first = on_step old run.0 e events run.1 quiet h run.2 in
    let rest = onward run.0 new events (kept-step old run.0 e run.1 run.2 h) first.1 run.3 in
    (on_both old run.0 new first.0 rest.0, rest.1)

pub ran_on : (old new : State) (n : ℕ) → IsWorld old → RanBy old new n → Onward old new
ran_on old new n h r = (onward old new r.events h (asks_nothing old new r.events r.ran r.quiet) r.ran).0

pub ran_world : (old new : State) (n : ℕ) → IsWorld old → RanBy old new n → IsWorld new
ran_world old new n h r = (onward old new r.events h (asks_nothing old new r.events r.ran r.quiet) r.ran).1

-- no event changes nothing
pub ran_still : (old new : State) (n : ℕ) → RanBy old new n → n ≡ 0 → new ≡ old
ran_still old new n r none = nothing r.events r.ran (r.count ∙ none)
  where
    nothing : (events : List Event) → Runs old events new → length events ≡ 0 → new ≡ old
    nothing [] run e = run
    nothing (e ∷ events) run e' = absurd (omega (arith, e'))

-- ---- What is reported.

-- the answers that were read stay the first
pub answers_stay : (old new : State) → IsWorld old → Onward old new → (k : ℕ) → k ≤ old.read → take k (Answers new.own_b [] (map Whole (served_by_b new))) ≡ take k (Answers old.own_b [] (map Whole (served_by_b old)))
answers_stay old new h on k le =
    let items = map Whole (served_by_b old) in
    let front = answers-prefix old.own_b items (map Whole on.more) in
    let all : Answers new.own_b [] (map Whole (served_by_b new)) ≡ Answers old.own_b [] items ++ front.0 =
    ap (λ (n : ℕ). Answers n [] (map Whole (served_by_b new))) on.own_b
    ∙ ap (Answers old.own_b []) (ap (map Whole) on.taken ∙ map-append Whole (served_by_b old) on.more) ∙ sym front.1 in
    let there = (headline_of old h).answers_there in
    ap (take k) all ∙ take-append-le k (Answers old.own_b [] items) front.0 (omega (arith, there, le))

-- where no answer was read, nothing is reported
pub told_same : (old new : State) (n : ℕ) → IsWorld old → RanBy old new n → new.read ≡ old.read → reports_by_a new ≡ reports_by_a old
unfolding reports_by_a
told_same old new n h ran read =
    let on = ran_on old new n h ran in
    ap (λ (r : List Request). Told r (answers_read new)) on.requests
    ∙ ap (λ (l : List Message). Told old.requests (map Whole l))
    (ap (λ (k : ℕ). take k (Answers new.own_b [] (map Whole (served_by_b new)))) read ∙ answers_stay old new h on old.read (omega arith))

pub ran_none_is : (old new : State) → new ≡ old → RanTo old new
ran_none_is old new is = (0, subst (λ (s : State). RanBy old s 0) (sym is) (ran_none old))
