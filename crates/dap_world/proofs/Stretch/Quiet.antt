-- Whether events ask is seen by the requests.
use Rattle.std.proofs.Common.{◌≡◌, ◌+◌, ◌≤◌, arith, refl, ◌∙◌, ap, List, [], ◌∷◌, length}
use Rattle.std.proofs.lemmas.List.{length-append}
use Rattle.dap_accessing.specs.Request.{Request}
use Rattle.dap_events.specs.declared.event.End.{End}
use Rattle.dap_events.specs.declared.event.End.TheVariants.{A, B}
use Rattle.dap_events.specs.declared.event.Event.{Event}
use Rattle.dap_events.specs.declared.event.Event.TheVariants as event
use Rattle.dap_events.specs.declared.event.Step.{Step}
use Rattle.dap_world.specs.Machine.{State, EndState, with_end, Steps}
use Rattle.dap_world.specs.Runs.{Runs}
use Rattle.dap_world.specs.Inner.Settling.{AsksNothing}

with_requests : (s : State) (end : End) (e : EndState) → (with_end s end e).requests ≡ s.requests
with_requests s A e = refl
with_requests s B e = refl

-- an event that doesn't ask leaves the requests alone
pub none_asked : (old new : State) (e : Event) (answer : Step) → AsksNothing (e ∷ []) → Steps old e answer new → new.requests ≡ old.requests
unfolding Steps
none_asked old new (event.Ask r) answer quiet step = absurd quiet
none_asked old new (event.Post end) answer quiet step = ap (λ (s : State). s.requests) step.3 ∙ with_requests old end _
none_asked old new (event.Emit end) answer quiet step = ap (λ (s : State). s.requests) step.2 ∙ with_requests old end _
none_asked old new (event.Resend end i) answer quiet step = ap (λ (s : State). s.requests) step.2 ∙ with_requests old end _
none_asked old new (event.Ack end) answer quiet step = ap (λ (s : State). s.requests) step.1 ∙ with_requests old end _
none_asked old new (event.Deliver end j) answer quiet step = ap (λ (s : State). s.requests) step.3 ∙ with_requests old end _
none_asked old new event.Serve answer quiet step = ap (λ (s : State). s.requests) step.4
none_asked old new event.Read answer quiet step = ap (λ (s : State). s.requests) step.3

-- one that asks adds one
one_asked : (old new : State) (r : Request) (answer : Step) → Steps old (event.Ask r) answer new → length new.requests ≡ length old.requests + 1
unfolding Steps
one_asked old new r answer step = ap (λ (s : State). length s.requests) step.2 ∙ length-append old.requests (r ∷ [])

kept : (old new : State) (e : Event) (answer : Step) → Steps old e answer new → length old.requests ≤ length new.requests
kept old new (event.Ask r) answer step = omega (arith, one_asked old new r answer step)
kept old new (event.Post end) answer step = omega (arith, ap length (none_asked old new (event.Post end) answer tt step))
kept old new (event.Emit end) answer step = omega (arith, ap length (none_asked old new (event.Emit end) answer tt step))
kept old new (event.Resend end i) answer step = omega (arith, ap length (none_asked old new (event.Resend end i) answer tt step))
kept old new (event.Ack end) answer step = omega (arith, ap length (none_asked old new (event.Ack end) answer tt step))
kept old new (event.Deliver end j) answer step = omega (arith, ap length (none_asked old new (event.Deliver end j) answer tt step))
kept old new event.Serve answer step = omega (arith, ap length (none_asked old new event.Serve answer tt step))
kept old new event.Read answer step = omega (arith, ap length (none_asked old new event.Read answer tt step))

all_kept : (old new : State) (events : List Event) → Runs old events new → length old.requests ≤ length new.requests
all_kept old new [] run = omega (arith, ap (λ (s : State). length s.requests) run)
all_kept old new (e ∷ events) run = omega (arith, kept old run.0 e run.1 run.2, all_kept run.0 new events run.3)

no_more : (old new : State) (events : List Event) → Runs old events new → length new.requests ≤ length old.requests → AsksNothing events
no_more old new [] run le = tt
no_more old new (event.Ask r ∷ events) run le = absurd (omega (arith, one_asked old run.0 r run.1 run.2, all_kept run.0 new events run.3, le))
no_more old new (event.Post end ∷ events) run le = no_more run.0 new events run.3 (omega (arith, le, kept old run.0 (event.Post end) run.1 run.2))
no_more old new (event.Emit end ∷ events) run le = no_more run.0 new events run.3 (omega (arith, le, kept old run.0 (event.Emit end) run.1 run.2))
no_more old new (event.Resend end i ∷ events) run le = no_more run.0 new events run.3 (omega (arith, le, kept old run.0 (event.Resend end i) run.1 run.2))
no_more old new (event.Ack end ∷ events) run le = no_more run.0 new events run.3 (omega (arith, le, kept old run.0 (event.Ack end) run.1 run.2))
no_more old new (event.Deliver end j ∷ events) run le = no_more run.0 new events run.3 (omega (arith, le, kept old run.0 (event.Deliver end j) run.1 run.2))
no_more old new (event.Serve ∷ events) run le = no_more run.0 new events run.3 (omega (arith, le, kept old run.0 event.Serve run.1 run.2))
no_more old new (event.Read ∷ events) run le = no_more run.0 new events run.3 (omega (arith, le, kept old run.0 event.Read run.1 run.2))

-- where the requests are the same, none of the events asks
pub asks_nothing : (old new : State) (events : List Event) → Runs old events new → new.requests ≡ old.requests → AsksNothing events
asks_nothing old new events run same = no_more old new events run (omega (arith, ap length same))
