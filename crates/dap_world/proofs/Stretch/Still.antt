-- Where no work is done and nothing is passed on or asked, nothing moves but what the links' own events move.
use Rattle.std.proofs.Common.{◌≡◌, ℕ, ◌+◌, ◌≤◌, arith, refl, sym, ◌∙◌, subst, ap, List, [], ◌∷◌, length}
use Rattle.std.proofs.lemmas.List.{length-append}
use Rattle.dap_events.specs.declared.event.End.{End}
use Rattle.dap_events.specs.declared.event.End.TheVariants.{A, B}
use Rattle.dap_events.specs.declared.event.Event.{Event}
use Rattle.dap_events.specs.declared.event.Event.TheVariants as event
use Rattle.dap_events.specs.declared.event.Step.{Step}
use Rattle.dap_world.specs.Machine.{State, EndState, end_of, with_end, Steps}
use Rattle.dap_world.specs.Runs.{Runs}
use Rattle.dap_world.specs.Settling.{RanBy, work}
use Rattle.dap_world.specs.Inner.Settling.{SendsNothing, moved}

-- what the other events add to
abbrev weight : State → ℕ
weight s = length s.requests + work s + (length s.a.handed + length s.b.handed)

heavier : (old new : State) (e : Event) (answer : Step) → Steps old e answer new → weight old ≤ weight new
unfolding Steps
heavier old new (event.Ask r) answer step = omega (arith, ap weight step.2, length-append old.requests (r ∷ []))
heavier old new (event.Post A) answer step = omega (arith, ap weight step.3, length-append old.a.handed old.a.waiting)
heavier old new (event.Post B) answer step = omega (arith, ap weight step.3, length-append old.b.handed old.b.waiting)
heavier old new (event.Emit A) answer step = omega (arith, ap weight step.2)
heavier old new (event.Emit B) answer step = omega (arith, ap weight step.2)
heavier old new (event.Resend A i) answer step = omega (arith, ap weight step.2)
heavier old new (event.Resend B i) answer step = omega (arith, ap weight step.2)
heavier old new (event.Ack A) answer step = omega (arith, ap weight step.1)
heavier old new (event.Ack B) answer step = omega (arith, ap weight step.1)
heavier old new (event.Deliver A j) answer step = omega (arith, ap weight step.3)
heavier old new (event.Deliver B j) answer step = omega (arith, ap weight step.3)
heavier old new event.Serve answer step = omega (arith, ap weight step.4)
heavier old new event.Read answer step = omega (arith, ap weight step.3)

all_heavier : (old new : State) (events : List Event) → Runs old events new → weight old ≤ weight new
all_heavier old new [] run = omega (arith, ap weight run)
all_heavier old new (e ∷ events) run = omega (arith, heavier old run.0 e run.1 run.2, all_heavier run.0 new events run.3)

then_still : (old mid new : State) → SendsNothing old mid → SendsNothing mid new → SendsNothing old new
then_still old mid new one two = two ∙ ap (λ (s : State). record s { a = moved s.a new.a; b = moved s.b new.b }) one

-- an end moved so
moves : (old new : State) (end : End) (e : EndState) → new ≡ with_end old end e → e ≡ moved (end_of old end) e → SendsNothing old new
moves old new A e is so = subst (SendsNothing old) (sym is) (ap (λ (x : EndState). record old { a = x }) so)
moves old new B e is so = subst (SendsNothing old) (sym is) (ap (λ (x : EndState). record old { b = x }) so)

resent : (old new : State) (end : End) (i : ℕ) (answer : Step) → Steps old (event.Resend end i) answer new → SendsNothing old new
unfolding Steps
resent old new end i answer step = moves old new end _ step.2 refl

acked : (old new : State) (end : End) (answer : Step) → Steps old (event.Ack end) answer new → SendsNothing old new
unfolding Steps
acked old new end answer step = moves old new end _ step.1 refl

came : (old new : State) (end : End) (j : ℕ) (answer : Step) → Steps old (event.Deliver end j) answer new → SendsNothing old new
unfolding Steps
came old new end j answer step = moves old new end _ step.3 refl

still : (old new : State) (events : List Event) → Runs old events new → weight new ≤ weight old → SendsNothing old new
unfolding Steps
still old new [] run le = subst (SendsNothing old) (sym run) refl
still old new (event.Ask r ∷ events) run le = absurd (omega (arith, le, all_heavier run.0 new events run.3, ap weight run.2.2, length-append old.requests (r ∷ [])))
still old new (event.Post A ∷ events) run le = absurd (omega (arith, le, all_heavier run.0 new events run.3, ap weight run.2.3, run.2.0, length-append old.a.handed old.a.waiting))
still old new (event.Post B ∷ events) run le = absurd (omega (arith, le, all_heavier run.0 new events run.3, ap weight run.2.3, run.2.0, length-append old.b.handed old.b.waiting))
still old new (event.Emit A ∷ events) run le = absurd (omega (arith, le, all_heavier run.0 new events run.3, ap weight run.2.2))
still old new (event.Emit B ∷ events) run le = absurd (omega (arith, le, all_heavier run.0 new events run.3, ap weight run.2.2))
still old new (event.Resend end i ∷ events) run le =
    then_still old run.0 new (resent old run.0 end i run.1 run.2) (still run.0 new events run.3 (omega (arith, le, heavier old run.0 (event.Resend end i) run.1 run.2)))
still old new (event.Ack end ∷ events) run le = then_still old run.0 new (acked old run.0 end run.1 run.2) (still run.0 new events run.3 (omega (arith, le, heavier old run.0 (event.Ack end) run.1 run.2)))
still old new (event.Deliver end j ∷ events) run le =
    then_still old run.0 new (came old run.0 end j run.1 run.2) (still run.0 new events run.3 (omega (arith, le, heavier old run.0 (event.Deliver end j) run.1 run.2)))
still old new (event.Serve ∷ events) run le = absurd (omega (arith, le, all_heavier run.0 new events run.3, ap weight run.2.4))
still old new (event.Read ∷ events) run le = absurd (omega (arith, le, all_heavier run.0 new events run.3, ap weight run.2.3))

-- what `settle` promises besides that it ran: so no segment more was sent
pub sends_nothing : (old new : State) (n : ℕ) → RanBy old new n → work new ≡ work old → ((end : End) → (end_of new end).handed ≡ (end_of old end).handed) → SendsNothing old new
sends_nothing old new n ran same handed = still old new ran.events ran.ran (omega (arith, ap length ran.quiet, same, ap length (handed A), ap length (handed B)))
