use Rattle.std.proofs.Common.{◌≡◌, ◌<◌, ◌-◌, ℕ, List, [], ◌∷◌, length, Bool, true, false, arith, refl, inl, inr}
use Rattle.std.specs.Prelude.{Option, Some, None}
use Rattle.std.proofs.lemmas.Bool.{cases_lt}
use Rattle.dap_accessing.specs.declared.fault.AskFault.TheVariants as ask_fault
use Rattle.dap_events.specs.declared.event.Event.{Event}
use Rattle.dap_events.specs.declared.event.Event.TheVariants as event
use Rattle.dap_events.specs.declared.event.Step.{Step}
use Rattle.dap_events.specs.declared.event.WorldFault.{WorldFault}
use Rattle.dap_events.specs.declared.event.WorldFault.TheVariants as fault
use Rattle.nsp_link.specs.Limits.{max_segments}
use Rattle.dap_world.specs.Machine.{State, Steps, RefusesEvent, end_of, other_end, end_after_post, is_stale, next_to_read, next_to_serve, segments_of}
use Rattle.dap_world.proofs.Steps.Deciding.{no_step, one_outcome, one_reason, one_step}
use Rattle.dap_world.proofs.laws.events_are_decided.Goals as goal

none_or_some : {A : Type 0} (o : Option A) → (o ≡ None → ⊥) → ((a : A) → o ≡ Some a → ⊥) → ⊥
none_or_some None none some = none refl
none_or_some (Some a) none some = some a refl

empty_or_not : {A : Type 0} (l : List A) → (l ≡ [] → ⊥) → (0 < length l → ⊥) → ⊥
empty_or_not [] empty more = empty refl
empty_or_not (a ∷ l) empty more = more (omega arith)

true_or_false : (b : Bool) → (b ≡ true → ⊥) → (b ≡ false → ⊥) → ⊥
true_or_false true when unless = when refl
true_or_false false when unless = unless refl

-- an event doesn't lack both a step and a reason
comes_to_something : (s : State) (e : Event) → ((a : Step) (n : State) → Steps s e a n → ⊥) → ((f : WorldFault) → RefusesEvent s e f → ⊥) → ⊥
unfolding Steps RefusesEvent
comes_to_something s (event.Ask r) stays unreasoned =
    unreasoned (fault.Ask ask_fault.Busy) (λ idle.
    unreasoned (fault.Ask ask_fault.WrongPhase) (
      idle,
      λ in_phase.
          unreasoned (fault.Ask ask_fault.TooLarge) (idle, in_phase, λ sendable. stays _ _ ((idle, in_phase, sendable), refl, refl)),
    ))
comes_to_something s (event.Post end) stays unreasoned =
    empty_or_not (end_of s end).waiting (unreasoned fault.NothingToDo) (λ some.
    elim (cases_lt max_segments (segments_of s.seg_size (end_after_post (end_of s end)).handed)) [
      | inl many ↦ unreasoned fault.Exhausted (some, many)
      | inr few ↦ stays _ _ (some, few, refl, refl)
    ])
comes_to_something s (event.Emit end) stays unreasoned = unreasoned fault.NothingToDo (λ may. stays _ _ (may, refl, refl))
comes_to_something s (event.Resend end i) stays unreasoned =
    elim (cases_lt i ((end_of s end).sent - (end_of s end).acked)) [
      | inl below ↦ stays _ _ (below, refl, refl)
      | inr over ↦ unreasoned fault.NothingToDo over
    ]
comes_to_something s (event.Ack end) stays unreasoned = stays _ _ (refl, refl)
comes_to_something s (event.Deliver end j) stays unreasoned =
    none_or_some _ (unreasoned fault.NoSuchPacket) (λ p is.
    true_or_false (is_stale (end_of s end) p) (λ stale. unreasoned fault.Stale (p, is, stale)) (λ fresh. stays _ _ (p, (is, fresh), refl, refl)))
comes_to_something s event.Serve stays unreasoned =
    empty_or_not s.b.waiting (λ empty.
    none_or_some (next_to_serve s) (λ none. unreasoned fault.NothingToDo (inr none)) (λ m is. stays _ _ (m, empty, is, refl, refl)))
    (λ some. unreasoned fault.NothingToDo (inl some))
comes_to_something s event.Read stays unreasoned =
    none_or_some (next_to_read s) (unreasoned fault.NothingToDo) (λ m is. stays _ _ (m, is, refl, refl))

pub returns-clause-some : goal.returns-clause-some
returns-clause-some c = comes_to_something

pub returns-clause-apart : goal.returns-clause-apart
returns-clause-apart c = λ s e f a n why step. no_step s e f why (a, n, step)

pub returns-clause-one : goal.returns-clause-one
returns-clause-one c = one_reason

pub returns-clause-step : goal.returns-clause-step
returns-clause-step c = one_step

pub returns-clause-outcome : goal.returns-clause-outcome
returns-clause-outcome c = one_outcome
