-- Whether the Post that is due would make too many segments.
use Rattle.std.proofs.Common.{◌≡◌, ◌<◌, arith, refl, sym, ◌∙◌, subst, ap, List, [], length, map, take, drop}
use Rattle.std.specs.Prelude.{Err}
use Rattle.std.proofs.Math.Seq.{drop-nil, take-nil}
use Rattle.dap_msg.specs.declared.message.Message.{Message}
use Rattle.dap_msg.specs.declared.items.Item.TheVariants.{Whole}
use Rattle.dap_world.specs.Plain.{Asked}
use Rattle.dap_accessing.specs.Request.{Request}
use Rattle.dap_events.specs.declared.event.End.{End}
use Rattle.dap_events.specs.declared.event.End.TheVariants.{A, B}
use Rattle.dap_events.specs.declared.event.Event.TheVariants as event
use Rattle.dap_events.specs.declared.event.WorldFault.{WorldFault}
use Rattle.dap_events.specs.declared.event.WorldFault.TheVariants as fault
use Rattle.dap_world.specs.Machine.{State, MayEmit, end_of, Steps, RefusesEvent}
use Rattle.dap_world.specs.Runs.{ComesTo}
use Rattle.dap_world.specs.Inner.Parts.{Parts, answer_packets, asked_packets, state_of}
use Rattle.dap_world.specs.Settling.{FinishFault, IsEmpty, IsExhausted, IsPostDue, unacked_count}
use Rattle.dap_world.specs.Inner.Settling.{AreEmpty, IsQuiet, ReadPart}
use Rattle.dap_world.proofs.Steps.Deciding.{MayHappen, no_step}

pub memory : (s : State) (f : WorldFault) → f ≡ fault.NoMemory → (IsExhausted s → ⊥) → FinishFault s f
memory s f is none = subst (FinishFault s) (sym is) none

-- none is, where nothing waits
pub quiet_enough : (s : State) → IsQuiet s → IsExhausted s → ⊥
unfolding RefusesEvent
quiet_enough s quiet (end, due, why) = omega (arith, why.0, ap length (quiet end))

pub quiet_empty : (s : State) → AreEmpty s → IsQuiet s
quiet_empty s empty A = empty.0.waiting
quiet_empty s empty B = empty.1.waiting

-- none is, where something isn't acknowledged
pub unsettled : (s : State) (end : End) → 0 < unacked_count s end → IsExhausted s → ⊥
unsettled s A some (A, due, why) = omega (arith, some, due.0)
unsettled s A some (B, due, why) = omega (arith, some, due.0.acked)
unsettled s B some (A, due, why) = omega (arith, some, due.1)
unsettled s B some (B, due, why) = omega (arith, some, due.1)

-- nothing waits at an end, nor at A where it is B's turn
abbrev pub IsHandedOver : State → End → Type 0
IsHandedOver s A = (end_of s A).waiting ≡ []
IsHandedOver s B = IsQuiet s

-- none is, where an end that has passed on all has something left
pub left_over : (s : State) (end : End) → (IsEmpty s end → ⊥) → IsHandedOver s end → IsExhausted s → ⊥
unfolding RefusesEvent
left_over s A left over (A, due, why) = omega (arith, why.0, ap length over)
left_over s A left over (B, due, why) = left due.0
left_over s B left over why = quiet_enough s over why

pub due_settled : (s : State) (end : End) → IsPostDue s end → unacked_count s end ≡ 0
due_settled s A due = due.0
due_settled s B due = due.1

-- why the Post that is due is refused
may_post : (s : State) (end : End) → IsPostDue s end → MayHappen s (event.Post end) → IsExhausted s → ⊥
unfolding Steps RefusesEvent
may_post s A due may (A, due', why) = no_step s (event.Post A) fault.Exhausted why may
may_post s A due may (B, due', why) = let some = may.2.0 in omega (arith, some, ap length due'.0.waiting)
may_post s B due may (A, due', why) = omega (arith, why.0, ap length due.0.waiting)
may_post s B due may (B, due', why) = no_step s (event.Post B) fault.Exhausted why may

pub post_fault : (old new : State) (end : End) (f : WorldFault) → (f ≡ fault.NothingToDo → ⊥) → IsPostDue old end → ComesTo old (event.Post end) (Err f) new → FinishFault new f
unfolding RefusesEvent
post_fault old new end fault.NoMemory some due went = subst (λ (s : State). IsExhausted s → ⊥) (sym went.1) (may_post old end due (went.0.0, went.0.1, went.0.2))
post_fault old new end fault.Exhausted some due went = subst IsExhausted (sym went.1) (end, due, went.0)
post_fault old new end fault.NothingToDo some due went = absurd (some refl)
post_fault old new end fault.NoSuchPacket some due went = absurd went.0
post_fault old new end fault.Stale some due went = absurd went.0
post_fault old new end (fault.Ask f) some due went = absurd went.0
post_fault old new end fault.BadSetup some due went = absurd went.0

-- an end that may send has something left
pub may_left : (s : State) (end : End) → MayEmit s end → IsEmpty s end → ⊥
may_left s end may empty = omega (arith, may.0, empty.sent)

-- nothing waits before the first request
pub quiet_parts : (p : Parts) → (state_of p).requests ≡ [] → IsQuiet (state_of p)
quiet_parts p none A = ap (λ (r : List Request). drop p.a.posted (asked_packets p.accessing.own p.accessed.own r)) none ∙ drop-nil p.a.posted
quiet_parts p none B =
    ap (λ (r : List Request). drop p.b.posted (answer_packets p.accessed.own [] (map Whole (take p.served (Asked p.accessing.own r))))) none
    ∙ ap (λ (l : List Message). drop p.b.posted (answer_packets p.accessed.own [] (map Whole l))) (take-nil p.served) ∙ drop-nil p.b.posted

-- nothing waits after reading
pub quiet_read : (old new : State) → ReadPart old new → AreEmpty old → IsQuiet new
quiet_read old new part empty A = ap (λ (s : State). s.a.waiting) part.read ∙ empty.0.waiting
quiet_read old new part empty B = ap (λ (s : State). s.b.waiting) part.read ∙ empty.1.waiting
