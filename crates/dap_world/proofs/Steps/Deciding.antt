-- An event has a step, or one reason why it has none.
use Rattle.std.proofs.Common.{◌≡◌, ◌∙◌, arith, refl, sym, subst, ap, true, inl, inr, length}
use Rattle.std.specs.Prelude.{◌≢◌, Some, Result, Ok, Err}
use Rattle.dap_accessing.specs.declared.fault.AskFault.{AskFault}
use Rattle.dap_accessing.specs.declared.fault.AskFault.TheVariants as ask_fault
use Rattle.dap_accessing.specs.Request.{Request}
use Rattle.dap_events.specs.declared.event.Event.{Event}
use Rattle.dap_events.specs.declared.event.Event.TheVariants as event
use Rattle.dap_events.specs.declared.event.WorldFault.{WorldFault}
use Rattle.dap_events.specs.declared.event.WorldFault.TheVariants as fault
use Rattle.dap_msg.specs.declared.message.Message.{Message}
use Rattle.nsp_link.specs.Link.{got_of}
use Rattle.dap_events.specs.declared.event.Step.{Step}
use Rattle.dap_events.specs.declared.event.Step.TheVariants as step
use Rattle.dap_world.specs.Machine.{State, Sending, answering, end_after_delivery, end_of, with_end, served_one, is_stale, Steps, RefusesEvent}
use Rattle.dap_world.specs.Runs.{ComesTo}

-- the event has a step
abbrev pub MayHappen : State → Event → Type 0
MayHappen s e = (answer : Step) × (new : State) × Steps s e answer new

same_sending : (s : State) (p q : Sending) (x : _) → x ≡ Some p → x ≡ Some q → p ≡ q
same_sending s p q x e f = cc

same_message : (p q : Message) (x : _) → x ≡ Some p → x ≡ Some q → p ≡ q
same_message p q x e f = cc

refused_ask : (s : State) (r : Request) (f : AskFault) → RefusesEvent s (event.Ask r) (fault.Ask f) → MayHappen s (event.Ask r) → ⊥
unfolding Steps RefusesEvent
refused_ask s r ask_fault.Busy why may = why may.2.0.0
refused_ask s r ask_fault.WrongPhase why may = why.1 may.2.0.1
refused_ask s r ask_fault.TooLarge why may = why.2 may.2.0.2
refused_ask s r ask_fault.NoMemory why may = why
refused_ask s r ask_fault.Failed why may = why

-- a reason excludes a step
pub no_step : (s : State) (e : Event) (f : WorldFault) → RefusesEvent s e f → MayHappen s e → ⊥
unfolding Steps RefusesEvent
no_step s (event.Ask r) (fault.Ask f) why may = refused_ask s r f why may
no_step s (event.Post end) fault.NothingToDo why may = let some = may.2.0 in let none : length (end_of s end).waiting ≡ 0 = ap length why in omega (arith, some, none)
no_step s (event.Post end) fault.Exhausted why may = omega (arith, why.1, may.2.1)
no_step s (event.Emit end) fault.NothingToDo why may = why may.2.0
no_step s (event.Resend end i) fault.NothingToDo why may = omega (arith, why, may.2.0)
no_step s (event.Deliver end j) fault.NoSuchPacket why may = let there = may.2.1.0 in let missing : ⊥ = cc in missing
no_step s (event.Deliver end j) fault.Stale why may =
    let same : why.0 ≡ may.2.0 = same_sending s why.0 may.2.0 _ why.1 may.2.1.0 in
    let stale : is_stale (end_of s end) may.2.0 ≡ true = subst (λ (p : Sending). is_stale (end_of s end) p ≡ true) same why.2 in
    let young = may.2.1.1 in let missing : ⊥ = cc in missing
no_step s event.Serve fault.NothingToDo why may =
    let empty = may.2.1 in let there = may.2.2 in
    elim why [ inl some ↦ omega (arith, some, ap length empty) | inr none ↦ let missing : ⊥ = cc in missing ]
no_step s event.Read fault.NothingToDo why may = let there = may.2.1 in let missing : ⊥ = cc in missing
no_step s e f why may = why

-- there is one step
pub one_step : (s : State) (e : Event) (a b : Step) (m n : State) → Steps s e a m → Steps s e b n → (a ≡ b) × (m ≡ n)
unfolding Steps
one_step s (event.Ask r) a b m n one two = (one.1 ∙ sym two.1, one.2 ∙ sym two.2)
one_step s (event.Post end) a b m n one two = (one.2 ∙ sym two.2, one.3 ∙ sym two.3)
one_step s (event.Emit end) a b m n one two = (one.1 ∙ sym two.1, one.2 ∙ sym two.2)
one_step s (event.Resend end i) a b m n one two = (one.1 ∙ sym two.1, one.2 ∙ sym two.2)
one_step s (event.Ack end) a b m n one two = (one.0 ∙ sym two.0, one.1 ∙ sym two.1)
one_step s (event.Deliver end j) a b m n one two =
    let same : one.0 ≡ two.0 = same_sending s one.0 two.0 _ one.1.0 two.1.0 in (
      one.2 ∙ ap (λ (p : Sending). step.Delivered (got_of (end_of s end).taken p.segment)) same ∙ sym two.2,
      one.3 ∙ ap (λ (p : Sending). with_end s end (end_after_delivery true (end_of s end) p)) same ∙ sym two.3,
    )
one_step s event.Serve a b m n one two =
    let same : one.0 ≡ two.0 = same_message one.0 two.0 _ one.2 two.2 in
    (one.3 ∙ ap (λ (x : Message). step.Served (length (answering s x))) same ∙ sym two.3, one.4 ∙ ap (λ (x : Message). served_one s x) same ∙ sym two.4)
one_step s event.Read a b m n one two = (one.2 ∙ sym two.2, one.3 ∙ sym two.3)

refused_once : (s : State) (r : Request) (f g : AskFault) → RefusesEvent s (event.Ask r) (fault.Ask f) → RefusesEvent s (event.Ask r) (fault.Ask g) → f ≡ g
unfolding RefusesEvent
refused_once s r ask_fault.Busy ask_fault.Busy one two = refl
refused_once s r ask_fault.Busy ask_fault.WrongPhase one two = absurd (one two.0)
refused_once s r ask_fault.Busy ask_fault.TooLarge one two = absurd (one two.0)
refused_once s r ask_fault.WrongPhase ask_fault.Busy one two = absurd (two one.0)
refused_once s r ask_fault.WrongPhase ask_fault.WrongPhase one two = refl
refused_once s r ask_fault.WrongPhase ask_fault.TooLarge one two = absurd (one.1 two.1)
refused_once s r ask_fault.TooLarge ask_fault.Busy one two = absurd (two one.0)
refused_once s r ask_fault.TooLarge ask_fault.WrongPhase one two = absurd (two.1 one.1)
refused_once s r ask_fault.TooLarge ask_fault.TooLarge one two = refl
refused_once s r ask_fault.NoMemory g one two = absurd one
refused_once s r ask_fault.Failed g one two = absurd one
refused_once s r f ask_fault.NoMemory one two = absurd two
refused_once s r f ask_fault.Failed one two = absurd two

-- there is one reason
pub one_reason : (s : State) (e : Event) (f g : WorldFault) → RefusesEvent s e f → RefusesEvent s e g → f ≡ g
unfolding RefusesEvent
one_reason s (event.Ask r) (fault.Ask f) (fault.Ask g) one two = ap (λ (h : AskFault). fault.Ask h) (refused_once s r f g one two)
one_reason s (event.Post end) fault.NothingToDo fault.NothingToDo one two = refl
one_reason s (event.Post end) fault.Exhausted fault.Exhausted one two = refl
one_reason s (event.Post end) fault.NothingToDo fault.Exhausted one two = absurd (omega (arith, two.0, ap length one))
one_reason s (event.Post end) fault.Exhausted fault.NothingToDo one two = absurd (omega (arith, one.0, ap length two))
one_reason s (event.Emit end) fault.NothingToDo fault.NothingToDo one two = refl
one_reason s (event.Resend end i) fault.NothingToDo fault.NothingToDo one two = refl
one_reason s (event.Deliver end j) fault.NoSuchPacket fault.NoSuchPacket one two = refl
one_reason s (event.Deliver end j) fault.Stale fault.Stale one two = refl
one_reason s (event.Deliver end j) fault.NoSuchPacket fault.Stale one two = let there = two.1 in absurd cc
one_reason s (event.Deliver end j) fault.Stale fault.NoSuchPacket one two = let there = one.1 in absurd cc
one_reason s event.Serve fault.NothingToDo fault.NothingToDo one two = refl
one_reason s event.Read fault.NothingToDo fault.NothingToDo one two = refl
one_reason s (event.Ask r) (fault.Ask f) g one two = absurd two
one_reason s (event.Post end) fault.NothingToDo g one two = absurd two
one_reason s (event.Post end) fault.Exhausted g one two = absurd two
one_reason s (event.Emit end) fault.NothingToDo g one two = absurd two
one_reason s (event.Resend end i) fault.NothingToDo g one two = absurd two
one_reason s (event.Deliver end j) fault.NoSuchPacket g one two = absurd two
one_reason s (event.Deliver end j) fault.Stale g one two = absurd two
one_reason s event.Serve fault.NothingToDo g one two = absurd two
one_reason s event.Read fault.NothingToDo g one two = absurd two
one_reason s e f g one two = absurd one

-- ---- Outcomes, out of memory aside.

reason_of : (s n : State) (e : Event) (f : WorldFault) → f ≢ fault.NoMemory → ComesTo s e (Err f) n → RefusesEvent s e f × (n ≡ s)
reason_of s n e fault.NoMemory other w = absurd (other refl)
reason_of s n e fault.NoSuchPacket other w = w
reason_of s n e fault.Stale other w = w
reason_of s n e fault.NothingToDo other w = w
reason_of s n e (fault.Ask f) other w = w
reason_of s n e fault.Exhausted other w = w
reason_of s n e fault.BadSetup other w = w

abbrev stepped : Step → Result Step WorldFault
stepped a = Ok a

abbrev failed : WorldFault → Result Step WorldFault
failed f = Err f

-- two outcomes of one event in one state are the same
pub one_outcome : (s : State) (e : Event) (r t : Result Step WorldFault) (m n : State) → r ≢ Err fault.NoMemory → t ≢ Err fault.NoMemory → ComesTo s e r m → ComesTo s e t n → (r ≡ t) × (m ≡ n)
one_outcome s e (Ok a) (Ok b) m n nr nt x y = let same = one_step s e a b m n x y in (ap stepped same.0, same.1)
one_outcome s e (Ok a) (Err g) m n nr nt x y = absurd (no_step s e g (reason_of s n e g (λ k. nt (ap failed k)) y).0 (a, m, x))
one_outcome s e (Err f) (Ok b) m n nr nt x y = absurd (no_step s e f (reason_of s m e f (λ k. nr (ap failed k)) x).0 (b, n, y))
one_outcome s e (Err f) (Err g) m n nr nt x y =
    let one = reason_of s m e f (λ k. nr (ap failed k)) x in
    let two = reason_of s n e g (λ k. nt (ap failed k)) y in
    (ap failed (one_reason s e f g one.0 two.0), one.1 ∙ sym two.1)
