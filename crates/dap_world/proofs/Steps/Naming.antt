-- What the answer of an event names is there.
use Rattle.std.proofs.Common.{◌≡◌, ℕ, zero, suc, take, map, ◌+◌, ◌≤◌, ◌<◌, arith, refl, sym, ◌∙◌, subst, ap, true, false, List, [], ◌∷◌, ◌++◌, length}
use Rattle.std.specs.Prelude.{Option, Some, None, IfOk, Result, Ok, Err, if◌then◌else◌, ◌==◌}
use Rattle.std.proofs.lemmas.List.{length-append, map-append}
use Rattle.dap_msg.specs.declared.items.Item.TheVariants.{Whole}
use Rattle.dap_world.specs.Plain.{Answers as Answered}
use Rattle.dap_accessing.specs.Told.{Told}
use Rattle.dap_accessing.proofs.ForCallers.{reports_grow}
use Rattle.dap_events.specs.declared.event.End.{End}
use Rattle.dap_events.specs.declared.event.Event.{Event}
use Rattle.dap_events.specs.declared.event.Event.TheVariants as event
use Rattle.dap_events.specs.declared.event.Step.{Step}
use Rattle.dap_events.specs.declared.event.Step.TheVariants as step
use Rattle.dap_events.specs.declared.event.WorldFault.{WorldFault}
use Rattle.dap_world.specs.Machine.{State, EndState, end_of, with_end, wrote, served_by_b, answers_read, reports_by_a, with_read, told_by, Steps}
use Rattle.dap_world.specs.Runs.{ComesTo, writing_end}
use Rattle.dap_world.specs.Naming.{NamedIsThere}
use Rattle.dap_world.proofs.Headline.Kept.{now_at}

-- one packet more was written
wire_grew : (s new : State) (end : End) (sent : ℕ) (k : Option ℕ) → new ≡ with_end s end (wrote (end_of s end) sent k) → length (end_of s end).wire < length (end_of new end).wire
wire_grew s new end sent k e =
    let wire = (end_of s end).wire in omega (arith, ap (λ (x : EndState). length x.wire) (now_at s new end _ e), length-append wire (record { segment = k; acks = (end_of s end).taken } ∷ []))

packet_there : (e : Event) (s new : State) (end : End) (sent : ℕ) (k : Option ℕ) (answer : Step) → writing_end e ≡ Some end → answer ≡ step.Packet (length (end_of s end).wire) → new ≡ with_end s end (wrote (end_of s end) sent k) → NamedIsThere e answer new
packet_there e s new end sent k answer by is went = subst (λ (a : Step). NamedIsThere e a new) (sym is) (end, by, wire_grew s new end sent k went)

-- a report came of it only where there is one more
report_there : (s new : State) (answer : Step) → answer ≡ told_by s (with_read s) → new ≡ with_read s → length (reports_by_a s) ≤ length (reports_by_a (with_read s)) → NamedIsThere event.Read answer new
report_there s new answer is went grew =
    subst (λ (a : Step). NamedIsThere event.Read a new) (sym is)
    (subst (λ (t : State). NamedIsThere event.Read (told_by s (with_read s)) t) (sym went)
    (elim (length (reports_by_a (with_read s)) == length (reports_by_a s)) as (λ b. (length (reports_by_a (with_read s)) == length (reports_by_a s)) ≡ b → NamedIsThere event.Read (if b then step.Nothing else step.Reported) (with_read s)) [
      | true ↦ λ e. tt
      | false ↦ λ e. grind (arith, e, grew)
    ] refl))

none_taken : {X : Type 0} → (n : ℕ) → take {0} {A = X} n [] ≡ []
none_taken zero = refl
none_taken (suc n) = refl

front_more : {X : Type 0} (xs : List X) (n : ℕ) → (rest : List X) × (take n xs ++ rest ≡ take (suc n) xs)
front_more [] n = ([], ap (λ l. l ++ []) (none_taken n) ∙ sym (none_taken (suc n)))
front_more (x ∷ xs) zero = (x ∷ [], refl)
front_more (x ∷ xs) (suc n) = let more = front_more xs n in (more.0, ap (λ l. x ∷ l) more.1)

-- one answer more takes no report back
grows : (s : State) → length (reports_by_a s) ≤ length (reports_by_a (with_read s))
unfolding reports_by_a
grows s =
    let answers = Answered s.own_b [] (map Whole (served_by_b s)) in
    let more = front_more answers s.read in
    let next : suc s.read ≡ s.read + 1 = omega arith in
    let read = sym (map-append Whole (take s.read answers) more.0) ∙ ap (map Whole) (more.1 ∙ ap (λ (k : ℕ). take k answers) next) in
    let told = reports_grow s.requests (answers_read s) (map Whole more.0) in
    omega (arith, ap length told.1, length-append (Told s.requests (answers_read s)) told.0, ap (λ l. length (Told s.requests l)) read)

answers_there : (s new : State) (e : Event) (answer : Step) → Steps s e answer new → NamedIsThere e answer new
unfolding Steps
answers_there s new (event.Ask request) answer step = subst (λ (a : Step). NamedIsThere (event.Ask request) a new) (sym step.1) tt
answers_there s new (event.Post end) answer step = subst (λ (a : Step). NamedIsThere (event.Post end) a new) (sym step.2) tt
answers_there s new (event.Emit end) answer step = packet_there (event.Emit end) s new end ((end_of s end).sent + 1) (Some ((end_of s end).sent + 1)) answer refl step.1 step.2
answers_there s new (event.Resend end i) answer step = packet_there (event.Resend end i) s new end (end_of s end).sent (Some ((end_of s end).acked + 1 + i)) answer refl step.1 step.2
answers_there s new (event.Ack end) answer step = packet_there (event.Ack end) s new end (end_of s end).sent None answer refl step.0 step.1
answers_there s new (event.Deliver end j) answer step = subst (λ (a : Step). NamedIsThere (event.Deliver end j) a new) (sym step.2) tt
answers_there s new event.Serve answer step = subst (λ (a : Step). NamedIsThere event.Serve a new) (sym step.3) tt
answers_there s new event.Read answer step = report_there s new answer step.2 step.3 (grows s)

pub named : (s new : State) (e : Event) (r : Result Step WorldFault) → ComesTo s e r new → IfOk r (λ answer. NamedIsThere e answer new)
named s new e (Ok answer) went = answers_there s new e answer went
named s new e (Err f) went = tt
