-- Each request to its report, over perfect delivery.
use Rattle.std.proofs.Common.{◌≡◌, ℕ, ◌+◌, ◌<◌, arith, refl, sym, ◌∙◌, subst, ap, List, [], ◌∷◌, ◌++◌, length, map, take, inl, inr}
use Rattle.std.specs.Prelude.{◌≢◌, Err, Some, slice_get}
use Rattle.std.proofs.lemmas.List.{take_more, take_all}
use Rattle.std.proofs.lemmas.Option.{slice_get_within, get_or_from_slice_get}
use Rattle.dap_msg.specs.declared.message.Message.{Message}
use Rattle.dap_msg.specs.declared.items.Item.TheVariants.{Whole}
use Rattle.dap_accessing.specs.declared.fault.AskFault.TheVariants as ask_fault
use Rattle.dap_accessing.specs.Request.{Request}
use Rattle.dap_world.specs.Plain.{Asked}
use Rattle.dap_accessing.specs.Phase.{IsNoneDue}
use Rattle.dap_accessing.specs.Told.{Wrong, due_after, Told}
use Rattle.dap_accessing.proofs.ForCallers.{asked_one, none_due}
use Rattle.dap_world.specs.Agreement.{AreAdmissible, request_answers, reports_of}
use Rattle.dap_events.specs.declared.event.Event.TheVariants as event
use Rattle.dap_events.specs.declared.event.Step.{Step}
use Rattle.dap_events.specs.declared.event.WorldFault.{WorldFault}
use Rattle.dap_events.specs.declared.event.WorldFault.TheVariants as fault
use Rattle.dap_world.specs.Machine.{State, answers_read, world_after_request, files_of, reports_by_a, sent_by, served_by_b, Steps, RefusesEvent}
use Rattle.dap_world.specs.Runs.{ComesTo}
use Rattle.dap_world.specs.Inner.Worlds.{IsWorld}
use Rattle.dap_world.specs.Settling.{AllDone, AllTold, FinishesIn, FinishFault, IsUnused, RanOut, StopsAtRequest}
use Rattle.dap_world.specs.Inner.Settling.{IsQuiet, RanTo, RunsTo}
use Rattle.dap_world.proofs.Stretch.Exhausting.{quiet_enough}
use Rattle.dap_world.proofs.Headline.Kept.{headline_of, kept-step}
use Rattle.dap_world.proofs.Stretch.Onward.{ran_on, ran_world}
use Rattle.dap_world.proofs.Steps.Others.{refused_same}
use Rattle.dap_world.proofs.Stretch.Settles.{runs-both}

-- ---- Before the first request.

nothing : (xs rest ys : List Message) → xs ++ rest ≡ ys → ys ≡ [] → xs ≡ ys
nothing [] rest ys e none = sym none
nothing (x ∷ xs) rest ys e none = absurd cc

fresh_told : (s : State) → IsWorld s → s.requests ≡ [] → AllTold s
unfolding reports_by_a files_of
fresh_told s h none =
    let order = (headline_of s h).sent_in_order in
    let all : Asked s.own_a s.requests ≡ [] = ap (Asked s.own_a) none in
    let sent : sent_by s.a ≡ Asked s.own_a s.requests = nothing (sent_by s.a) order.0 (Asked s.own_a s.requests) order.1 all in
    let taken : served_by_b s ≡ Asked s.own_a s.requests = take_all s.served (sent_by s.a) (omega (arith, ap length (sent ∙ all))) ∙ sent in
    record {
      sent = sent;
      taken = taken;
      reports = ap (λ (r : List Request). Told r (answers_read s)) none ∙ sym (ap (λ (r : List Request). Told r (map Whole (request_answers s.own_a s.own_b s.requests))) none);
      each = ap length (ap (λ (r : List Request). Told r (answers_read s)) none) ∙ sym (ap length none);
    }

pub fresh_done : (s : State) (requests : List Request) → IsWorld s → IsUnused s → AllDone (take 0 requests) s
fresh_done s requests h f = record { asked = f.0; admissible = tt; told = fresh_told s h f.0 }

-- ---- A request is asked.

told_due : (s : State) → AllTold s → due_after s.requests (answers_read s) ≢ Wrong → IsNoneDue s.requests (answers_read s)
unfolding reports_by_a
told_due s told right = none_due s.requests (answers_read s) told.each right

-- no report comes of it
asked_told : (s : State) (r : Request) → AllTold s → due_after s.requests (answers_read s) ≢ Wrong → reports_by_a (world_after_request s r) ≡ reports_by_a s
unfolding reports_by_a
asked_told s r told right = (asked_one s.requests (answers_read s) r (told_due s told right)).told

take_one : (requests : List Request) (i : ℕ) (r : Request) → slice_get requests i ≡ Some r → take i requests ++ r ∷ [] ≡ take (i + 1) requests
take_one requests i r there = sym (take_more requests i r (slice_get_within requests i r there) ∙ ap (λ (x : Request). take i requests ++ x ∷ []) (get_or_from_slice_get requests i r r there))

asked_is : (s new : State) (r : Request) (answer : Step) → Steps s (event.Ask r) answer new → new ≡ world_after_request s r
unfolding Steps
asked_is s new r answer step = step.2

-- a request that has a step is admissible, as those before it are
admissible_then : (s new : State) (r : Request) (answer : Step) → Steps s (event.Ask r) answer new → IsWorld s → AreAdmissible s.own_a s.own_b [] (s.requests ++ r ∷ [])
admissible_then s new r answer step h =
    subst (λ (t : State). AreAdmissible t.own_a t.own_b [] t.requests) (asked_is s new r answer step) (kept-step s new (event.Ask r) answer step h).admissible

-- ---- The reasons to stop.

pub ask_stops : (s new : State) (requests : List Request) (i : ℕ) (r : Request) (f : WorldFault) → IsWorld s → IsQuiet s → due_after s.requests (answers_read s) ≢ Wrong → AllDone (take i requests) s → slice_get requests i ≡ Some r → ComesTo s (event.Ask r) (Err f) new
    → StopsAtRequest requests new (i, f)
unfolding Steps RefusesEvent
ask_stops s new requests i r fault.NoMemory h quiet right done there went =
    subst (λ (t : State). StopsAtRequest requests t (i, fault.NoMemory)) (sym went.1)
    (record {
      there = slice_get_within requests i r there;
      asked = inl done.asked;
      admissible = subst (AreAdmissible s.own_a s.own_b []) (ap (λ (l : List Request). l ++ r ∷ []) done.asked ∙ take_one requests i r there) (admissible_then s went.0.1 r went.0.0 went.0.2 h);
      reports = done.told.reports ∙ ap (reports_of s.own_a s.own_b) done.asked;
      why = quiet_enough s quiet;
    })
ask_stops s new requests i r (fault.Ask ask_fault.Busy) h quiet right done there went = absurd (went.0 (told_due s done.told right))
ask_stops s new requests i r (fault.Ask ask_fault.WrongPhase) h quiet right done there went =
    subst (λ (t : State). StopsAtRequest requests t (i, fault.Ask ask_fault.WrongPhase)) (sym went.1) (record { done = done; request = r; there = there; refused = went.0; why = inl refl })
ask_stops s new requests i r (fault.Ask ask_fault.TooLarge) h quiet right done there went =
    subst (λ (t : State). StopsAtRequest requests t (i, fault.Ask ask_fault.TooLarge)) (sym went.1) (record { done = done; request = r; there = there; refused = went.0; why = inr refl })
ask_stops s new requests i r (fault.Ask ask_fault.NoMemory) h quiet right done there went = absurd went.0
ask_stops s new requests i r (fault.Ask ask_fault.Failed) h quiet right done there went = absurd went.0
ask_stops s new requests i r fault.NothingToDo h quiet right done there went = absurd went.0
ask_stops s new requests i r fault.NoSuchPacket h quiet right done there went = absurd went.0
ask_stops s new requests i r fault.Stale h quiet right done there went = absurd went.0
ask_stops s new requests i r fault.Exhausted h quiet right done there went = absurd went.0
ask_stops s new requests i r fault.BadSetup h quiet right done there went = absurd went.0

ran_out : (requests : List Request) (new : State) (i : ℕ) (f : WorldFault) → FinishFault new f → RanOut requests new i f → StopsAtRequest requests new (i, f)
ran_out requests new i fault.NoMemory why out = out
ran_out requests new i fault.Exhausted why out = out
ran_out requests new i fault.NoSuchPacket why out = absurd why
ran_out requests new i fault.Stale why out = absurd why
ran_out requests new i fault.NothingToDo why out = absurd why
ran_out requests new i (fault.Ask f) why out = absurd why
ran_out requests new i fault.BadSetup why out = absurd why

-- the state after the request, and the events that came then
module _ (s mid new : State) (requests : List Request) (i : ℕ) (r : Request) (answer : Step) (w : IsWorld mid) (done : AllDone (take i requests) s) (there : slice_get requests i ≡ Some r) (step : Steps s (event.Ask r) answer mid) where
  requests_then : mid.requests ≡ take (i + 1) requests
  requests_then = ap (λ (t : State). t.requests) (asked_is s mid r answer step) ∙ ap (λ (l : List Request). l ++ r ∷ []) done.asked ∙ take_one requests i r there

  pub done_more : (n : ℕ) → FinishesIn mid new n → AllDone (take (i + 1) requests) new
  done_more n f =
      let asked : new.requests ≡ take (i + 1) requests = (ran_on mid new n w f.ran).requests ∙ requests_then in
      record { asked = asked; admissible = subst (AreAdmissible new.own_a new.own_b []) asked (ran_world mid new n w f.ran).admissible; told = f.told }

  pub finish_stops : (f : WorldFault) → due_after s.requests (answers_read s) ≢ Wrong → FinishFault new f → RanTo mid new → reports_by_a new ≡ reports_by_a mid → StopsAtRequest requests new (i, f)
  finish_stops f right why ran same =
      let on = ran_on mid new ran.0 w ran.1 in
      let is = asked_is s mid r answer step in
      let own_a : new.own_a ≡ s.own_a = on.own_a ∙ ap (λ (t : State). t.own_a) is in
      let own_b : new.own_b ≡ s.own_b = on.own_b ∙ ap (λ (t : State). t.own_b) is in
      let reports : reports_by_a new ≡ reports_of new.own_a new.own_b (take i requests) =
      same ∙ ap reports_by_a is ∙ asked_told s r done.told right ∙ done.told.reports ∙ ap (reports_of s.own_a s.own_b) done.asked
      ∙ sym (ap (λ (n : ℕ). reports_of n new.own_b (take i requests)) own_a ∙ ap (λ (n : ℕ). reports_of s.own_a n (take i requests)) own_b) in
      let asked : new.requests ≡ take (i + 1) requests = on.requests ∙ requests_then in
      ran_out requests new i f why
      (record {
        there = slice_get_within requests i r there;
        asked = inr asked;
        admissible = subst (AreAdmissible new.own_a new.own_b []) asked (ran_world mid new ran.0 w ran.1).admissible;
        reports = reports;
        why = why;
      })

-- ---- Runs.

pub runs_none : (s : State) → RunsTo s s
runs_none s = ([], refl)

pub runs_asked : (old s mid : State) (r : Request) (answer : Step) → RunsTo old s → Steps s (event.Ask r) answer mid → RunsTo old mid
runs_asked old s mid r answer run step = (run.0 ++ event.Ask r ∷ [], runs-both run.0 (event.Ask r ∷ []) old s mid run.1 (mid, answer, step, refl))

pub runs_refused : (old s new : State) (r : Request) (f : WorldFault) → RunsTo old s → ComesTo s (event.Ask r) (Err f) new → RunsTo old new
runs_refused old s new r f run went = subst (λ (t : State). RunsTo old t) (sym (refused_same s new (event.Ask r) f went)) run

pub runs_to : (old mid new : State) → RunsTo old mid → RanTo mid new → RunsTo old new
runs_to old mid new run ran = (run.0 ++ ran.1.events, runs-both run.0 ran.1.events old mid new run.1 ran.1.ran)

-- no request is there
pub none_there : (requests : List Request) (i : ℕ) → i < length requests → requests ≡ [] → ⊥
none_there requests i lt none = omega (arith, lt, ap length none)
