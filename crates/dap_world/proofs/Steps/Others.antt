-- Runs that go on, and that stop.
use Rattle.std.proofs.Common.{◌≡◌, ℕ, ◌+◌, refl, sym, ◌∙◌, subst, ap, List, [], ◌∷◌, ◌++◌, take}
use Rattle.std.specs.Prelude.{Some, Err, slice_get}
use Rattle.std.proofs.lemmas.Option.{slice_get_within, get_or_from_slice_get}
use Rattle.std.proofs.lemmas.List.{take_more}
use Rattle.dap_events.specs.declared.event.Event.{Event}
use Rattle.dap_events.specs.declared.event.Step.{Step}
use Rattle.dap_events.specs.declared.event.WorldFault.{WorldFault}
use Rattle.dap_events.specs.declared.event.WorldFault.TheVariants as fault
use Rattle.dap_world.specs.Machine.{State, Steps}
use Rattle.dap_world.specs.Runs.{Runs, ComesTo, StopsAt}

runs_on : (events : List Event) (old mid new : State) (e : Event) (a : Step) → Runs old events mid → Steps mid e a new → Runs old (events ++ e ∷ []) new
runs_on [] old mid new e a run step = (new, a, subst (λ (s : State). Steps s e a new) run step, refl)
runs_on (f ∷ events) old mid new e a run step = (run.0, run.1, run.2, runs_on events run.0 mid new e a run.3 step)

pub runs_more : (events : List Event) (i : ℕ) (old mid new : State) (e : Event) (a : Step) → slice_get events i ≡ Some e → Runs old (take i events) mid → Steps mid e a new → Runs old (take (i + 1) events) new
runs_more events i old mid new e a at run step =
    subst (λ (l : List Event). Runs old l new) (sym (take_more events i e (slice_get_within events i e at) ∙ ap (λ x. take i events ++ x ∷ []) (get_or_from_slice_get events i e e at)))
    (runs_on (take i events) old mid new e a run step)

-- a refusal changes nothing
pub refused_same : (old new : State) (e : Event) (f : WorldFault) → ComesTo old e (Err f) new → new ≡ old
refused_same old new e fault.NoMemory went = went.1
refused_same old new e fault.NoSuchPacket went = went.1
refused_same old new e fault.Stale went = went.1
refused_same old new e fault.NothingToDo went = went.1
refused_same old new e (fault.Ask f) went = went.1
refused_same old new e fault.Exhausted went = went.1
refused_same old new e fault.BadSetup went = went.1

pub stops : (events : List Event) (i : ℕ) (old mid new : State) (e : Event) (f : WorldFault) → slice_get events i ≡ Some e → Runs old (take i events) mid → ComesTo mid e (Err f) new → StopsAt events old new (i, f)
stops events i old mid new e f at run went =
    let same = refused_same mid new e f went in
    record {
      ran = subst (λ (s : State). Runs old (take i events) s) (sym same) run;
      event = e;
      there = at;
      refused = subst (λ (s : State). ComesTo s e (Err f) new) (sym same) went;
    }
