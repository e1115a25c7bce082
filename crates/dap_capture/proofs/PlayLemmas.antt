-- A run goes on by one event, or stops, or is over.
use Rattle.std.proofs.Common.{◌≡◌, ◌+◌, ◌++◌, ℕ, List, [], ◌∷◌, Option, Some, None, Err, refl, sym, ap, ◌∙◌, subst}
use Rattle.std.specs.List.{filter_map, cons_option}
use Rattle.std.specs.Prelude.{codes}
use Rattle.std.proofs.lemmas.List.{append_assoc}
use Rattle.dap_world.specs.Machine.{State, RefusesEvent, initial_state, files_of}
use Rattle.dap_world.specs.Setups.{IsWorldSetup}
use Rattle.dap_events.specs.declared.setup.WorldSetup.{WorldSetup}
use Rattle.dap_events.specs.declared.event.Event.{Event}
use Rattle.dap_events.specs.declared.event.WorldFault.{WorldFault}
use Rattle.dap_events.specs.declared.event.WorldFault.TheVariants as fault
use Rattle.dap_world.specs.Runs.{ComesTo}
use Rattle.linewise.specs.declared.fault.Outcome.{Outcome}
use Rattle.linewise.specs.declared.fault.Outcome.TheVariants.{Good, Stopped}
use Rattle.dap_orders.specs.Orders.{event_of, world_setup_of}
use Rattle.dap_orders.specs.Schedules.{Numbered, fault_unless}
use Rattle.dap_orders.specs.Schedules.{event_fault}
use Rattle.dap_capture.specs.Inner.Playing.{events_of}
use Rattle.dap_text.specs.Tables.{files_text}
use Rattle.dap_capture.specs.Played.{Plays, all_played, one_played, stops, PlaysSchedule, empty, setup_refused, played, event_line, refusal_line, refusal_text}
use Rattle.dap_capture.specs.Inner.Playing.{PlaysOne}

-- what a text so far comes to, once the rest of the run is known
abbrev pub GoesOn : State → List Event → State → ℕ → List Event → List ℕ → Type 0
GoesOn start events s number left text =
    (outcome : Outcome) (more : List ℕ) → Plays s number left outcome more → Plays start 1 events outcome (text ++ more)

next_event : (number : ℕ) (line : List ℕ) (rest lines : List Numbered) (e : Event) → lines ≡ (number, line) ∷ rest → event_of line ≡ Some e
    → events_of lines ≡ e ∷ events_of rest
next_event number line rest lines e cut says = ap events_of cut ∙ ap (λ o. cons_option o (events_of rest)) says

pub goes_further : (start s new : State) (events : List Event) (number at : ℕ) (line : List ℕ) (rest lines : List Numbered) (e : Event) (text after : List ℕ)
    → lines ≡ (at, line) ∷ rest → Some e ≡ event_of line → PlaysOne number e s new text after Good
    → GoesOn start events s number (events_of lines) text → GoesOn start events new (number + 1) (events_of rest) after
goes_further start s new events number at line rest lines e text after cut says one so_far outcome more run =
    let whole = so_far outcome (event_line number one.1 ++ more) (subst (λ left. Plays s number left outcome (event_line number one.1 ++ more)) (sym (next_event at line rest lines e cut (sym says))) (one_played one.0 new one.1 more one.2 one.3 run)) in
    subst (Plays start 1 events outcome) (sym (append_assoc text (event_line number one.1) more) ∙ ap (λ t. t ++ more) (sym one.4)) whole

pub stops_here : (start s new : State) (events : List Event) (number at : ℕ) (line : List ℕ) (rest lines : List Numbered) (e : Event) (text after end : List ℕ)
    → lines ≡ (at, line) ∷ rest → Some e ≡ event_of line → PlaysOne number e s new text after Stopped → end ≡ after ++ files_text (files_of new)
    → GoesOn start events s number (events_of lines) text → Plays start 1 events Stopped end
stops_here start s new events number at line rest lines e text after end cut says one files so_far =
    let said = refusal_line number one.1 in
    let last = said ++ files_text (files_of s) in
    let whole = so_far Stopped last (subst (λ left. Plays s number left Stopped last) (sym (next_event at line rest lines e cut (sym says))) (stops one.0 one.1 one.2 one.3)) in
    let same : text ++ last ≡ end = sym (append_assoc text said (files_text (files_of s))) ∙ ap (λ t. t ++ files_text (files_of s)) (sym one.5) ∙ ap (λ w. after ++ files_text (files_of w)) (sym one.4) ∙ sym files in
    subst (Plays start 1 events Stopped) same whole

pub is_over : (start s : State) (events : List Event) (number : ℕ) (lines : List Numbered) (text end : List ℕ) → lines ≡ [] → end ≡ text ++ files_text (files_of s)
    → GoesOn start events s number (events_of lines) text → Plays start 1 events Good end
is_over start s events number lines text end none files so_far =
    let whole = so_far Good (files_text (files_of s)) (subst (λ left. Plays s number left Good (files_text (files_of s))) (sym (ap events_of none)) all_played) in
    subst (Plays start 1 events Good) (sym files) whole

no_fault : (number : ℕ) (o : Option Event) (e : Event) → Some e ≡ o → fault_unless number o ≡ None
no_fault number o e is = rw (← is) refl

-- a line that says an event leaves the faults of the others
pub faults_after : (number : ℕ) (line : List ℕ) (rest lines : List Numbered) (e : Event) → lines ≡ (number, line) ∷ rest → Some e ≡ event_of line
    → filter_map event_fault lines ≡ filter_map event_fault rest
faults_after number line rest lines e cut says =
    ap (filter_map event_fault) cut ∙ ap (λ o. cons_option o (filter_map event_fault rest)) (no_fault number (event_of line) e says)

-- a refusal that has a word is one of the machine
pub refused : (old new : State) (e : Event) (f : WorldFault) (word : List ℕ) → refusal_text f ≡ Some word → ComesTo old e (Err f) new → RefusesEvent old e f × (new ≡ old)
refused old new e fault.NoSuchPacket word has went = went
refused old new e fault.Stale word has went = went
refused old new e fault.NothingToDo word has went = went
refused old new e (fault.Ask f) word has went = went
refused old new e fault.NoMemory word has went = let no : ⊥ = cc in absurd no
refused old new e fault.Exhausted word has went = went
refused old new e fault.BadSetup word has went = let no : ⊥ = cc in absurd no

-- ---- the whole schedule

pub nothing_said : (lines : List Numbered) (text : List ℕ) → lines ≡ [] → text ≡ [] → PlaysSchedule lines Good text
nothing_said lines text none silent = subst (λ ls. PlaysSchedule ls Good text) (sym none) (subst (PlaysSchedule [] Good) (sym silent) empty)

pub bad_sizes : (lines others : List Numbered) (first : Numbered) (setup : WorldSetup) (text : List ℕ) → lines ≡ first ∷ others
    → Some setup ≡ world_setup_of first.1 → (IsWorldSetup setup → ⊥) → text ≡ refusal_line 0 (codes "bad-setup") → PlaysSchedule lines Stopped text
bad_sizes lines others first setup text cut says bad is =
    subst (λ ls. PlaysSchedule ls Stopped text) (sym cut) (subst (PlaysSchedule (first ∷ others) Stopped) (sym is) (setup_refused setup (sym says) bad))

pub played_from : (lines others : List Numbered) (first : Numbered) (setup : WorldSetup) (world : State) (outcome : Outcome) (text : List ℕ) → lines ≡ first ∷ others
    → Some setup ≡ world_setup_of first.1 → IsWorldSetup setup → world ≡ initial_state setup → Plays world 1 (events_of others) outcome text → PlaysSchedule lines outcome text
played_from lines others first setup world outcome text cut says good is run =
    subst (λ ls. PlaysSchedule ls outcome text) (sym cut) (played setup (sym says) good (subst (λ w. Plays w 1 (events_of others) outcome text) is run))
