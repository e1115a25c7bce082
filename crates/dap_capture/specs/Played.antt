-- The text of a schedule: that of the run of the machine.
use Rattle.std.specs.Prelude.{◌≡◌, ℕ, ◌+◌, ◌-◌, List, [], ◌∷◌, ◌++◌, length, slice_get, codes, Option, Some, None, Result}
use Rattle.std.specs.List.{concat, filter_map}
use Rattle.std.specs.Fmt.{decimal}
use Rattle.hex.specs.Hex.{encode_lower}
use Rattle.dap_accessing.specs.declared.report.Report.{Report}
use Rattle.dap_events.specs.declared.event.End.{End}
use Rattle.dap_events.specs.declared.event.End.TheVariants.{A, B}
use Rattle.dap_events.specs.declared.event.Event.{Event}
use Rattle.dap_events.specs.declared.event.Step.{Step}
use Rattle.dap_events.specs.declared.event.Step.TheVariants as step
use Rattle.dap_events.specs.declared.event.WorldFault.{WorldFault}
use Rattle.dap_events.specs.declared.event.WorldFault.TheVariants as fault
use Rattle.dap_events.specs.declared.setup.WorldSetup.{WorldSetup}
use Rattle.dap_world.specs.Machine.{State, Sending, Steps, RefusesEvent, initial_state, end_of, reports_by_a, files_of}
use Rattle.dap_world.specs.Setups.{IsWorldSetup}
use Rattle.dap_world.specs.Wires.{IsOnWire}
use Rattle.dap_world.specs.Runs.{writing_end}
use Rattle.dap_text.specs.Answers.{ask_text, got_text}
use Rattle.texts.specs.Text.{line_feed}
use Rattle.dap_text.specs.Reports.{report_text}
use Rattle.dap_text.specs.Tables.{files_text}
use Rattle.dap_orders.specs.Orders.{event_of, world_setup_of}
use Rattle.dap_orders.specs.Schedules.{Numbered, numbered_lines, schedule_faults}
use Rattle.linewise.specs.Gives.{GivesText}
use Rattle.linewise.specs.declared.fault.CaptureFault.{CaptureFault}
use Rattle.linewise.specs.declared.fault.Outcome.{Outcome}
use Rattle.linewise.specs.declared.fault.Outcome.TheVariants.{Good, Stopped}

-- the line of an event: its number, then this text
abbrev pub event_line : ℕ → List ℕ → List ℕ
event_line number text = concat (decimal number ∷ codes " " ∷ text ∷ line_feed ∷ [])

-- the line of a refused event
abbrev pub refusal_line : ℕ → List ℕ → List ℕ
refusal_line number word = event_line number (codes "refused " ++ word)

-- the letter of an end
abbrev pub end_text : End → List ℕ
end_text A = codes "a"
end_text B = codes "b"

-- the packet at this index of an end's wire, in hex
abbrev pub IsPacketWritten : State → End → (index : ℕ) → (text : List ℕ) → Type 0
IsPacketWritten s end index text =
    (sending : Sending) × (slice_get (end_of s end).wire index ≡ Some sending) × (bytes : List ℕ) × IsOnWire s end sending bytes
    × (text ≡ concat (codes "packet " ∷ end_text end ∷ codes " " ∷ decimal index ∷ codes " " ∷ encode_lower bytes ∷ []))

-- The text of a step, by its answer and the state after it. Of a report it is the newest one.
abbrev pub IsStepText : State → Event → Step → List ℕ → Type 0
IsStepText s e (step.Asked count) text = text ≡ codes "asked " ++ decimal count
IsStepText s e (step.Posted count) text = text ≡ codes "posted " ++ decimal count
IsStepText s e (step.Packet index) text = (end : End) × (writing_end e ≡ Some end) × IsPacketWritten s end index text
IsStepText s e (step.Delivered got) text = text ≡ got_text got
IsStepText s e (step.Served count) text = text ≡ codes "served " ++ decimal count
IsStepText s e step.Nothing text = text ≡ codes "read"
IsStepText s e step.Reported text =
    (report : Report) × (slice_get (reports_by_a s) (length (reports_by_a s) - 1) ≡ Some report) × (text ≡ codes "report " ++ report_text report)

-- the word for a refusal; out of memory has none, so no text says it
abbrev pub refusal_text : WorldFault → Option (List ℕ)
refusal_text fault.NoSuchPacket = Some (codes "no-such-packet")
refusal_text fault.Stale = Some (codes "stale")
refusal_text fault.NothingToDo = Some (codes "nothing-to-do")
refusal_text (fault.Ask why) = ask_text why
refusal_text fault.NoMemory = None
refusal_text fault.Exhausted = Some (codes "exhausted")
refusal_text fault.BadSetup = None

-- The text of a run over events, numbered from this number: a line for each step, up to the first event without one,
-- and then the files.
pub data Plays : State → ℕ → List Event → Outcome → List ℕ → Type 0 where
  all_played : {s : State} {number : ℕ} → Plays s number [] Good (files_text (files_of s))
  one_played : {s : State} {number : ℕ} {e : Event} {events : List Event} {outcome : Outcome}
      (answer : Step) (new : State) (text rest : List ℕ)
      → Steps s e answer new → IsStepText new e answer text → Plays new (number + 1) events outcome rest
      → Plays s number (e ∷ events) outcome (event_line number text ++ rest)
  stops : {s : State} {number : ℕ} {e : Event} {events : List Event}
      (f : WorldFault) (word : List ℕ)
      → RefusesEvent s e f → refusal_text f ≡ Some word
      → Plays s number (e ∷ events) Stopped (refusal_line number word ++ files_text (files_of s))

-- The text of a schedule: nothing where there is no line; or the refusal of the setup; or the text of a run from a
-- new world. By the law `schedules_have_one_text` there is one outcome and one text.
pub data PlaysSchedule : List Numbered → Outcome → List ℕ → Type 0 where
  empty : PlaysSchedule [] Good []
  setup_refused : {first : Numbered} {others : List Numbered} (setup : WorldSetup)
      → world_setup_of first.1 ≡ Some setup → (IsWorldSetup setup → ⊥)
      → PlaysSchedule (first ∷ others) Stopped (refusal_line 0 (codes "bad-setup"))
  played : {first : Numbered} {others : List Numbered} {outcome : Outcome} {text : List ℕ} (setup : WorldSetup)
      → world_setup_of first.1 ≡ Some setup → IsWorldSetup setup → Plays (initial_state setup) 1 (filter_map (λ line. event_of line.1) others) outcome text
      → PlaysSchedule (first ∷ others) outcome text

-- what `schedule` does with an input
abbrev pub ScheduleGives : List ℕ → Option (List ℕ) → Option (List ℕ) → Result Outcome CaptureFault → Type 0
ScheduleGives input =
    GivesText (schedule_faults (numbered_lines input)) (PlaysSchedule (numbered_lines input)) input
