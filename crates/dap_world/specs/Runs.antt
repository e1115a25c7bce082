-- What one event comes to, and several.
use Rattle.std.specs.Prelude.{◌≡◌, ℕ, List, take, slice_get, Option, Some, None, Result, Ok, Err}
use Rattle.dap_end.specs.Runs.{RunsBy}
use Rattle.nsp_link.specs.declared.link.Got.TheVariants as got
use Rattle.dap_events.specs.declared.event.End.{End}
use Rattle.dap_events.specs.declared.event.Event.{Event}
use Rattle.dap_events.specs.declared.event.Event.TheVariants as event
use Rattle.dap_events.specs.declared.event.Step.{Step}
use Rattle.dap_events.specs.declared.event.Step.TheVariants as step
use Rattle.dap_events.specs.declared.event.WorldFault.{WorldFault}
use Rattle.dap_events.specs.declared.event.WorldFault.TheVariants as fault
use Rattle.dap_world.specs.Machine.{State, Steps, StepsFreely, RefusesEvent, initial_state}
use Rattle.dap_world.specs.Setups.{IsWorldSetup}
use Rattle.dap_events.specs.declared.setup.WorldSetup.{WorldSetup}

-- Memory may be refused to an event with this answer: any but a delivery without a segment, or of one that was taken.
abbrev pub TakesMemory : Step → Type 0
TakesMemory (step.Delivered got.AckOnly) = ⊥
TakesMemory (step.Delivered got.Repeat) = ⊥
TakesMemory answer = Unit {0}

-- Memory was refused to an event that has a step and may need some.
abbrev pub WantsMemory : State → Event → Type 0
WantsMemory s e = (answer : Step) × (new : State) × Steps s e answer new × TakesMemory answer

-- An event came to this result: it is a step of the machine; or the machine has none, for this reason; or memory was
-- refused. A refusal changes nothing.
abbrev pub ComesTo : State → Event → Result Step WorldFault → State → Type 0
ComesTo old e (Ok answer) new = Steps old e answer new
ComesTo old e (Err fault.NoMemory) new = WantsMemory old e × (new ≡ old)
ComesTo old e (Err f) new = RefusesEvent old e f × (new ≡ old)

-- the end that an event lets write a packet
abbrev pub writing_end : Event → Option End
writing_end (event.Emit end) = Some end
writing_end (event.Resend end _) = Some end
writing_end (event.Ack end) = Some end
writing_end _ = None

-- each event steps, none refused
abbrev pub Runs : State → List Event → State → Type 0
Runs old events new = RunsBy Steps old events new

-- events lead to this state from a new world, whatever early segments are kept
abbrev pub IsReached : State → Type 0
IsReached s = (setup : WorldSetup) × (events : List Event) × IsWorldSetup setup × RunsBy StepsFreely (initial_state setup) events s

-- the event at this index was refused, and those before it were run
pub record StopsAt (events : List Event) (old new : State) (stop : ℕ × WorldFault) : Type 0 where
  pub ran : Runs old (take stop.0 events) new
  pub event : Event
  pub there : slice_get events stop.0 ≡ Some event
  pub refused : ComesTo new event (Err stop.1) new
