-- What the program does of one event.
use Rattle.std.specs.Prelude.{◌≡◌, ℕ, List, ◌++◌, Some, slice_get}
use Rattle.std.specs.List.{filter_map}
use Rattle.std.specs.Global.{Vec}
use Rattle.dap_events.specs.declared.event.End.{End}
use Rattle.dap_events.specs.declared.event.Event.{Event}
use Rattle.dap_events.specs.declared.event.Step.{Step}
use Rattle.dap_events.specs.declared.event.WorldFault.{WorldFault}
use Rattle.dap_world.specs.Machine.{State, Sending, Steps, RefusesEvent, end_of}
use Rattle.dap_world.specs.Wires.{IsOnWire}
use Rattle.linewise.specs.declared.fault.Outcome.{Outcome}
use Rattle.linewise.specs.declared.fault.Outcome.TheVariants.{Good, Stopped}
use Rattle.texts.specs.Adding.{Adds}
use Rattle.dap_orders.specs.Orders.{event_of}
use Rattle.dap_orders.specs.Schedules.{Numbered}
use Rattle.dap_capture.specs.Played.{IsStepText, event_line, refusal_line, refusal_text}

-- these are the bytes of the packet at an index of an end's wire
pub record IsPacketAt (s : State) (end : End) (index : ℕ) (bytes : List ℕ) : Type 0 where
  pub sending : Sending
  pub written : slice_get (end_of s end).wire index ≡ Some sending
  pub packet : IsOnWire s end sending bytes

-- The line of an event that came to this step is added.
abbrev pub AddsStep : ℕ → State → Event → Step → Vec ℕ → Vec ℕ → Type 0
AddsStep number s e step old new = (text : List ℕ) × IsStepText s e step text × Adds old new (event_line number text)

-- The line of an event is appended, and the event came to a step, or to a refusal.
abbrev pub PlaysOne : ℕ → Event → State → State → List ℕ → List ℕ → Outcome → Type 0
PlaysOne number e old new before after Good =
    (answer : Step) × (text : List ℕ) × Steps old e answer new × IsStepText new e answer text
    × (after ≡ before ++ event_line number text)
PlaysOne number e old new before after Stopped =
    (f : WorldFault) × (word : List ℕ) × RefusesEvent old e f × (refusal_text f ≡ Some word) × (new ≡ old)
    × (after ≡ before ++ refusal_line number word)

-- the events of lines
abbrev pub events_of : List Numbered → List Event
events_of said = filter_map (λ line. event_of line.1) said
