-- What an answer names.
use Rattle.std.specs.Prelude.{◌≡◌, ◌<◌, length, Some}
use Rattle.dap_events.specs.declared.event.End.{End}
use Rattle.dap_events.specs.declared.event.Event.{Event}
use Rattle.dap_events.specs.declared.event.Step.{Step}
use Rattle.dap_events.specs.declared.event.Step.TheVariants as step
use Rattle.dap_world.specs.Machine.{State, end_of, reports_by_a}
use Rattle.dap_world.specs.Runs.{writing_end}

-- What an answer names is there: a packet at its index of the writer's wire, or a newest report.
abbrev pub NamedIsThere : Event → Step → State → Type 0
NamedIsThere e (step.Packet index) s = (end : End) × (writing_end e ≡ Some end) × (index < length (end_of s end).wire)
NamedIsThere e step.Reported s = 0 < length (reports_by_a s)
NamedIsThere e _ s = Unit {0}
