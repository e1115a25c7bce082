use Rattle.std.proofs.Common.{subst}
use Rattle.std.specs.Prelude.{Ok}
use Rattle.dap_events.specs.declared.event.Event.{Event}
use Rattle.dap_world.specs.Naming.{NamedIsThere}
use Rattle.dap_world.proofs.ForCallers.{named}
use Rattle.dap_capture.proofs.play.play_order.Goals as goal

pub push_event-requires : goal.push_event-requires
push_event-requires c =
    subst (λ (e : Event). NamedIsThere e c.in-Ok.step c.happen.new.world) c.in_ok-event.ensures
    (named _ _ c.in_ok-event.event (Ok c.in-Ok.step) c.in-Ok.ensures)
