use Rattle.std.proofs.Common.{sym, ap, ◌∙◌, Some}
use Rattle.std.proofs.lemmas.Option.{slice_get-get_or}
use Rattle.dap_events.specs.declared.event.Event.{Event}
use Rattle.dap_world.proofs.Steps.Others.{runs_more, stops}
use Rattle.dap_world.proofs.world.World.go.Goals as goal

pub loop-i-preserved : goal.loop-i-preserved
loop-i-preserved c =
    runs_more c.args.events.now c.loop-i.i _ _ _ c.index-events-i.result c.in-Ok.field-0
    (slice_get-get_or c.args.events.now c.loop-i.i c.index-events-i.result c.loop-i-test.true ∙ ap (λ (e : Event). Some e) (sym c.index-events-i.is))
    c.loop-i.invariant c.in-Ok.ensures

pub returns-in-Err : goal.returns-in-Err
returns-in-Err c = record {
  all = tt;
  stopped = stops c.args.events.now c.loop-i.i _ _ _ c.index-events-i.result c.in-Err.fault
      (slice_get-get_or c.args.events.now c.loop-i.i c.index-events-i.result c.loop-i-test.true ∙ ap (λ (e : Event). Some e) (sym c.index-events-i.is))
      c.loop-i.invariant c.in-Err.ensures;
}
