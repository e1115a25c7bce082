use Rattle.std.proofs.Common.{◌+◌, arith}
use Rattle.dap_events.specs.declared.event.End.TheVariants.{A, B}
use Rattle.dap_world.proofs.Stretch.Settles.{ran_both}
use Rattle.dap_world.proofs.Stretch.Exhausting.{memory, unsettled}
use Rattle.dap_world.proofs.Stretch.Settled.{settled_both, settle_needs}
use Rattle.dap_world.proofs.world.World.settle_both.Goals as goal

pub returns-in-Ok-settle_end-clause-ok : goal.returns-in-Ok-settle_end-clause-ok
returns-in-Ok-settle_end-clause-ok c = (
  settled_both c.args.self.now c.settle_end.new.self c.settle_end-2.new.self c.in-Ok.count c.in-Ok-settle_end.more c.requires c.in-Ok.ensures.ok c.settle_end.ensures.rest c.in-Ok-settle_end.ensures.ok c.settle_end-2.ensures.rest,
  c.sound-in-Ok-settle_end.ensures,
)

pub returns-in-Err-clause-err : goal.returns-in-Err-clause-err
returns-in-Err-clause-err c = (memory c.settle_end.new.self c.in-Err.fault c.in-Err.ensures.err.0 (unsettled c.settle_end.new.self A c.in-Err.ensures.left), c.in-Err.ensures.err.1, λ s. settle_needs c.settle_end.result c.in-Err.fault c.in-Err.is (c.settle_end.ensures.nothing s.0))

pub returns-in-Err-settle_end-clause-err : goal.returns-in-Err-settle_end-clause-err
returns-in-Err-settle_end-clause-err c =
    let err = c.in-Err-settle_end.ensures.err in (
      memory c.settle_end-2.new.self c.in-Err-settle_end.fault err.0 (unsettled c.settle_end-2.new.self B c.in-Err-settle_end.ensures.left),
      (c.in-Ok.count + err.1.0, ran_both c.args.self.now c.settle_end.new.self c.settle_end-2.new.self c.in-Ok.count err.1.0 c.in-Ok.ensures.ok.ran err.1.1),
      λ s. settle_needs c.settle_end-2.result c.in-Err-settle_end.fault c.in-Err-settle_end.is (c.settle_end-2.ensures.nothing (omega (arith, s.1, c.settle_end.ensures.rest.sent B, c.settle_end.ensures.rest.same.acked B))),
    )
