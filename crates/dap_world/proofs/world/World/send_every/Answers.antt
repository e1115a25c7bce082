use Rattle.std.proofs.Common.{◌+◌, ◌*◌, arith}
use Rattle.dap_world.proofs.Stretch.Settles.{ran_both}
use Rattle.dap_world.proofs.Stretch.Bringing.{brought_more, could_emit, same_both}
use Rattle.dap_world.proofs.world.World.send_every.Goals as goal

pub segments-preserved : goal.segments-preserved
segments-preserved c =
    let so_far = c.segments.invariant.brought in
    let done = c.in-Ok.ensures.ok in
    record {
      brought = (so_far.0 + 1, brought_more c.args.self.now c.segments.self c.send_one.new.self c.args.end so_far.0 so_far.1 done.0, omega (arith, so_far.2));
      same = same_both c.args.self.now c.segments.self c.send_one.new.self c.segments.invariant.same c.send_one.ensures.same;
      world = done.1;
    }

pub returns-in-Err-clause-err : goal.returns-in-Err-clause-err
returns-in-Err-clause-err c =
    let so_far = c.segments.invariant.brought in
    let err = c.in-Err.ensures.err in (
      err.0,
      (4 * so_far.0 + err.1.0, ran_both c.args.self.now c.segments.self c.send_one.new.self (4 * so_far.0) err.1.0 so_far.1.ran err.1.1),
    )

pub returns-in-Err-clause-more : goal.returns-in-Err-clause-more
returns-in-Err-clause-more c =
    let so_far = c.segments.invariant.brought in
    could_emit c.args.self.now c.segments.self c.args.end so_far.0 c.requires.world c.requires.settled so_far.1 (c.may_emit.ensures.yes c.if-not-may_emit.false)

pub returns-in-Err-clause-same : goal.returns-in-Err-clause-same
returns-in-Err-clause-same c = same_both c.args.self.now c.segments.self c.send_one.new.self c.segments.invariant.same c.send_one.ensures.same
