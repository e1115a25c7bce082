use Rattle.std.proofs.Common.{◌∙◌, ap, arith}
use Rattle.dap_events.specs.declared.event.Event.TheVariants as event
use Rattle.dap_world.specs.Machine.{State}
use Rattle.dap_world.specs.Settling.{unacked_count}
use Rattle.dap_world.proofs.Steps.Others.{refused_same}
use Rattle.dap_world.proofs.Stretch.Settles.{resent_more, resend_refused, same_unacked}
use Rattle.dap_world.proofs.Stretch.Resting.{rest_both, rest_resend}
use Rattle.dap_world.proofs.world.World.resend_all.Goals as goal

pub loop-index-preserved : goal.loop-index-preserved
loop-index-preserved c = record {
  resent = resent_more c.args.self.now c.loop-index.self c.step.new.self c.args.end c.loop-index.index c.in-Ok._step c.loop-index.invariant.resent c.in-Ok.ensures.went;
  rest = rest_both c.args.self.now c.loop-index.self c.step.new.self c.loop-index.invariant.rest (rest_resend c.loop-index.self c.step.new.self _ _ _ c.step.ensures.went);
  world = c.in-Ok.ensures.world;
}

pub returns-in-Err-clause-err : goal.returns-in-Err-clause-err
returns-in-Err-clause-err c =
    resend_refused c.args.self.now c.loop-index.self c.step.new.self c.args.end c.loop-index.index c.in-Err.fault c.loop-index.invariant.resent (omega (arith, c.loop-index-test.true, c.requires.few)) c.in-Err.ensures.went

pub returns-in-Err-clause-rest : goal.returns-in-Err-clause-rest
returns-in-Err-clause-rest c =
    rest_both c.args.self.now c.loop-index.self c.step.new.self c.loop-index.invariant.rest (rest_resend c.loop-index.self c.step.new.self _ _ _ c.step.ensures.went)

pub returns-in-Err-clause-left : goal.returns-in-Err-clause-left
returns-in-Err-clause-left c =
    ap (λ (s : State). unacked_count s c.args.end) (refused_same c.loop-index.self c.step.new.self (event.Resend c.args.end c.loop-index.index) c.in-Err.fault c.in-Err.ensures.went)
    ∙ same_unacked c.args.self.now c.loop-index.self c.args.end c.loop-index.index c.loop-index.invariant.resent
