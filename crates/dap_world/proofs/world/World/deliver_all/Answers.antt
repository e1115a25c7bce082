use Rattle.std.proofs.Common.{◌≡◌, ◌-◌, ◌∙◌, ℕ, Err, ap, arith, subst}
use Rattle.dap_events.specs.declared.event.End.{End}
use Rattle.dap_events.specs.declared.event.Event.TheVariants as event
use Rattle.dap_world.specs.Machine.{State, Steps}
use Rattle.dap_world.specs.Settling.{unacked_count}
use Rattle.dap_world.proofs.Steps.Others.{refused_same}
use Rattle.dap_world.specs.Runs.{ComesTo}
use Rattle.dap_world.specs.Inner.Settling.{AllCame}
use Rattle.dap_world.proofs.Stretch.Settles.{came_more, came_refused, came_unacked}
use Rattle.dap_world.proofs.Stretch.Resting.{rest_both, rest_deliver}
use Rattle.dap_world.proofs.world.World.deliver_all.Goals as goal

pub loop-j-preserved : goal.loop-j-preserved
loop-j-preserved c =
    let went = subst (λ (e : End). Steps c.loop-j.self (event.Deliver e c.loop-j.j) c.in-Ok._step c.step.new.self) c.other_end.ensures c.in-Ok.ensures.went in
    record {
      came = came_more c.args.self.now c.loop-j.self c.step.new.self c.args.end c.args.first c.args.last c.loop-j.j c.in-Ok._step c.loop-j.invariant.world c.loop-j.invariant.came c.requires.there
          c.loop-j.auto.j c.loop-j-test.true c.requires.few went;
      rest = rest_both c.args.self.now c.loop-j.self c.step.new.self c.loop-j.invariant.rest (rest_deliver c.loop-j.self c.step.new.self _ _ _ c.loop-j.invariant.world c.step.ensures.went);
      world = c.in-Ok.ensures.world;
    }

pub returns-in-Err-clause-err : goal.returns-in-Err-clause-err
returns-in-Err-clause-err c =
    came_refused c.args.self.now c.loop-j.self c.step.new.self c.args.end c.args.first c.args.last c.loop-j.j c.in-Err.fault c.loop-j.invariant.world c.loop-j.invariant.came c.requires.there
    c.loop-j.auto.j c.loop-j-test.true
    (subst (λ (e : End). ComesTo c.loop-j.self (event.Deliver e c.loop-j.j) (Err c.in-Err.fault) c.step.new.self) c.other_end.ensures c.in-Err.ensures.went)

pub returns-clause-ok : goal.returns-clause-ok
returns-clause-ok c =
    let same : c.loop-j.j - c.args.first ≡ c.args.last - c.args.first = omega (arith, c.loop-j.auto.j-end c.requires.order, c.loop-j-test.false) in
    (subst (λ (n : ℕ). AllCame c.args.self.now c.loop-j.self c.args.end n) same c.loop-j.invariant.came, c.loop-j.invariant.world)

pub returns-in-Err-clause-rest : goal.returns-in-Err-clause-rest
returns-in-Err-clause-rest c =
    rest_both c.args.self.now c.loop-j.self c.step.new.self c.loop-j.invariant.rest (rest_deliver c.loop-j.self c.step.new.self _ _ _ c.loop-j.invariant.world c.step.ensures.went)

pub returns-in-Err-clause-left : goal.returns-in-Err-clause-left
returns-in-Err-clause-left c =
    ap (λ (s : State). unacked_count s c.args.end) (refused_same c.loop-j.self c.step.new.self _ c.in-Err.fault c.in-Err.ensures.went)
    ∙ came_unacked c.args.self.now c.loop-j.self c.args.end (c.loop-j.j - c.args.first) c.loop-j.invariant.came
