use Rattle.std.proofs.Common.{◌+◌, ◌∙◌, ap, subst, arith, Err}
use Rattle.std.specs.Prelude.{Result}
use Rattle.dap_events.specs.declared.event.Event.TheVariants as event
use Rattle.dap_events.specs.declared.event.Step.{Step}
use Rattle.dap_events.specs.declared.event.WorldFault.{WorldFault}
use Rattle.dap_world.specs.Runs.{ComesTo}
use Rattle.dap_world.proofs.Stretch.Emptying.{read_more, fewer_left, read_ends, read_refused}
use Rattle.dap_world.proofs.world.World.read_every.Goals as goal

pub answers-preserved : goal.answers-preserved
answers-preserved c =
    let so_far = c.answers.invariant.so_far in
    record { so_far = (so_far.0 + 1, read_more c.args.self.now c.answers.self c.step.new.self so_far.0 c.in-Ok._step so_far.1 c.in-Ok.ensures.went); world = c.in-Ok.ensures.world }

pub answers-smaller : goal.answers-smaller
answers-smaller c =
    let so_far = c.answers.invariant.so_far in
    fewer_left c.args.self.now c.answers.self c.step.new.self so_far.0 c.in-Ok._step so_far.1 c.in-Ok.ensures.world c.in-Ok.ensures.went

pub returns-then-is_nothing-clause-ok : goal.returns-then-is_nothing-clause-ok
returns-then-is_nothing-clause-ok c =
    let so_far = c.answers.invariant.so_far in (
      read_ends c.args.self.now c.answers.self c.step.new.self so_far.0 _ so_far.1
          (subst (λ (r : Result Step WorldFault). ComesTo c.answers.self event.Read r c.step.new.self) (c.in-Err.is ∙ ap (λ (f : WorldFault). Err f) (c.is_nothing.ensures.yes c.if-is_nothing.true)) c.step.ensures.went)
          (omega (arith, c.read_count.ensures, c.read_count-before.ensures)),
      c.step.ensures.world,
    )

pub returns-in-Err-clause-err : goal.returns-in-Err-clause-err
returns-in-Err-clause-err c =
    let so_far = c.answers.invariant.so_far in
    (read_refused c.args.self.now c.answers.self c.step.new.self so_far.0 c.in-Err.fault (c.is_nothing.ensures.no c.if-is_nothing.false) c.answers.invariant.world so_far.1 c.in-Err.ensures.went).0

pub returns-in-Err-clause-part : goal.returns-in-Err-clause-part
returns-in-Err-clause-part c =
    let so_far = c.answers.invariant.so_far in
    let why = read_refused c.args.self.now c.answers.self c.step.new.self so_far.0 c.in-Err.fault (c.is_nothing.ensures.no c.if-is_nothing.false) c.answers.invariant.world so_far.1 c.in-Err.ensures.went in
    (why.1, why.2)
