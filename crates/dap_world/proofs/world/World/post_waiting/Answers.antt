use Rattle.std.proofs.Common.{◌∙◌, ap, subst, Err}
use Rattle.std.specs.Prelude.{Result}
use Rattle.dap_events.specs.declared.event.Event.TheVariants as event
use Rattle.dap_events.specs.declared.event.Step.{Step}
use Rattle.dap_events.specs.declared.event.WorldFault.{WorldFault}
use Rattle.dap_world.specs.Runs.{ComesTo}
use Rattle.dap_world.proofs.Stretch.Exhausting.{post_fault}
use Rattle.dap_world.proofs.Steps.Others.{refused_same}
use Rattle.dap_world.proofs.Stretch.Posting.{posted_one, posted_none, post_refused}
use Rattle.dap_world.proofs.world.World.post_waiting.Goals as goal

pub returns-in-Ok-clause-ok : goal.returns-in-Ok-clause-ok
returns-in-Ok-clause-ok c = (posted_one c.args.self.now c.step.new.self c.args.end c.in-Ok._step c.in-Ok.ensures.went, c.in-Ok.ensures.world)

pub returns-then-is_nothing-clause-ok : goal.returns-then-is_nothing-clause-ok
returns-then-is_nothing-clause-ok c = (
  posted_none c.args.self.now c.step.new.self c.args.end
      (subst (λ (r : Result Step WorldFault). ComesTo c.args.self.now (event.Post c.args.end) r c.step.new.self) (c.in-Err.is ∙ ap (λ (f : WorldFault). Err f) (c.is_nothing.ensures.yes c.if-is_nothing.true)) c.step.ensures.went),
  c.step.ensures.world,
)

pub returns-clause-err : goal.returns-clause-err
returns-clause-err c = (
  post_fault c.args.self.now c.step.new.self c.args.end c.in-Err.fault (c.is_nothing.ensures.no c.if-is_nothing.false) c.requires.due c.in-Err.ensures.went,
  refused_same c.args.self.now c.step.new.self (event.Post c.args.end) c.in-Err.fault c.in-Err.ensures.went,
)

pub returns-clause-waits : goal.returns-clause-waits
returns-clause-waits c = post_refused c.args.self.now c.step.new.self c.args.end c.in-Err.fault (c.is_nothing.ensures.no c.if-is_nothing.false) c.in-Err.ensures.went
