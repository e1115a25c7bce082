use Rattle.std.proofs.Common.{subst}
use Rattle.dap_world.specs.Machine.{State}
use Rattle.dap_world.specs.Headline.{HeadlineOf}
use Rattle.dap_world.proofs.Headline.Kept.{headline_of}
use Rattle.dap_world.proofs.world.World.apply.Goals as goal

pub returns-clause-headline : goal.returns-clause-headline
returns-clause-headline c = subst (λ (s : State). HeadlineOf s) c.self.view_is (headline_of _ c.self.invariant.world)
