use Rattle.std.proofs.Common.{◌∙◌, subst}
use Rattle.dap_world.specs.Machine.{State}
use Rattle.dap_world.specs.Headline.{HeadlineOf}
use Rattle.dap_world.specs.Inner.WorldView.{parts_of}
use Rattle.dap_world.proofs.Headline.Kept.{files_are, headline_of}
use Rattle.dap_world.proofs.world.World.files.Goals as goal

pub returns-clause-files : goal.returns-clause-files
returns-clause-files c = rw (← c.self.view_is) (c.files.ensures.held ∙ files_are (parts_of c.self.inside) c.self.invariant.plain_b c.self.invariant.serving.1.serving)

pub returns-clause-headline : goal.returns-clause-headline
returns-clause-headline c = subst (λ (s : State). HeadlineOf s) c.self.view_is (headline_of _ c.self.invariant.world)
