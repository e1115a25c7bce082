use Rattle.dap_world.proofs.Headline.Kept.{headline_of}
use Rattle.dap_world.proofs.world.World.finish.Goals as goal

pub returns-clause-headline : goal.returns-clause-headline
returns-clause-headline c = headline_of _ c.sound-2.ensures
