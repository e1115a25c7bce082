use Rattle.dap_world.proofs.Headline.Kept.{headline_of}
use Rattle.dap_world.proofs.Stretch.Resting.{no_work}
use Rattle.dap_world.proofs.world.World.settle.Goals as goal

pub returns-clause-headline : goal.returns-clause-headline
returns-clause-headline c = headline_of _ c.sound-2.ensures

pub returns-clause-work : goal.returns-clause-work
returns-clause-work c = no_work c.args.self.now c.settle_end-result.new.self c.settle_end-result.ensures.rest

pub returns-clause-handed : goal.returns-clause-handed
returns-clause-handed c = c.settle_end-result.ensures.rest.same.handed
