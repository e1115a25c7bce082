use Rattle.std.proofs.Common.{subst}
use Rattle.dap_world.specs.Machine.{State}
use Rattle.dap_world.specs.Inner.Worlds.{IsWorld}
use Rattle.dap_world.proofs.world.World.sound.Goals as goal

pub returns : goal.returns
returns c = subst (λ (s : State). IsWorld s) c.self.view_is c.self.invariant.world
