use Rattle.std.proofs.Common.{◌-◌, length}
use Rattle.dap_world.specs.Machine.{sent_by}
use Rattle.dap_world.specs.Inner.Settling.{Served}
use Rattle.dap_world.specs.Inner.Worlds.{IsWorld}
use Rattle.dap_world.proofs.world.World.serve_every.Given as goal

abbrev pub invariant-messages : goal.invariant-messages
invariant-messages l = record { done : Served l.fn.self l.self l.count (l.self.served - l.fn.self.served); world : IsWorld l.self }

abbrev pub decreases-messages : goal.decreases-messages
decreases-messages l = length (sent_by l.self.a) - l.self.served
