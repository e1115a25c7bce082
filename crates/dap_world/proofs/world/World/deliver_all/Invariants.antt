use Rattle.std.proofs.Common.{◌-◌}
use Rattle.dap_world.specs.Inner.Settling.{AllCame}
use Rattle.dap_world.specs.Inner.Worlds.{IsWorld}
use Rattle.dap_world.specs.Inner.Settling.{NothingSent}
use Rattle.dap_world.proofs.world.World.deliver_all.Given as goal

abbrev pub invariant-loop-j : goal.invariant-loop-j
invariant-loop-j l = record { came : AllCame l.fn.self l.self l.end (l.j - l.first); rest : NothingSent l.fn.self l.self; world : IsWorld l.self }
