use Rattle.dap_world.specs.Inner.Settling.{AllResent}
use Rattle.dap_world.specs.Inner.Worlds.{IsWorld}
use Rattle.dap_world.specs.Inner.Settling.{NothingSent}
use Rattle.dap_world.proofs.world.World.resend_all.Given as goal

abbrev pub invariant-loop-index : goal.invariant-loop-index
invariant-loop-index l = record { resent : AllResent l.fn.self l.self l.end l.index; rest : NothingSent l.fn.self l.self; world : IsWorld l.self }
