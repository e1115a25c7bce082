use Rattle.std.proofs.Common.{◌≡◌, take}
use Rattle.dap_world.specs.Inner.Worlds.{IsWorld}
use Rattle.dap_world.specs.Settling.{AllDone}
use Rattle.dap_world.specs.Inner.Settling.{IsQuiet, RunsTo}
use Rattle.dap_world.proofs.world.World.direct_all.Given as goal

abbrev pub invariant-loop-index : goal.invariant-loop-index
invariant-loop-index l = record { done : AllDone (take l.index l.requests) l.self; ran : RunsTo l.fn.self l.self; quiet : IsQuiet l.self; world : IsWorld l.self; still : l.index ≡ 0 → l.self ≡ l.fn.self }
