use Rattle.std.proofs.Common.{◌≡◌, ◌-◌, ◌*◌, ℕ}
use Rattle.dap_world.specs.Machine.{end_of, segments_of}
use Rattle.dap_world.specs.Inner.Worlds.{IsWorld}
use Rattle.dap_world.specs.Inner.Settling.{SameBut}
use Rattle.dap_world.specs.Inner.Settling.{Brought}
use Rattle.dap_world.proofs.world.World.send_every.Given as goal

abbrev pub invariant-segments : goal.invariant-segments
invariant-segments l = record { brought : (k : ℕ) × Brought l.fn.self l.self l.end k × (l.count ≡ 4 * k); same : SameBut l.fn.self l.self; world : IsWorld l.self }

abbrev pub decreases-segments : goal.decreases-segments
decreases-segments l = segments_of l.self.seg_size (end_of l.self l.end).handed - (end_of l.self l.end).sent
