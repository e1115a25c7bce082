use Rattle.std.proofs.Common.{◌-◌, length, take}
use Rattle.dap_follow.specs.Keeping.Room.{AreTaken}
use Rattle.dap_follow.proofs.streams.Streams.taken_since.Given as goal

-- what the streams before the index take
abbrev pub invariant-loop-at : goal.invariant-loop-at
invariant-loop-at l = AreTaken l.coming l.packet (take l.at l.self.live.entries) l.taken

abbrev pub decreases-loop-at : goal.decreases-loop-at
decreases-loop-at l = length l.self.live.entries - l.at
