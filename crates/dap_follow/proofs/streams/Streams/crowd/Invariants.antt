use Rattle.std.proofs.Common.{◌-◌, ◌^◌}
use Rattle.dap_follow.proofs.TakenLemmas.{AreCrowded}
use Rattle.dap_follow.proofs.streams.Streams.crowd.Given as goal

-- the streams that came last before are among those that end
abbrev pub invariant-loop-taken : goal.invariant-loop-taken
invariant-loop-taken l = AreCrowded l.coming l.self.live.entries l.since

abbrev pub decreases-loop-taken : goal.decreases-loop-taken
decreases-loop-taken l = 2 ^ 64 - l.since
