use Rattle.std.proofs.Common.{◌≡◌, ◌<◌, ◌-◌, length}
use Rattle.std.specs.Prelude.{◌⊎◌}
use Rattle.dap_msg.specs.Blocked.{bodies}
use Rattle.dap_world.proofs.Headline.Splits.{SplitSoFar}
use Rattle.dap_world.proofs.splitting.split_one.Given as goal

abbrev pub invariant-items : goal.invariant-items
invariant-items l = record {
  offset : (l.at < length l.message) ⊎ (l.at ≡ 0);
  so_far : SplitSoFar l.message l.at (bodies l.initial.out.items) (bodies l.out.items);
}

abbrev pub decreases-items : goal.decreases-items
decreases-items l = length l.message - l.at
