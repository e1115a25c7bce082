use Rattle.std.proofs.Common.{◌≡◌, ◌+◌, ◌-◌, ◌≤◌, length, drop}
use Rattle.nsp_link.specs.Coming.{with_all_taken}
use Rattle.nsp_link.specs.Limits.{max_segments}
use Rattle.nsp_link.specs.Inner.Pieces.{coming_of, leading, lent_piece, run_in}
use Rattle.nsp_link.specs.Inner.Joining.{emptied_of}
use Rattle.nsp_link.proofs.incoming.gather.Given as goal

abbrev pub invariant-loop-held : goal.invariant-loop-held
invariant-loop-held l = record {
  few : l.aside.received + length (leading (drop l.index l.ring.items)) ≤ max_segments;
  taken : with_all_taken (coming_of l.aside) (leading (drop l.index l.ring.items)) ≡ with_all_taken (emptied_of (coming_of l.incoming)) (run_in (lent_piece l.piece) l.ring.items);
}

abbrev pub decreases-loop-held : goal.decreases-loop-held
decreases-loop-held l = length l.ring.items - l.index
