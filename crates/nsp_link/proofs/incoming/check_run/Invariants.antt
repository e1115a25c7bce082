use Rattle.std.proofs.Common.{◌≡◌, ◌+◌, ◌-◌, ◌≤◌, length, drop}
use Rattle.std.specs.Prelude.{unwrap_or}
use Rattle.nsp_link.specs.Inner.Pieces.{coming_of, leading, lent_piece, run_in}
use Rattle.nsp_link.proofs.Runs.{Looked}
use Rattle.nsp_link.proofs.incoming.check_run.Given as goal

abbrev pub invariant-loop-held : goal.invariant-loop-held
invariant-loop-held l = record {
  count : l.count + length (leading (drop l.count l.ring.items)) ≡ 1 + length (leading (drop 1 l.ring.items));
  short : unwrap_or l.begun 0 ≤ l.limit;
  looked : Looked l.limit (coming_of l.incoming) (run_in (lent_piece l.piece) l.ring.items) l.begun (leading (drop l.count l.ring.items));
}

abbrev pub decreases-loop-held : goal.decreases-loop-held
decreases-loop-held l = length l.ring.items - l.count
