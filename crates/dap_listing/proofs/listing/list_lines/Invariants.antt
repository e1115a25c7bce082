use Rattle.std.proofs.Common.{◌≡◌, ◌≤◌, ◌+◌, ◌++◌, ℕ, List, length}
use Rattle.dap_listing.specs.Listing.{CaptureLines, captures, faults_from, line_limit}
use Rattle.dap_listing.proofs.listing.list_lines.Given as goal

abbrev pub invariant-loop-line : goal.invariant-loop-line
invariant-loop-line l = record {
  counted : l.at + length l.rest ≤ 1 + length l.input;
  numbered : l.number ≤ l.at;
  room : length l.room.items ≡ line_limit l.listed;
  clean : faults_from (line_limit l.listed) 1 l.input ≡ faults_from (line_limit l.listed) l.at l.rest;
  listing : (more : List ℕ) → CaptureLines l.listed l.number (captures (line_limit l.listed) l.rest) more
      → CaptureLines l.listed 1 (captures (line_limit l.listed) l.input) (l.text.items ++ more);
}

abbrev pub decreases-loop-line : goal.decreases-loop-line
decreases-loop-line l = length l.rest
