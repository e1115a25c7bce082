use Rattle.std.proofs.Common.{◌≡◌, ◌≤◌, ◌+◌, length}
use Rattle.dap_listing.specs.Listing.{faults_from, line_limit}
use Rattle.dap_listing.proofs.listing.check_lines.Given as goal

abbrev pub invariant-loop-line : goal.invariant-loop-line
invariant-loop-line l = record {
  counted : l.at + length l.rest ≤ 1 + length l.input;
  clean : faults_from (line_limit l.listed) 1 l.input ≡ faults_from (line_limit l.listed) l.at l.rest;
}

abbrev pub decreases-loop-line : goal.decreases-loop-line
decreases-loop-line l = length l.rest
