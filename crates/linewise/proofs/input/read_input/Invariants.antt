use Rattle.std.proofs.Common.{◌≡◌, ◌≤◌, ◌-◌, length, vec_len}
use Rattle.std.specs.Io.KnownBytes.{Consumes}
use Rattle.linewise.proofs.input.read_input.Given as goal

abbrev pub invariant-chunks : goal.invariant-chunks
invariant-chunks g l = record {
  counted : l.count ≡ vec_len l.input;
  small : l.count ≤ 16777216;
  chunk : length l.chunk ≡ 65536;
  consumed : Consumes (g.R.Read.remaining l.initial.reader) (g.R.Read.remaining l.reader) l.input.items;
}

abbrev pub decreases-chunks : goal.decreases-chunks
decreases-chunks g l = 16777216 - l.count
