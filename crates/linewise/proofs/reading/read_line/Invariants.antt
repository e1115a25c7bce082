use Rattle.std.proofs.Common.{◌≢◌, ℕ, List, All}
use Rattle.std.specs.Io.KnownBytes.{Consumes}
use Rattle.linewise.specs.Inner.Kept.{HoldsLine}
use Rattle.linewise.proofs.reading.read_line.Given as goal

abbrev pub invariant-loop : goal.invariant-loop
invariant-loop g l = (read : List ℕ) × HoldsLine l.line read × All (λ byte. byte ≢ 10) read
    × Consumes (g.R.Read.remaining l.fn.reader) (g.R.Read.remaining l.reader) read
