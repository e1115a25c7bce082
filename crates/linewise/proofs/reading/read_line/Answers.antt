use Rattle.std.proofs.Common.{◌++◌}
use Rattle.std.proofs.BufReadLemmas.{Consumes_through}
use Rattle.linewise.proofs.reading.read_line.Goals as goal

pub returns-then-branch-clause-whole : goal.returns-then-branch-clause-whole
returns-then-branch-clause-whole g c =
    let (read, holds, all, came) = c.loop.invariant in
    let step = c.in_ok-take_some.ensures.some in
    let done = c.if-branch.true in
    let whole = Consumes_through 10 _ _ _ read step.bytes came all step.taken step.stops (step.ends done) (step.end done) in
    (read ++ step.bytes, step.kept read holds, whole.0, whole.1)
