use Rattle.std.proofs.Common.{length}
use Rattle.capture_file.specs.Reading.{IsReady}
use Rattle.callers.proofs.captures.read.Given as goal

abbrev pub invariant-loop-rest : goal.invariant-loop-rest
invariant-loop-rest l = IsReady l.reading

abbrev pub decreases-loop-rest : goal.decreases-loop-rest
decreases-loop-rest l = length l.rest
