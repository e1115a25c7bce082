use Rattle.std.proofs.Common.{length}
use Rattle.rec_file.specs.Files.{records_from}
use Rattle.rec_file.specs.AnyFiles.{any_value}
use Rattle.dap_accessed.proofs.Fetching.{GoesOn}
use Rattle.dap_accessed.proofs.session.Session.batch.Given as goal

abbrev pub invariant-loop-number : goal.invariant-loop-number
invariant-loop-number l = GoesOn l.self.limit (any_value l.file) l.stream.next l.next l.answers

abbrev pub decreases-loop-number : goal.decreases-loop-number
decreases-loop-number l = length (records_from (any_value l.file).records l.next)
