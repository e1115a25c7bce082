use Rattle.rec_file.proofs.RecordsLaws.{records_step, no_records}
use Rattle.rec_file.proofs.files.first_record.Goals as goal

pub returns-in_err-first-clause-none : goal.returns-in_err-first-clause-none
returns-in_err-first-clause-none g c = rw c.from_residual.ensures (no_records _ _ c.in_err-first.ensures.none)

pub returns-clause-some : goal.returns-clause-some
returns-clause-some g c = records_step _ _ _ _ c.in_ok-first.ensures.lowest c.in_ok-first.ensures.same
