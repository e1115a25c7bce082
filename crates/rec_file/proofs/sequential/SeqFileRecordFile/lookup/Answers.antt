use Rattle.std.proofs.Common.{length, arith, ap, subst}
use Rattle.rec_file.specs.Files.{IsFile}
use Rattle.rec_file.proofs.FileLaws.{body_fits}
use Rattle.rec_file.proofs.SequentialLaws.{found, none_past}
use Rattle.rec_file.proofs.sequential.SeqFileRecordFile.lookup.Goals as goal

pub returns-in_err-record-clause-same : goal.returns-in_err-record-clause-same
returns-in_err-record-clause-same c =
    let past = c.in_err-record.ensures.lookup.3 in
    let same = ap length c.deref.ensures.value in
    let none = none_past _ _ c.args.self.now c.self.view_is c.args.number (omega (arith, c.in_ok-checked_sub.ensures)) in
    rw c.from_residual-in_err-record.ensures none

pub returns-clause-same : goal.returns-clause-same
returns-clause-same c =
    let within = c.in_ok-record.ensures.lookup.3.0 in
    let same = ap length c.deref.ensures.value in
    rw c.as_slice.ensures.value
    (found _ _ c.args.self.now c.self.view_is c.args.number c.in_ok-checked_sub.field-0 c.in_ok-record.record.now (omega (arith, c.in_ok-checked_sub.ensures)) (omega arith)
    (rw c.deref.ensures.value at c.in_ok-record.ensures.lookup.1))

pub returns-clause-short : goal.returns-clause-short
returns-clause-short c = body_fits c.args.self.now c.args.number c.as_slice.result.now (subst IsFile c.self.view_is c.self.invariant.0) (returns-clause-same c)
