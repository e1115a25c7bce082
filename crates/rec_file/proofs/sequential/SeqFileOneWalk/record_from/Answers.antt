use Rattle.std.proofs.Common.{◌-◌, length, refl, ap, sym, subst, arith}
use Rattle.rec_file.specs.Files.{IsFile}
use Rattle.rec_file.proofs.FileLaws.{body_fits}
use Rattle.rec_file.proofs.SequentialLaws.{fits, first_is, found, no_first}
use Rattle.rec_file.proofs.sequential.SeqFileOneWalk.record_from.Goals as goal

pub returns-in_err-record-clause-none : goal.returns-in_err-record-clause-none
returns-in_err-record-clause-none c =
    let past = c.in_err-record.ensures.lookup.3 in
    let same = ap length c.deref.ensures.value in
    rw c.from_residual.ensures (sym (no_first _ _ c.args.self.now c.self.view_is c.args.number (λ j ge least. omega arith)))

pub returns-clause-lowest : goal.returns-clause-lowest
returns-clause-lowest c =
    let within = c.in_ok-record.ensures.lookup.3.0 in
    let same = ap length c.deref.ensures.value in
    sym (first_is _ _ c.args.self.now c.self.view_is c.args.number c.max-first.result (omega arith) (omega arith) (λ h. omega arith) (omega arith))

pub returns-clause-same : goal.returns-clause-same
returns-clause-same c =
    let within = c.in_ok-record.ensures.lookup.3.0 in
    let same = ap length c.deref.ensures.value in
    rw c.as_slice.ensures.value
    (sym (found _ _ c.args.self.now c.self.view_is c.max-first.result (c.max-first.result - 1) c.in_ok-record.record.now (omega arith) (omega arith)
    (rw c.deref.ensures.value at c.in_ok-record.ensures.lookup.1)))

pub returns-clause-within : goal.returns-clause-within
returns-clause-within c =
    let within = c.in_ok-record.ensures.lookup.3.0 in
    let same = ap length c.deref.ensures.value in
    let most = fits _ _ c.args.self.now c.self.view_is (length c.self.inside.records.items) refl c.self.invariant.0 in
    omega arith

pub returns-clause-short : goal.returns-clause-short
returns-clause-short c = body_fits c.args.self.now c.max-first.result c.as_slice.result.now (subst IsFile c.self.view_is c.self.invariant.0) (sym (returns-clause-same c))
