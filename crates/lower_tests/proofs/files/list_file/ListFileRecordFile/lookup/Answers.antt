use Rattle.std.proofs.Common.{subst, arith}
use Rattle.std.proofs.lemmas.List.{length-map}
use Rattle.rec_file.specs.Files.{IsFile}
use Rattle.rec_file.proofs.ForCallers.{body_fits}
use Rattle.lower_tests.proofs.ListLaws.{rising_test, index_found, gap_found, pairs, read, index_is, here, absent}
use Rattle.lower_tests.proofs.files.list_file.ListFileRecordFile.lookup.Goals as goal

pub returns-in-Ok-clause-same : goal.returns-in-Ok-clause-same
returns-in-Ok-clause-same c =
    let vs = c.self.inside.entries.items in
    let rise = rising_test (pairs vs) c.self.invariant.2 in
    let found = index_found vs c.args.number c.in-Ok.at rise (rw c.deref.ensures.value at c.in-Ok.ensures.within) (rw c.deref.ensures.value at c.in-Ok.ensures.found) in
    let pair = read vs c.in-Ok.at c.index.result.now (omega (arith, found.in_range, length-map vs (λ v. v.0))) c.index.ensures in
    let number = index_is vs c.args.number c.in-Ok.at c.index.result.now found c.index.ensures in
    rw (c.as_slice.ensures.value, ← number) (here _ _ c.args.self.now c.self.view_is rise c.in-Ok.at _ pair)

pub returns-in-Err-clause-same : goal.returns-in-Err-clause-same
returns-in-Err-clause-same c =
    let vs = c.self.inside.entries.items in
    let rise = rising_test (pairs vs) c.self.invariant.2 in
    absent _ _ c.args.self.now c.self.view_is rise c.args.number _ (gap_found vs c.args.number _ rise (rw c.deref.ensures.value at c.in-Err.ensures.within) (rw c.deref.ensures.value at c.in-Err.ensures.found))

pub returns-in-Ok-clause-short : goal.returns-in-Ok-clause-short
returns-in-Ok-clause-short c = body_fits c.args.self.now c.args.number c.as_slice.result.now (subst IsFile c.self.view_is c.self.invariant.0) (returns-in-Ok-clause-same c)
