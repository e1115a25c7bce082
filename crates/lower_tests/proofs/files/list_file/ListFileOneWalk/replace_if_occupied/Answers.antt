use Rattle.std.proofs.Common.{◌≡◌, slice_get, Some, is_some, sym, ap, subst, arith}
use Rattle.std.proofs.lemmas.List.{length-map, map-set}
use Rattle.rec_file.specs.Files.{IsFile}
use Rattle.rec_file.proofs.ForCallers.{IsFile-replaced, some_of, wanted}
use Rattle.lower_tests.proofs.Edits.{rising-set}
use Rattle.lower_tests.proofs.ListLaws.{rising_test, test_rising, pairs, index_found, gap_found, pair_at, index_is, read, here, absent, set_is}
use Rattle.lower_tests.proofs.files.list_file.ListFileOneWalk.replace_if_occupied.Goals as goal

pub returns-in_err-body-in-Ok-clause-wanted : goal.returns-in_err-body-in-Ok-clause-wanted
returns-in_err-body-in-Ok-clause-wanted c =
    let vs = c.self.inside.entries.items in
    let rise = rising_test (pairs vs) c.self.invariant.2 in
    let found = index_found vs c.args.number c.in-Ok.at rise (rw c.deref.ensures.value at c.in-Ok.ensures.within) (rw c.deref.ensures.value at c.in-Ok.ensures.found) in
    let pair = pair_at vs c.args.number c.in-Ok.at found in
    wanted _ (some_of c.args.self.now c.args.number pair.0 (here _ _ c.args.self.now c.self.view_is rise c.in-Ok.at (c.args.number, pair.0) pair.1))

pub invariant_of-self : goal.invariant_of-self
invariant_of-self c =
    let vs = c.self.inside.entries.items in
    let rise = rising_test (pairs vs) c.self.invariant.2 in
    let found = index_found vs c.args.number c.in-Ok.at rise (rw c.deref.ensures.value at c.in-Ok.ensures.within) (rw c.deref.ensures.value at c.in-Ok.ensures.found) in
    let pair = pair_at vs c.args.number c.in-Ok.at found in
    let number = index_is vs c.args.number c.in-Ok.at c.index_mut.result.now found c.index_mut.ensures.value in
    let here_is : slice_get (pairs vs) c.in-Ok.at ≡ Some (c.args.number, c.index_mut.result.now.1.items) =
    subst (λ n. slice_get (pairs vs) c.in-Ok.at ≡ Some (n, c.index_mut.result.now.1.items)) number
    (read vs c.in-Ok.at c.index_mut.result.now (omega (arith, found.in_range, length-map vs (λ v. v.0))) c.index_mut.ensures.value) in
    let file = set_is _ _ c.args.self.now c.self.view_is rise c.in-Ok.at (c.args.number, c.index_mut.result.now.1.items) c.args.body.now here_is in
    rw (map-set, number, c.in_ok-body-in-Ok.ensures.items) (
      subst IsFile (sym file) (IsFile-replaced c.args.self.now c.args.number c.args.body.now (subst IsFile c.self.view_is c.self.invariant.0) (some_of c.args.self.now c.args.number pair.0 (here _ _ c.args.self.now c.self.view_is rise c.in-Ok.at (c.args.number, pair.0) pair.1)) c.requires.length),
      c.self.invariant.1,
      test_rising _ (rising-set _ c.in-Ok.at (c.args.number, c.index_mut.result.now.1.items) c.args.body.now rise here_is),
    )

pub returns-in_ok-body-in-Ok-clause-occupied : goal.returns-in_ok-body-in-Ok-clause-occupied
returns-in_ok-body-in-Ok-clause-occupied c =
    let vs = c.self.inside.entries.items in
    let rise = rising_test (pairs vs) c.self.invariant.2 in
    let found = index_found vs c.args.number c.in-Ok.at rise (rw c.deref.ensures.value at c.in-Ok.ensures.within) (rw c.deref.ensures.value at c.in-Ok.ensures.found) in
    let pair = pair_at vs c.args.number c.in-Ok.at found in
    sym (some_of c.args.self.now c.args.number pair.0 (here _ _ c.args.self.now c.self.view_is rise c.in-Ok.at (c.args.number, pair.0) pair.1))

pub returns-in_ok-body-in-Ok-clause-ok : goal.returns-in_ok-body-in-Ok-clause-ok
returns-in_ok-body-in-Ok-clause-ok c =
    let vs = c.self.inside.entries.items in
    let rise = rising_test (pairs vs) c.self.invariant.2 in
    let found = index_found vs c.args.number c.in-Ok.at rise (rw c.deref.ensures.value at c.in-Ok.ensures.within) (rw c.deref.ensures.value at c.in-Ok.ensures.found) in
    let number = index_is vs c.args.number c.in-Ok.at c.index_mut.result.now found c.index_mut.ensures.value in
    let here_is : slice_get (pairs vs) c.in-Ok.at ≡ Some (c.args.number, c.index_mut.result.now.1.items) =
    subst (λ n. slice_get (pairs vs) c.in-Ok.at ≡ Some (n, c.index_mut.result.now.1.items)) number
    (read vs c.in-Ok.at c.index_mut.result.now (omega (arith, found.in_range, length-map vs (λ v. v.0))) c.index_mut.ensures.value) in
    let file = set_is _ _ c.args.self.now c.self.view_is rise c.in-Ok.at (c.args.number, c.index_mut.result.now.1.items) c.args.body.now here_is in
    rw (map-set, number, c.in_ok-body-in-Ok.ensures.items) file

pub returns-in-Err-clause-occupied : goal.returns-in-Err-clause-occupied
returns-in-Err-clause-occupied c =
    let vs = c.self.inside.entries.items in
    let rise = rising_test (pairs vs) c.self.invariant.2 in
    let gap = gap_found vs c.args.number c.in-Err.field-0 rise (rw c.deref.ensures.value at c.in-Err.ensures.within) (rw c.deref.ensures.value at c.in-Err.ensures.found) in
    ap is_some (absent _ _ c.args.self.now c.self.view_is rise c.args.number c.in-Err.field-0 gap)
