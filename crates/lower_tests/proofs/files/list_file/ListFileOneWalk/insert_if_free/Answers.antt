use Rattle.std.proofs.Common.{is_none, sym, ap, subst}
use Rattle.rec_file.specs.Files.{IsFile}
use Rattle.rec_file.proofs.ForCallers.{IsFile-placed, not_none, rising-insert, some_of, wanted}
use Rattle.lower_tests.proofs.Edits.{map_insert}
use Rattle.lower_tests.proofs.ListLaws.{rising_test, test_rising, pairs, index_found, gap_found, pair_at, here, absent, placed}
use Rattle.lower_tests.proofs.files.list_file.ListFileOneWalk.insert_if_free.Goals as goal

pub returns-in_err-body-in-Err-clause-wanted : goal.returns-in_err-body-in-Err-clause-wanted
returns-in_err-body-in-Err-clause-wanted c =
    let vs = c.self.inside.entries.items in
    let rise = rising_test (pairs vs) c.self.invariant.2 in
    let gap = gap_found vs c.args.number c.in-Err.at rise (rw c.deref.ensures.value at c.in-Err.ensures.within) (rw c.deref.ensures.value at c.in-Err.ensures.found) in
    wanted _ (sym (absent _ _ c.args.self.now c.self.view_is rise c.args.number c.in-Err.at gap))

pub returns-in_err-insert-in-Err-clause-wanted : goal.returns-in_err-insert-in-Err-clause-wanted
returns-in_err-insert-in-Err-clause-wanted c =
    let vs = c.self.inside.entries.items in
    let rise = rising_test (pairs vs) c.self.invariant.2 in
    let gap = gap_found vs c.args.number c.in-Err.at rise (rw c.deref.ensures.value at c.in-Err.ensures.within) (rw c.deref.ensures.value at c.in-Err.ensures.found) in
    wanted _ (sym (absent _ _ c.args.self.now c.self.view_is rise c.args.number c.in-Err.at gap))

pub invariant_of-self-in-Err : goal.invariant_of-self-in-Err
invariant_of-self-in-Err c =
    let vs = c.self.inside.entries.items in
    let rise = rising_test (pairs vs) c.self.invariant.2 in
    let gap = gap_found vs c.args.number c.in-Err.at rise (rw c.deref.ensures.value at c.in-Err.ensures.within) (rw c.deref.ensures.value at c.in-Err.ensures.found) in
    let file = placed _ _ c.args.self.now c.self.view_is rise c.args.number c.in-Err.at c.args.body.now gap in
    rw (c.in_ok-insert-in-Err.ensures.items, map_insert, c.in_ok-body-in-Err.ensures.items) (
      subst IsFile (sym file) (IsFile-placed c.args.self.now c.args.number c.args.body.now (subst IsFile c.self.view_is c.self.invariant.0) c.requires.above c.requires.within c.requires.next c.requires.length),
      c.self.invariant.1,
      test_rising _ (rising-insert _ c.args.number c.in-Err.at c.args.body.now rise gap),
    )

pub returns-in-Ok-clause-free : goal.returns-in-Ok-clause-free
returns-in-Ok-clause-free c =
    let vs = c.self.inside.entries.items in
    let rise = rising_test (pairs vs) c.self.invariant.2 in
    let found = index_found vs c.args.number c.in-Ok.field-0 rise (rw c.deref.ensures.value at c.in-Ok.ensures.within) (rw c.deref.ensures.value at c.in-Ok.ensures.found) in
    let pair = pair_at vs c.args.number c.in-Ok.field-0 found in
    not_none _ (some_of c.args.self.now c.args.number pair.0 (here _ _ c.args.self.now c.self.view_is rise c.in-Ok.field-0 (c.args.number, pair.0) pair.1))

pub returns-in_ok-insert-in-Err-clause-free : goal.returns-in_ok-insert-in-Err-clause-free
returns-in_ok-insert-in-Err-clause-free c =
    let vs = c.self.inside.entries.items in
    let rise = rising_test (pairs vs) c.self.invariant.2 in
    let gap = gap_found vs c.args.number c.in-Err.at rise (rw c.deref.ensures.value at c.in-Err.ensures.within) (rw c.deref.ensures.value at c.in-Err.ensures.found) in
    ap is_none (absent _ _ c.args.self.now c.self.view_is rise c.args.number c.in-Err.at gap)

pub returns-in_ok-insert-in-Err-clause-ok : goal.returns-in_ok-insert-in-Err-clause-ok
returns-in_ok-insert-in-Err-clause-ok c =
    let vs = c.self.inside.entries.items in
    let rise = rising_test (pairs vs) c.self.invariant.2 in
    let gap = gap_found vs c.args.number c.in-Err.at rise (rw c.deref.ensures.value at c.in-Err.ensures.within) (rw c.deref.ensures.value at c.in-Err.ensures.found) in
    rw (c.in_ok-insert-in-Err.ensures.items, map_insert, c.in_ok-body-in-Err.ensures.items)
    (placed _ _ c.args.self.now c.self.view_is rise c.args.number c.in-Err.at c.args.body.now gap)
