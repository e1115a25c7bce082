use Rattle.std.proofs.Common.{is_some, sym, ap, subst}
use Rattle.rec_file.specs.Files.{IsFile}
use Rattle.rec_file.proofs.ForCallers.{IsFile-removed, rising-remove, some_of}
use Rattle.lower_tests.proofs.Edits.{map_remove}
use Rattle.lower_tests.proofs.ListLaws.{rising_test, test_rising, pairs, index_found, gap_found, pair_at, here, absent, less}
use Rattle.lower_tests.proofs.files.list_file.ListFileOneWalk.remove_if_occupied.Goals as goal

pub invariant_of-self : goal.invariant_of-self
invariant_of-self c =
    let vs = c.self.inside.entries.items in
    let rise = rising_test (pairs vs) c.self.invariant.2 in
    let found = index_found vs c.args.number c.in-Ok.at rise (rw c.deref.ensures.value at c.in-Ok.ensures.within) (rw c.deref.ensures.value at c.in-Ok.ensures.found) in
    let pair = pair_at vs c.args.number c.in-Ok.at found in
    let file = less _ _ c.args.self.now c.self.view_is rise c.in-Ok.at (c.args.number, pair.0) pair.1 in
    rw (c.remove.ensures.items, map_remove) (
      subst IsFile (sym file) (IsFile-removed c.args.self.now c.args.number (subst IsFile c.self.view_is c.self.invariant.0) c.requires.relative),
      c.self.invariant.1,
      test_rising _ (rising-remove _ c.in-Ok.at rise),
    )

pub returns-in-Ok-clause-occupied : goal.returns-in-Ok-clause-occupied
returns-in-Ok-clause-occupied c =
    let vs = c.self.inside.entries.items in
    let rise = rising_test (pairs vs) c.self.invariant.2 in
    let found = index_found vs c.args.number c.in-Ok.at rise (rw c.deref.ensures.value at c.in-Ok.ensures.within) (rw c.deref.ensures.value at c.in-Ok.ensures.found) in
    let pair = pair_at vs c.args.number c.in-Ok.at found in
    sym (some_of c.args.self.now c.args.number pair.0 (here _ _ c.args.self.now c.self.view_is rise c.in-Ok.at (c.args.number, pair.0) pair.1))

pub returns-in-Ok-clause-ok : goal.returns-in-Ok-clause-ok
returns-in-Ok-clause-ok c =
    let vs = c.self.inside.entries.items in
    let rise = rising_test (pairs vs) c.self.invariant.2 in
    let found = index_found vs c.args.number c.in-Ok.at rise (rw c.deref.ensures.value at c.in-Ok.ensures.within) (rw c.deref.ensures.value at c.in-Ok.ensures.found) in
    let pair = pair_at vs c.args.number c.in-Ok.at found in
    let file = less _ _ c.args.self.now c.self.view_is rise c.in-Ok.at (c.args.number, pair.0) pair.1 in
    rw (c.remove.ensures.items, map_remove) file

pub returns-in-Err-clause-occupied : goal.returns-in-Err-clause-occupied
returns-in-Err-clause-occupied c =
    let vs = c.self.inside.entries.items in
    let rise = rising_test (pairs vs) c.self.invariant.2 in
    let gap = gap_found vs c.args.number c.in-Err.field-0 rise (rw c.deref.ensures.value at c.in-Err.ensures.within) (rw c.deref.ensures.value at c.in-Err.ensures.found) in
    ap is_some (absent _ _ c.args.self.now c.self.view_is rise c.args.number c.in-Err.field-0 gap)
