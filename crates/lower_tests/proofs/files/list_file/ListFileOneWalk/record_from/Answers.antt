use Rattle.std.proofs.Common.{sym, subst, arith}
use Rattle.std.proofs.lemmas.List.{length-map}
use Rattle.rec_file.specs.Files.{IsFile}
use Rattle.rec_file.proofs.ForCallers.{body_fits, number_fits, some_of}
use Rattle.lower_tests.proofs.ListLaws.{rising_test, pairs, pairs_length, index_found, gap_found, pair_at, index_is, read, here, first_here, first_after, no_first}
use Rattle.lower_tests.proofs.files.list_file.ListFileOneWalk.record_from.Goals as goal

pub returns-in-Ok-clause-lowest : goal.returns-in-Ok-clause-lowest
returns-in-Ok-clause-lowest c =
    let vs = c.self.inside.entries.items in
    let rise = rising_test (pairs vs) c.self.invariant.2 in
    let found = index_found vs c.args.number c.in-Ok.at rise (rw c.deref.ensures.value at c.in-Ok.ensures.within) (rw c.deref.ensures.value at c.in-Ok.ensures.found) in
    let pair = pair_at vs c.args.number c.in-Ok.at found in
    sym (first_here _ _ c.args.self.now c.self.view_is rise c.in-Ok.at (c.args.number, pair.0) pair.1)

pub returns-in-Ok-clause-same : goal.returns-in-Ok-clause-same
returns-in-Ok-clause-same c =
    let vs = c.self.inside.entries.items in
    let rise = rising_test (pairs vs) c.self.invariant.2 in
    let found = index_found vs c.args.number c.in-Ok.at rise (rw c.deref.ensures.value at c.in-Ok.ensures.within) (rw c.deref.ensures.value at c.in-Ok.ensures.found) in
    let read_is = read vs c.in-Ok.at c.index.result.now (omega (arith, found.in_range, length-map vs (λ v. v.0))) c.index.ensures in
    let number = index_is vs c.args.number c.in-Ok.at c.index.result.now found c.index.ensures in
    sym (rw (c.as_slice.ensures.value, ← number) (here _ _ c.args.self.now c.self.view_is rise c.in-Ok.at _ read_is))

pub returns-in-Ok-clause-within : goal.returns-in-Ok-clause-within
returns-in-Ok-clause-within c =
    let vs = c.self.inside.entries.items in
    let rise = rising_test (pairs vs) c.self.invariant.2 in
    let found = index_found vs c.args.number c.in-Ok.at rise (rw c.deref.ensures.value at c.in-Ok.ensures.within) (rw c.deref.ensures.value at c.in-Ok.ensures.found) in
    let pair = pair_at vs c.args.number c.in-Ok.at found in
    number_fits c.args.self.now c.args.number (subst IsFile c.self.view_is c.self.invariant.0) (some_of c.args.self.now c.args.number pair.0 (here _ _ c.args.self.now c.self.view_is rise c.in-Ok.at (c.args.number, pair.0) pair.1))

pub returns-in-Ok-clause-short : goal.returns-in-Ok-clause-short
returns-in-Ok-clause-short c =
    body_fits c.args.self.now c.args.number c.as_slice.result.now (subst IsFile c.self.view_is c.self.invariant.0) (sym (returns-in-Ok-clause-same c))

pub returns-in-Some-clause-lowest : goal.returns-in-Some-clause-lowest
returns-in-Some-clause-lowest c =
    let vs = c.self.inside.entries.items in
    let rise = rising_test (pairs vs) c.self.invariant.2 in
    let gap = gap_found vs c.args.number c.in-Err.at rise (rw c.deref.ensures.value at c.in-Err.ensures.within) (rw c.deref.ensures.value at c.in-Err.ensures.found) in
    let lookup = rw c.deref-in-Err.ensures.value at c.in-Some.ensures.lookup in
    let pair = read vs c.in-Err.at c.in-Some.entry.now lookup.3.0 lookup.1 in
    sym (first_after _ _ c.args.self.now c.self.view_is rise c.args.number c.in-Err.at (c.in-Some.entry.now.0, c.in-Some.entry.now.1.items) gap pair)

pub returns-in-Some-clause-same : goal.returns-in-Some-clause-same
returns-in-Some-clause-same c =
    let vs = c.self.inside.entries.items in
    let rise = rising_test (pairs vs) c.self.invariant.2 in
    let gap = gap_found vs c.args.number c.in-Err.at rise (rw c.deref.ensures.value at c.in-Err.ensures.within) (rw c.deref.ensures.value at c.in-Err.ensures.found) in
    let lookup = rw c.deref-in-Err.ensures.value at c.in-Some.ensures.lookup in
    let pair = read vs c.in-Err.at c.in-Some.entry.now lookup.3.0 lookup.1 in
    sym (rw c.as_slice-in-Some.ensures.value (here _ _ c.args.self.now c.self.view_is rise c.in-Err.at (c.in-Some.entry.now.0, c.in-Some.entry.now.1.items) pair))

pub returns-in-Some-clause-within : goal.returns-in-Some-clause-within
returns-in-Some-clause-within c =
    let vs = c.self.inside.entries.items in
    let rise = rising_test (pairs vs) c.self.invariant.2 in
    let gap = gap_found vs c.args.number c.in-Err.at rise (rw c.deref.ensures.value at c.in-Err.ensures.within) (rw c.deref.ensures.value at c.in-Err.ensures.found) in
    let lookup = rw c.deref-in-Err.ensures.value at c.in-Some.ensures.lookup in
    let pair = read vs c.in-Err.at c.in-Some.entry.now lookup.3.0 lookup.1 in
    number_fits c.args.self.now c.in-Some.entry.now.0 (subst IsFile c.self.view_is c.self.invariant.0) (some_of c.args.self.now c.in-Some.entry.now.0 c.in-Some.entry.now.1.items (here _ _ c.args.self.now c.self.view_is rise c.in-Err.at (c.in-Some.entry.now.0, c.in-Some.entry.now.1.items) pair))

pub returns-in-Some-clause-short : goal.returns-in-Some-clause-short
returns-in-Some-clause-short c =
    body_fits c.args.self.now c.in-Some.entry.now.0 c.as_slice-in-Some.result.now (subst IsFile c.self.view_is c.self.invariant.0) (sym (returns-in-Some-clause-same c))

pub returns-in-None-clause-none : goal.returns-in-None-clause-none
returns-in-None-clause-none c =
    let vs = c.self.inside.entries.items in
    let rise = rising_test (pairs vs) c.self.invariant.2 in
    let gap = gap_found vs c.args.number c.in-Err.at rise (rw c.deref.ensures.value at c.in-Err.ensures.within) (rw c.deref.ensures.value at c.in-Err.ensures.found) in
    let lookup = rw c.deref-in-Err.ensures.value at c.in-None.ensures.lookup in
    sym (no_first _ _ c.args.self.now c.self.view_is rise c.args.number c.in-Err.at gap (omega (arith, lookup.3, pairs_length vs)))
