use Rattle.std.proofs.Common.{◌-◌, length, ap, subst, arith}
use Rattle.rec_file.specs.Files.{IsFile}
use Rattle.rec_file.proofs.ForCallers.{number_fits, some_of}
use Rattle.lower_tests.proofs.ListLaws.{rising_test, read, here, last_here, none_last, pairs, pairs_length, no_items}
use Rattle.lower_tests.proofs.files.list_file.ListFileRecordFile.highest.Goals as goal

pub returns-in-Some-clause-same : goal.returns-in-Some-clause-same
returns-in-Some-clause-same c =
    let item = rw c.deref.ensures.value at c.in-Some.ensures.item in
    let pair = read c.self.inside.entries.items _ c.in-Some.entry.now (omega (arith, item.3.0)) item.1 in
    last_here _ _ c.args.self.now c.self.view_is (rising_test _ c.self.invariant.2) (length c.self.inside.entries.items - 1) (c.in-Some.entry.now.0, c.in-Some.entry.now.1.items) pair (omega (arith, item.3.0, pairs_length c.self.inside.entries.items))

pub returns-in-Some-clause-within : goal.returns-in-Some-clause-within
returns-in-Some-clause-within c =
    let item = rw c.deref.ensures.value at c.in-Some.ensures.item in
    let pair = read c.self.inside.entries.items _ c.in-Some.entry.now (omega (arith, item.3.0)) item.1 in
    number_fits c.args.self.now c.in-Some.entry.now.0 (subst IsFile c.self.view_is c.self.invariant.0) (some_of c.args.self.now c.in-Some.entry.now.0 c.in-Some.entry.now.1.items (here _ _ c.args.self.now c.self.view_is (rising_test _ c.self.invariant.2) (length c.self.inside.entries.items - 1) (c.in-Some.entry.now.0, c.in-Some.entry.now.1.items) pair))

pub returns-in-None-clause-same : goal.returns-in-None-clause-same
returns-in-None-clause-same c =
    let item = rw c.deref.ensures.value at c.in-None.ensures.item in
    none_last _ _ c.args.self.now c.self.view_is (rising_test _ c.self.invariant.2) (ap pairs (no_items c.self.inside.entries.items (omega (arith, item.3))))
