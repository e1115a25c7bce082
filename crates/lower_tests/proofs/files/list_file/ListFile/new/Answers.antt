use Rattle.std.proofs.Common.{refl}
use Rattle.rec_file.proofs.ForCallers.{IsFile-empty}
use Rattle.lower_tests.proofs.ListLaws.{list-empty}
use Rattle.lower_tests.proofs.files.list_file.ListFile.new.Goals as goal

pub invariant_of-result : goal.invariant_of-result
invariant_of-result c =
    rw c.new.ensures.items (rw list-empty (IsFile-empty c.args.shape c.requires.valid), c.requires.relative, refl)

pub returns : goal.returns
returns c = rw (c.new.ensures.items, list-empty)
