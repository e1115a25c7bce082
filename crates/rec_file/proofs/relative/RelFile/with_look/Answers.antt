use Rattle.std.proofs.Common.{refl}
use Rattle.rec_file.proofs.FileLaws.{IsFile-new}
use Rattle.rec_file.proofs.relative.RelFile.with_look.Goals as goal

pub invariant_of-result : goal.invariant_of-result
invariant_of-result c =
    rw c.new.ensures (IsFile-new c.args.shape c.args.look c.requires.valid c.requires.look, c.requires.relative, refl, tt, tt, rw c.new-2.ensures.empty refl)
