use Rattle.rec_file.proofs.SequentialLaws.{numbered-empty}
use Rattle.rec_file.proofs.FileLaws.{IsFile-new}
use Rattle.rec_file.proofs.sequential.SeqFile.with_look.Goals as goal

pub invariant_of-result : goal.invariant_of-result
invariant_of-result c =
    (rw (c.new.ensures.items, numbered-empty) (IsFile-new c.args.shape c.args.look c.requires.valid c.requires.look), c.requires.sequential)

pub returns : goal.returns
returns c = rw (c.new.ensures.items, numbered-empty)
