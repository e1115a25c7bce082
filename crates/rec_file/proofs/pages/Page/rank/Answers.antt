use Rattle.rec_file.proofs.PackedLaws.{opened, rank_is}
use Rattle.rec_file.proofs.pages.Page.rank.Goals as goal

pub returns : goal.returns
returns c = rank_is (opened c.self.invariant c.self.view_is) c.args.at c.requires
