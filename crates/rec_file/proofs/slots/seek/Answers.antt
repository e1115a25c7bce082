use Rattle.rec_file.proofs.SoughtLaws.{part-ordered, part-found, part-gap}
use Rattle.rec_file.proofs.slots.seek.Goals as goal

pub search-requires : goal.search-requires
search-requires c = part-ordered c.args.group.now c.args.page c.part-low.result.0 c.part-low.result.1 c.requires c.part-low.ensures.within

pub returns-in-Ok-clause-found : goal.returns-in-Ok-clause-found
returns-in-Ok-clause-found c = part-found c.args.group.now c.args.page c.part-low.result.0 c.part-low.result.1 c.requires c.part-low.ensures.within c.in-Ok.at c.in-Ok.ensures.found

pub returns-in-Err-clause-gap : goal.returns-in-Err-clause-gap
returns-in-Err-clause-gap c =
    part-gap c.args.group.now c.args.page c.part-low.result.0 c.part-low.result.1 c.requires c.part-low.ensures.within c.in-Err.at c.in-Err.ensures.gap c.part-low.ensures.before c.part-low.ensures.after
