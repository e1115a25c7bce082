use Rattle.rec_file.proofs.SoughtLaws.{searchable, rest-found, rest-gap}
use Rattle.rec_file.proofs.slots.rest_from.Goals as goal

pub seek-requires : goal.seek-requires
seek-requires c = searchable c.args.group.now c.requires 0 0

pub returns-in-Ok : goal.returns-in-Ok
returns-in-Ok c = rest-found c.args.group.now c.args.page c.in-Ok.at c.requires c.in-Ok.ensures.found

pub returns-in-Err : goal.returns-in-Err
returns-in-Err c = rest-gap c.args.group.now c.args.page c.in-Err.at c.in-Err.ensures.gap
