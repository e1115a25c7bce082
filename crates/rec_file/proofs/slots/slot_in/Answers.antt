use Rattle.rec_file.proofs.SoughtLaws.{searchable, found-slot, gap-slot}
use Rattle.rec_file.proofs.slots.slot_in.Goals as goal

pub seek-requires : goal.seek-requires
seek-requires c = searchable c.args.group.now c.requires 0 0

pub returns-in-Ok : goal.returns-in-Ok
returns-in-Ok c = found-slot c.args.group.now c.requires c.args.page c.in-Ok.at c.in-Ok.ensures.found

pub returns-in-Err : goal.returns-in-Err
returns-in-Err c = gap-slot c.args.group.now c.requires c.args.page _ c.in-Err.ensures.gap
