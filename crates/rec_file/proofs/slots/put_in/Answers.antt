use Rattle.std.proofs.Common.{ap, sym, ◌∙◌}
use Rattle.rec_file.specs.Inner.Slots.{with_slot}
use Rattle.rec_file.proofs.FileLaws.{wanted}
use Rattle.rec_file.proofs.SoughtLaws.{searchable, read-slot, with-found, gap-slot, with-gap}
use Rattle.rec_file.proofs.slots.put_in.Goals as goal

pub seek-requires : goal.seek-requires
seek-requires c = rw c.deref.ensures.value (searchable c.args.group.now.items c.requires 0 0)

pub returns-in-Ok-clause-had : goal.returns-in-Ok-clause-had
returns-in-Ok-clause-had c =
    read-slot c.args.group.now.items c.requires c.args.page c.in-Ok.at (rw c.deref.ensures.value at c.in-Ok.ensures.found) c.index.result.now c.index.ensures

pub returns-in-Ok-clause-ok : goal.returns-in-Ok-clause-ok
returns-in-Ok-clause-ok c = with-found c.args.group.now.items c.requires c.args.page c.in-Ok.at (rw c.deref.ensures.value at c.in-Ok.ensures.found) c.args.pages.now.vacant_key

pub returns-in_ok-insert-in-Err-clause-had : goal.returns-in_ok-insert-in-Err-clause-had
returns-in_ok-insert-in-Err-clause-had c = gap-slot c.args.group.now.items c.requires c.args.page c.in-Err.at (rw c.deref.ensures.value at c.in-Err.ensures.gap)

pub returns-in_ok-insert-in-Err-clause-ok : goal.returns-in_ok-insert-in-Err-clause-ok
returns-in_ok-insert-in-Err-clause-ok c =
    c.in_ok-insert-in-Err.ensures.items
    ∙ with-gap c.args.group.now.items c.requires c.args.page c.in-Err.at (rw c.deref.ensures.value at c.in-Err.ensures.gap) c.in_ok-slot-in-Err.slot
    ∙ ap (λ slot. with_slot c.args.group.now.items c.args.page slot) c.in_ok-slot-in-Err.ensures.slot

pub returns-in_err-slot-in-Err-clause-wanted : goal.returns-in_err-slot-in-Err-clause-wanted
returns-in_err-slot-in-Err-clause-wanted c =
    wanted _ (sym (gap-slot c.args.group.now.items c.requires c.args.page c.in-Err.at (rw c.deref.ensures.value at c.in-Err.ensures.gap)))

pub returns-in_err-insert-in-Err-clause-wanted : goal.returns-in_err-insert-in-Err-clause-wanted
returns-in_err-insert-in-Err-clause-wanted c =
    wanted _ (sym (gap-slot c.args.group.now.items c.requires c.args.page c.in-Err.at (rw c.deref.ensures.value at c.in-Err.ensures.gap)))
