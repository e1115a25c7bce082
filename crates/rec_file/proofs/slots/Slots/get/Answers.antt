use Rattle.std.proofs.Common.{sym, ◌∙◌}
use Rattle.rec_file.proofs.HeldLaws.{get-none, group-sorted, get-some}
use Rattle.rec_file.proofs.slots.Slots.get.Goals as goal

pub returns-in_err-group : goal.returns-in_err-group
returns-in_err-group c =
    c.from_residual.ensures ∙ get-none c.self.inside.groups.entries (record { sorted = c.self.invariant.0; are = c.self.invariant.1; have = c.self.invariant.2 }) c.args.self.now c.self.view_is c.args.page (sym c.in_err-group.ensures.value)

pub slot_in-requires : goal.slot_in-requires
slot_in-requires c =
    rw c.deref.ensures.value (group-sorted c.self.inside.groups.entries (record { sorted = c.self.invariant.0; are = c.self.invariant.1; have = c.self.invariant.2 }) c.args.self.now c.self.view_is c.args.page c.in_ok-group.group.now (sym c.in_ok-group.ensures.value))

pub returns : goal.returns
returns c =
    rw c.deref.ensures.value at c.slot_in.ensures ∙ get-some c.self.inside.groups.entries (record { sorted = c.self.invariant.0; are = c.self.invariant.1; have = c.self.invariant.2 }) c.args.self.now c.self.view_is c.args.page c.in_ok-group.group.now (sym c.in_ok-group.ensures.value)
