use Rattle.std.proofs.Common.{◌-◌, length, refl, arith}
use Rattle.std.proofs.lemmas.Option.{slice_get_read}
use Rattle.rec_file.proofs.RelativeLaws.{none_above}
use Rattle.rec_file.proofs.HeldLaws.{no_items, last-page, last-there}
use Rattle.rec_file.proofs.slots.Slots.last.Goals as goal

pub unreachable-requires : goal.unreachable-requires
unreachable-requires c =
    let item = rw c.deref.ensures.value at c.in_default.ensures.item in
    last-there c.self.inside.groups.entries (record { sorted = c.self.invariant.0; are = c.self.invariant.1; have = c.self.invariant.2 }) c.args.self.now c.self.view_is c.in_ok-_own._own.now c.in_ok-_own.group.now c.in_ok-_own.ensures.value
    (none_above c.self.inside.groups.entries c.in_ok-_own._own.now c.in_ok-_own.ensures.greatest) (no_items c.in_ok-_own.group.now.items (omega (arith, item.3)))

pub returns-clause-some : goal.returns-clause-some
returns-clause-some c =
    let item = rw c.deref.ensures.value at c.in-Some.ensures.item in
    last-page c.self.inside.groups.entries (record { sorted = c.self.invariant.0; are = c.self.invariant.1; have = c.self.invariant.2 }) c.args.self.now c.self.view_is c.in_ok-_own._own.now c.in_ok-_own.group.now c.in_ok-_own.ensures.value
    (none_above c.self.inside.groups.entries c.in_ok-_own._own.now c.in_ok-_own.ensures.greatest) c.in-Some.last.now (length c.in_ok-_own.group.now.items - 1)
    (slice_get_read c.in_ok-_own.group.now.items (length c.in_ok-_own.group.now.items) _ c.in-Some.last.now refl (omega (arith, item.3.0)) item.1) (omega (arith, item.3.0))
