use Rattle.std.proofs.Common.{ap, sym, ◌∙◌}
use Rattle.rec_file.specs.Inner.Slots.{listed, bare}
use Rattle.rec_file.proofs.HeldLaws.{from-none, first-sorted, have-rest, from-own, from-other}
use Rattle.rec_file.proofs.slots.Slots.from.Goals as goal
use Rattle.rec_file.proofs.slots.Slots.from.Goals.{then-group-own, else-group-own}

pub returns-in_default : goal.returns-in_default
returns-in_default c =
    ap (λ t. listed (bare t)) c.in_default.ensures.steps.1
    ∙ from-none c.self.inside.groups.entries (record { sorted = c.self.invariant.0; are = c.self.invariant.1; have = c.self.invariant.2 }) c.args.self.now c.self.view_is c.args.page (sym (c.range-groups.ensures.between tt) ∙ c.in_default.ensures.steps.0)

pub rest_from-rest-requires : goal.rest_from-rest-requires
rest_from-rest-requires c =
    rw c.deref.ensures.value (first-sorted c.self.inside.groups.entries (record { sorted = c.self.invariant.0; are = c.self.invariant.1; have = c.self.invariant.2 }) c.args.self.now c.self.view_is c.args.page c.in-Some.group.now c.in-Some.slots.now c.next.new.self (sym (c.range-groups.ensures.between tt) ∙ c.in-Some.ensures.steps))

pub invariant_of-result-2 : goal.invariant_of-result-2
invariant_of-result-2 c =
    have-rest c.self.inside.groups.entries (record { sorted = c.self.invariant.0; are = c.self.invariant.1; have = c.self.invariant.2 }) c.args.self.now c.self.view_is c.args.page c.in-Some.group.now c.in-Some.slots.now c.next.new.self (sym (c.range-groups.ensures.between tt) ∙ c.in-Some.ensures.steps)

pub returns : goal.returns
returns c =
    let first = sym (c.range-groups.ensures.between tt) ∙ c.in-Some.ensures.steps in
    elim c.if-group-own.branch [
      | then-group-own w ↦ from-own c.self.inside.groups.entries (record { sorted = c.self.invariant.0; are = c.self.invariant.1; have = c.self.invariant.2 }) c.args.self.now c.self.view_is c.args.page c.in-Some.group.now c.in-Some.slots.now c.next.new.self first w.if-group-own.true c.if-group-own.rest.now (ap (λ s. s.now) w.rest-is ∙ rw w.deref.ensures.value at w.rest_from-rest.ensures)
      | else-group-own w ↦ from-other c.self.inside.groups.entries (record { sorted = c.self.invariant.0; are = c.self.invariant.1; have = c.self.invariant.2 }) c.args.self.now c.self.view_is c.args.page c.in-Some.group.now c.in-Some.slots.now c.next.new.self first w.if-group-own.false c.if-group-own.rest.now (ap (λ s. s.now) w.rest-is ∙ w.as_slice-rest.ensures.value)
    ]
