use Rattle.std.proofs.Common.{◌<◌, subst, arith}
use Rattle.rec_file.proofs.SoughtLaws.{before-smaller, after-greater}
use Rattle.rec_file.proofs.slots.part.Goals as goal
use Rattle.rec_file.proofs.slots.part.Goals.{in-Some, in_default-2, in_default}

pub returns-in-Some-get-clause-before : goal.returns-in-Some-get-clause-before
returns-in-Some-get-clause-before c = elim c.match-get.branch [
  | in-Some w ↦ λ j lt. before-smaller c.args.group.now c.args.page c.saturating_sub-below.result w.in-Some.entry.now c.requires w.in-Some.ensures.lookup.3.0 w.in-Some.ensures.lookup.1 w.if-entry-page.true j (subst (λ n. j < n) w.low-is lt)
  | in_default-2 w ↦ λ j lt. absurd (omega (arith, w.low-is))
  | in_default w ↦ λ j lt. absurd (omega (arith, w.low-is))
]

pub returns-in-Some-get-clause-after : goal.returns-in-Some-get-clause-after
returns-in-Some-get-clause-after c =
    after-greater c.args.group.now c.args.page c.saturating_add-above.result c.in-Some-get.entry.now c.requires c.in-Some-get.ensures.lookup.3.0 c.in-Some-get.ensures.lookup.1 c.if-page-entry.true

pub returns-in_default-get-clause-before : goal.returns-in_default-get-clause-before
returns-in_default-get-clause-before c = elim c.match-get.branch [
  | in-Some w ↦ λ j lt. before-smaller c.args.group.now c.args.page c.saturating_sub-below.result w.in-Some.entry.now c.requires w.in-Some.ensures.lookup.3.0 w.in-Some.ensures.lookup.1 w.if-entry-page.true j (subst (λ n. j < n) w.low-is lt)
  | in_default-2 w ↦ λ j lt. absurd (omega (arith, w.low-is))
  | in_default w ↦ λ j lt. absurd (omega (arith, w.low-is))
]

pub returns-in_default-get-2-clause-before : goal.returns-in_default-get-2-clause-before
returns-in_default-get-2-clause-before c = elim c.match-get.branch [
  | in-Some w ↦ λ j lt. before-smaller c.args.group.now c.args.page c.saturating_sub-below.result w.in-Some.entry.now c.requires w.in-Some.ensures.lookup.3.0 w.in-Some.ensures.lookup.1 w.if-entry-page.true j (subst (λ n. j < n) w.low-is lt)
  | in_default-2 w ↦ λ j lt. absurd (omega (arith, w.low-is))
  | in_default w ↦ λ j lt. absurd (omega (arith, w.low-is))
]
