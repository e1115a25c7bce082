use Rattle.std.proofs.Common.{List, arith, refl, subst}
use Rattle.dap_accessing.specs.declared.report.Report.{Report}
use Rattle.dap_world.specs.Inner.Sides.{KeptSo}
use Rattle.dap_world.specs.Inner.WorldView.{parts_of}
use Rattle.dap_world.proofs.Steps.ReadingOne.{few_read, not_read, read_step, reads_later, reads_nothing}
use Rattle.dap_world.proofs.world.World.read.Goals as goal

pub returns-then-not-may_read : goal.returns-then-not-may_read
returns-then-not-may_read c = rw (← c.self.view_is) (reads_nothing (parts_of c.self.inside) c.self.invariant (c.if-not-may_read.ensures.no refl))

pub returns-in-Err : goal.returns-in-Err
returns-in-Err c = rw (← c.self.view_is) (reads_later (parts_of c.self.inside) c.self.invariant (c.if-not-may_read.ensures.yes refl))

pub overflow_add-self : goal.overflow_add-self
overflow_add-self c = omega (arith, few_read (parts_of c.self.inside) c.self.invariant)

pub invariant_of-self : goal.invariant_of-self
invariant_of-self c =
    (read_step (parts_of c.self.inside) c.read_next.new.self c.in-Ok-read_next.report c.keep.new.reports.items c.keep.result c.self.invariant c.in-Ok-read_next.ensures.ok (subst (λ (l : List Report). KeptSo c.in-Ok-read_next.report l c.keep.new.reports.items c.keep.result) c.in-Ok.ensures.items c.keep.ensures)).0

pub returns-in-Ok-read_next : goal.returns-in-Ok-read_next
returns-in-Ok-read_next c =
    rw (← c.self.view_is)
    (read_step (parts_of c.self.inside) c.read_next.new.self c.in-Ok-read_next.report c.keep.new.reports.items c.keep.result c.self.invariant c.in-Ok-read_next.ensures.ok (subst (λ (l : List Report). KeptSo c.in-Ok-read_next.report l c.keep.new.reports.items c.keep.result) c.in-Ok.ensures.items c.keep.ensures)).1

pub invariant_of-self-in-Err-read_next : goal.invariant_of-self-in-Err-read_next
invariant_of-self-in-Err-read_next c = (not_read (parts_of c.self.inside) c.read_next.new.self _ c.reserve.new.self.items c.self.invariant c.if-not-may_read.ensures.bytes c.in-Err-read_next.ensures.err c.in-Ok.ensures.items).0

pub returns-in-Err-read_next : goal.returns-in-Err-read_next
returns-in-Err-read_next c = rw (← c.self.view_is) (not_read (parts_of c.self.inside) c.read_next.new.self _ c.reserve.new.self.items c.self.invariant c.if-not-may_read.ensures.bytes c.in-Err-read_next.ensures.err c.in-Ok.ensures.items).1
