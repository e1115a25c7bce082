use Rattle.dap_events.specs.declared.event.End.TheVariants.{A, B}
use Rattle.dap_world.specs.Inner.WorldView.{parts_of}
use Rattle.dap_world.proofs.Steps.Wrote.{resent}
use Rattle.dap_world.proofs.world.World.resend.Goals as goal

pub invariant_of-self : goal.invariant_of-self
invariant_of-self c = (resent (parts_of c.self.inside) A c.args.index c.again.new.wire.items c.again.result c.self.invariant (rw c.link.ensures at c.again.ensures.ok) (rw c.link.ensures at c.again.ensures.err)).0

pub returns-in-A : goal.returns-in-A
returns-in-A c = rw (← c.self.view_is, c.in-A.is) (resent (parts_of c.self.inside) A c.args.index c.again.new.wire.items c.again.result c.self.invariant (rw c.link.ensures at c.again.ensures.ok) (rw c.link.ensures at c.again.ensures.err)).1

pub invariant_of-self-in-B : goal.invariant_of-self-in-B
invariant_of-self-in-B c = (resent (parts_of c.self.inside) B c.args.index c.again-in-B.new.wire.items c.again-in-B.result c.self.invariant (rw c.link-in-B.ensures at c.again-in-B.ensures.ok) (rw c.link-in-B.ensures at c.again-in-B.ensures.err)).0

pub returns-in-B : goal.returns-in-B
returns-in-B c = rw (← c.self.view_is, c.in-B.is) (resent (parts_of c.self.inside) B c.args.index c.again-in-B.new.wire.items c.again-in-B.result c.self.invariant (rw c.link-in-B.ensures at c.again-in-B.ensures.ok) (rw c.link-in-B.ensures at c.again-in-B.ensures.err)).1
