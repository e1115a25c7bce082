use Rattle.dap_events.specs.declared.event.End.TheVariants.{A, B}
use Rattle.dap_world.specs.Inner.WorldView.{parts_of}
use Rattle.dap_world.proofs.Steps.Wrote.{acked}
use Rattle.dap_world.proofs.world.World.ack.Goals as goal

pub invariant_of-self : goal.invariant_of-self
invariant_of-self c = (acked (parts_of c.self.inside) A c.acknowledge.new.wire.items c.acknowledge.result c.self.invariant (rw c.link.ensures at c.acknowledge.ensures.ok) c.acknowledge.ensures.err).0

pub returns-in-A : goal.returns-in-A
returns-in-A c = rw (← c.self.view_is, c.in-A.is) (acked (parts_of c.self.inside) A c.acknowledge.new.wire.items c.acknowledge.result c.self.invariant (rw c.link.ensures at c.acknowledge.ensures.ok) c.acknowledge.ensures.err).1

pub invariant_of-self-in-B : goal.invariant_of-self-in-B
invariant_of-self-in-B c = (acked (parts_of c.self.inside) B c.acknowledge-in-B.new.wire.items c.acknowledge-in-B.result c.self.invariant (rw c.link-in-B.ensures at c.acknowledge-in-B.ensures.ok) c.acknowledge-in-B.ensures.err).0

pub returns-in-B : goal.returns-in-B
returns-in-B c = rw (← c.self.view_is, c.in-B.is) (acked (parts_of c.self.inside) B c.acknowledge-in-B.new.wire.items c.acknowledge-in-B.result c.self.invariant (rw c.link-in-B.ensures at c.acknowledge-in-B.ensures.ok) c.acknowledge-in-B.ensures.err).1
