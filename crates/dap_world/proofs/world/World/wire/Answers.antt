use Rattle.dap_events.specs.declared.event.End.TheVariants.{A, B}
use Rattle.dap_world.specs.Inner.WorldView.{parts_of}
use Rattle.dap_world.proofs.Steps.Wires.{wire_of}
use Rattle.dap_world.proofs.world.World.wire.Goals as goal

pub returns-in-A-clause-sendings : goal.returns-in-A-clause-sendings
returns-in-A-clause-sendings c = rw (← c.self.view_is, c.in-A.is) (wire_of (parts_of c.self.inside) A c.deref.result.now c.self.invariant c.deref.ensures.value).sendings

pub returns-in-A-clause-packets : goal.returns-in-A-clause-packets
returns-in-A-clause-packets c = rw (← c.self.view_is, c.in-A.is) (wire_of (parts_of c.self.inside) A c.deref.result.now c.self.invariant c.deref.ensures.value).packets

pub returns-in-B-clause-sendings : goal.returns-in-B-clause-sendings
returns-in-B-clause-sendings c = rw (← c.self.view_is, c.in-B.is) (wire_of (parts_of c.self.inside) B c.deref-in-B.result.now c.self.invariant c.deref-in-B.ensures.value).sendings

pub returns-in-B-clause-packets : goal.returns-in-B-clause-packets
returns-in-B-clause-packets c = rw (← c.self.view_is, c.in-B.is) (wire_of (parts_of c.self.inside) B c.deref-in-B.result.now c.self.invariant c.deref-in-B.ensures.value).packets
