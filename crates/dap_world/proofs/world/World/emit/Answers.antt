use Rattle.dap_events.specs.declared.event.End.TheVariants.{A, B}
use Rattle.dap_world.specs.Inner.WorldView.{parts_of}
use Rattle.dap_world.proofs.Steps.Wrote.{emitted_a, emitted_b, is_running}
use Rattle.dap_world.proofs.world.World.emit.Goals as goal

pub emit_next-requires : goal.emit_next-requires
emit_next-requires c = is_running (parts_of c.self.inside) A c.self.invariant

pub emit_next-requires-in-B : goal.emit_next-requires-in-B
emit_next-requires-in-B c = is_running (parts_of c.self.inside) B c.self.invariant

pub invariant_of-self : goal.invariant_of-self
invariant_of-self c =
    (emitted_a (parts_of c.self.inside) c.emit_next.new.end c.emit_next.new.wire.items c.emit_next.result c.self.invariant c.emit_next.ensures.rest c.emit_next.ensures.ok c.emit_next.ensures.sent c.emit_next.ensures.err c.emit_next.ensures.still).0

pub returns-in-A : goal.returns-in-A
returns-in-A c =
    rw (← c.self.view_is, c.in-A.is)
    (emitted_a (parts_of c.self.inside) c.emit_next.new.end c.emit_next.new.wire.items c.emit_next.result c.self.invariant c.emit_next.ensures.rest c.emit_next.ensures.ok c.emit_next.ensures.sent c.emit_next.ensures.err c.emit_next.ensures.still).1

pub invariant_of-self-in-B : goal.invariant_of-self-in-B
invariant_of-self-in-B c =
    (emitted_b (parts_of c.self.inside) c.emit_next-in-B.new.end c.emit_next-in-B.new.wire.items c.emit_next-in-B.result c.self.invariant c.emit_next-in-B.ensures.rest c.emit_next-in-B.ensures.ok c.emit_next-in-B.ensures.sent c.emit_next-in-B.ensures.err c.emit_next-in-B.ensures.still).0

pub returns-in-B : goal.returns-in-B
returns-in-B c =
    rw (← c.self.view_is, c.in-B.is)
    (emitted_b (parts_of c.self.inside) c.emit_next-in-B.new.end c.emit_next-in-B.new.wire.items c.emit_next-in-B.result c.self.invariant c.emit_next-in-B.ensures.rest c.emit_next-in-B.ensures.ok c.emit_next-in-B.ensures.sent c.emit_next-in-B.ensures.err c.emit_next-in-B.ensures.still).1
