use Rattle.std.proofs.Common.{List, subst}
use Rattle.dap_world.specs.declared.side.Wired.{Wired}
use Rattle.dap_world.specs.Inner.Ways.{Delivery}
use Rattle.dap_world.specs.Inner.WorldView.{parts_of}
use Rattle.dap_world.proofs.Steps.Came.{delivered_a, delivered_b}
use Rattle.dap_world.proofs.world.World.deliver.Goals as goal

pub invariant_of-self : goal.invariant_of-self
invariant_of-self c = (delivered_a (parts_of c.self.inside) c.deliver_to.new.end c.args.j c.deliver_to.result c.self.invariant c.deliver_to.ensures.rest (subst (λ (l : List Wired). Delivery c.self.inside.asking.port.link c.deliver_to.new.end.port.link l c.args.j c.deliver_to.result) c.deref.ensures.value c.deliver_to.ensures.comes) c.deliver_to.ensures.still).0

pub returns-in-A : goal.returns-in-A
returns-in-A c =
    rw (← c.self.view_is, c.in-A.is)
    (delivered_a (parts_of c.self.inside) c.deliver_to.new.end c.args.j c.deliver_to.result c.self.invariant c.deliver_to.ensures.rest (subst (λ (l : List Wired). Delivery c.self.inside.asking.port.link c.deliver_to.new.end.port.link l c.args.j c.deliver_to.result) c.deref.ensures.value c.deliver_to.ensures.comes) c.deliver_to.ensures.still).1

pub invariant_of-self-in-B : goal.invariant_of-self-in-B
invariant_of-self-in-B c = (delivered_b (parts_of c.self.inside) c.deliver_to-in-B.new.end c.args.j c.deliver_to-in-B.result c.self.invariant c.deliver_to-in-B.ensures.rest (subst (λ (l : List Wired). Delivery c.self.inside.serving.port.link c.deliver_to-in-B.new.end.port.link l c.args.j c.deliver_to-in-B.result) c.deref-in-B.ensures.value c.deliver_to-in-B.ensures.comes) c.deliver_to-in-B.ensures.still).0

pub returns-in-B : goal.returns-in-B
returns-in-B c =
    rw (← c.self.view_is, c.in-B.is)
    (delivered_b (parts_of c.self.inside) c.deliver_to-in-B.new.end c.args.j c.deliver_to-in-B.result c.self.invariant c.deliver_to-in-B.ensures.rest (subst (λ (l : List Wired). Delivery c.self.inside.serving.port.link c.deliver_to-in-B.new.end.port.link l c.args.j c.deliver_to-in-B.result) c.deref-in-B.ensures.value c.deliver_to-in-B.ensures.comes) c.deliver_to-in-B.ensures.still).1
