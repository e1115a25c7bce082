use Rattle.dap_end.specs.Node.{NodeValue}
use Rattle.dap_end.proofs.Giving.{drop-links}
use Rattle.dap_end.proofs.Ports.{node-same}
use Rattle.dap_end.proofs.node.ServingNode.remove.Goals as goal

pub invariant_of-self : goal.invariant_of-self
invariant_of-self c =
    let v : NodeValue = record { noted = c.self.inside.noted; ports = c.self.inside.ports.items } in
    node-same c.self.inside.by_local.items v c.remove.new.self c.self.invariant
    (drop-links c.args.name.now v.noted c.remove.new.self c.remove.result c.remove.ensures.drops c.remove.ensures.unchanged)
