use Rattle.std.proofs.Common.{None, List, Option, ◌∙◌, sym, subst}
use Rattle.std.proofs.lemmas.List.{length-replicate}
use Rattle.dap_end.specs.Ports.{PortValue}
use Rattle.dap_end.specs.Inner.NodeInside.{IsNode}
use Rattle.dap_end.proofs.Ports.{no-ports}
use Rattle.dap_end.proofs.Tables.{table-new}
use Rattle.dap_end.proofs.node.ServingNode.with_setup.Goals as goal

pub invariant_of-result : goal.invariant_of-result
invariant_of-result c =
    subst (λ (l : List (Option PortValue)). IsNode c.in_ok-by_local.by_local.items (record { noted = c.in_ok-noted.noted; ports = l })) (sym c.in_ok-ports.ensures)
    (record {
      links = length-replicate c.args.links None ∙ sym c.in_ok-noted.ensures.links;
      ports = no-ports c.args.links;
      table = table-new c.in_ok-by_local.by_local.items c.args.links c.in_ok-by_local.ensures;
    })
