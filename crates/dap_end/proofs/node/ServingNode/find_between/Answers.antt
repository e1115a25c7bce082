use Rattle.std.proofs.Common.{List, Option, ℕ, sym, subst}
use Rattle.dap_end.specs.Ports.{PortValue}
use Rattle.dap_end.specs.Inner.NodeInside.{IsTable}
use Rattle.dap_end.proofs.node.ServingNode.find_between.Goals as goal

pub find_between-requires : goal.find_between-requires
find_between-requires c =
    subst (λ (l : List (Option ℕ)). IsTable l c.deref-2.result.now) (sym c.deref.ensures.value)
    (subst (λ (l : List (Option PortValue)). IsTable c.self.inside.by_local.items l) (sym c.deref-2.ensures.value) c.self.invariant.table)
