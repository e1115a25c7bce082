use Rattle.std.proofs.Common.{None, Option, ◌<◌, subst, sym, refl, length, List, ℕ}
use Rattle.std.specs.Prelude.{set}
use Rattle.std.proofs.lemmas.Option.{slice_get_read}
use Rattle.dap_end.specs.Inner.NodeInside.{IsTable}
use Rattle.dap_end.specs.Node.{NodeValue}
use Rattle.dap_end.proofs.Ports.{node-set}
use Rattle.dap_end.proofs.Tables.{table-ended}
use Rattle.dap_end.proofs.node.ServingNode.end.Goals as goal

pub unlist-requires : goal.unlist-requires
unlist-requires c = c.self.invariant.table.whole

pub invariant_of-self : goal.invariant_of-self
invariant_of-self c =
    let v : NodeValue = record { noted = c.self.inside.noted; ports = c.self.inside.ports.items } in
    let within : c.args.link < length v.ports = subst (λ (w : NodeValue). c.args.link < length w.ports) (sym c.self.view_is) c.requires in
    let there = slice_get_read v.ports (length v.ports) c.args.link c.index.result.now refl within c.index.ensures in
    let right = subst (λ (t : List (Option ℕ)). IsTable t (set v.ports c.args.link None)) (sym c.unlist.ensures) (table-ended c.self.inside.by_local.items v.ports c.args.link c.self.invariant.table c.index.result.now there) in
    node-set c.self.inside.by_local.items c.unlist.new.table.items v c.args.link c.begin.new.self None c.self.invariant c.begin.ensures.begins.same_links (λ q is. absurd (let none : ⊥ = cc in none)) right
