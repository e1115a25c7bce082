use Rattle.std.proofs.Common.{◌≡◌, arith, ap, refl, sym, subst, ◌∙◌, ℕ, List, Some}
use Rattle.std.specs.Prelude.{slice_get}
use Rattle.std.proofs.lemmas.Option.{slice_get_within}
use Rattle.nsp_link.specs.declared.link.LinkSetup.{LinkSetup}
use Rattle.dap_msg.specs.Blocked.{bodies}
use Rattle.dap_shared.specs.Noted.{NotedValue}
use Rattle.dap_end.specs.Turns.{TakesPacket}
use Rattle.dap_end.specs.By.{end_with}
use Rattle.dap_end.specs.Node.{HasPort, NodeValue, serves_on}
use Rattle.dap_end.proofs.Links.{by-takes, addresses-of, keeps-addresses, keeps-links, links-of}
use Rattle.dap_end.proofs.Ports.{never-none, node-moved, port-there}
use Rattle.dap_end.proofs.Setups as setups
use Rattle.dap_end.proofs.Tables.{table-kept}
use Rattle.dap_end.proofs.node.ServingNode.take.Goals as goal

pub take-requires-clause-kept : goal.take-requires-clause-kept
take-requires-clause-kept c =
    let there : slice_get c.self.inside.ports.items c.args.link ≡ Some (Some c.in-Some.port) =
    port-there c.self.inside.ports.items c.args.link c.requires.0 c.in-Some.port c.index_mut.result.now
    (subst (λ (v : NodeValue). HasPort c.args.link v c.requires.0) (sym c.self.view_is) c.requires.1) c.index_mut.ensures.value c.in-Some.is in
    c.self.invariant.ports c.args.link c.in-Some.port there

pub take-requires-clause-link : goal.take-requires-clause-link
take-requires-clause-link c =
    let there : slice_get c.self.inside.ports.items c.args.link ≡ Some (Some c.in-Some.port) =
    port-there c.self.inside.ports.items c.args.link c.requires.0 c.in-Some.port c.index_mut.result.now
    (subst (λ (v : NodeValue). HasPort c.args.link v c.requires.0) (sym c.self.view_is) c.requires.1) c.index_mut.ensures.value c.in-Some.is in
    let within = slice_get_within c.self.inside.ports.items c.args.link _ there in
    let many = ap links-of c.forget.ensures in
    omega (arith, within, c.self.invariant.links, many)

pub unreachable-requires : goal.unreachable-requires
unreachable-requires c =
    never-none c.self.inside.ports.items c.args.link c.requires.0 c.index_mut.result.now
    (subst (λ (v : NodeValue). HasPort c.args.link v c.requires.0) (sym c.self.view_is) c.requires.1) c.index_mut.ensures.value c.in-None.is

pub invariant_of-self : goal.invariant_of-self
invariant_of-self c =
    let v : NodeValue = record { noted = c.self.inside.noted; ports = c.self.inside.ports.items } in
    let there : slice_get c.self.inside.ports.items c.args.link ≡ Some (Some c.in-Some.port) =
    port-there c.self.inside.ports.items c.args.link c.requires.0 c.in-Some.port c.index_mut.result.now
    (subst (λ (v : NodeValue). HasPort c.args.link v c.requires.0) (sym c.self.view_is) c.requires.1) c.index_mut.ensures.value c.in-Some.is in
    let many = by-takes ℕ links-of keeps-links c.args.link c.args.most_waiting (end_with c.in-Some.port c.forget.new.self) (end_with c.take.new.port c.take.new.server) c.args.packet.now _ _ _ c.take.ensures.takes ∙ ap links-of c.forget.ensures in
    let setup = setups.by-takes c.args.link c.args.most_waiting (end_with c.in-Some.port c.forget.new.self) (end_with c.take.new.port c.take.new.server) c.args.packet.now _ _ _ c.take.ensures.takes in
    let right = table-kept c.self.inside.by_local.items v.ports c.args.link c.self.invariant.table c.take.new.port c.in-Some.port there (ap (λ (s : LinkSetup). s.local) setup) in
    node-moved c.self.inside.by_local.items v c.args.link c.take.new.server c.take.new.port c.self.invariant many c.take.ensures.kept right

pub returns-clause-takes : goal.returns-clause-takes
returns-clause-takes c =
    let there : slice_get c.self.inside.ports.items c.args.link ≡ Some (Some c.in-Some.port) =
    port-there c.self.inside.ports.items c.args.link c.requires.0 c.in-Some.port c.index_mut.result.now
    (subst (λ (v : NodeValue). HasPort c.args.link v c.requires.0) (sym c.self.view_is) c.requires.1) c.index_mut.ensures.value c.in-Some.is in
    rw (← c.self.view_is)
    (record {
      before = c.in-Some.port;
      after = c.take.new.port;
      there = there;
      does = subst (λ (n : NotedValue). TakesPacket (serves_on c.args.link c.args.most_waiting) (end_with c.in-Some.port n) (end_with c.take.new.port c.take.new.server) c.args.packet.now (bodies c.args.out.now.items) (bodies c.take.new.out.items) c.take.result) c.forget.ensures c.take.ensures.takes;
      ports = refl;
    })

pub returns-clause-addresses : goal.returns-clause-addresses
returns-clause-addresses c =
    rw (← c.self.view_is)
    (by-takes (List ℕ) addresses-of keeps-addresses c.args.link c.args.most_waiting (end_with c.in-Some.port c.forget.new.self) (end_with c.take.new.port c.take.new.server) c.args.packet.now _ _ _ c.take.ensures.takes ∙ ap addresses-of c.forget.ensures)
