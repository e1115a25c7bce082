use Rattle.std.proofs.Common.{◌≡◌, arith, ap, refl, sym, subst, ◌∙◌, ℕ, List, Some}
use Rattle.std.specs.Prelude.{slice_get}
use Rattle.std.proofs.lemmas.Option.{slice_get_within}
use Rattle.nsp_link.specs.declared.link.Got.TheVariants.{AckOnly}
use Rattle.nsp_link.specs.declared.link.LinkSetup.{LinkSetup}
use Rattle.dap_msg.specs.Blocked.{bodies}
use Rattle.dap_shared.specs.Noted.{NotedValue}
use Rattle.std.specs.Result.{result_map_both}
use Rattle.dap_end.specs.declared.fault.EndFault.TheVariants as end_fault
use Rattle.dap_end.specs.Turns.{WentOn}
use Rattle.dap_end.specs.By.{end_with}
use Rattle.dap_end.specs.Node.{HasPort, NodeValue, serves_on}
use Rattle.dap_end.proofs.Links.{by-answered, addresses-of, keeps-addresses, keeps-links, links-of}
use Rattle.dap_end.proofs.Ports.{never-none, node-moved, port-there}
use Rattle.dap_end.proofs.Setups as setups
use Rattle.dap_end.proofs.Tables.{table-kept}
use Rattle.dap_end.proofs.node.ServingNode.go_on.Goals as goal

pub go_on-requires-clause-kept : goal.go_on-requires-clause-kept
go_on-requires-clause-kept c =
    let there : slice_get c.self.inside.ports.items c.args.link ≡ Some (Some c.in-Some.port) =
    port-there c.self.inside.ports.items c.args.link c.requires.0 c.in-Some.port c.index_mut.result.now
    (subst (λ (v : NodeValue). HasPort c.args.link v c.requires.0) (sym c.self.view_is) c.requires.1) c.index_mut.ensures.value c.in-Some.is in
    c.self.invariant.ports c.args.link c.in-Some.port there

pub go_on-requires-clause-link : goal.go_on-requires-clause-link
go_on-requires-clause-link c =
    let there : slice_get c.self.inside.ports.items c.args.link ≡ Some (Some c.in-Some.port) =
    port-there c.self.inside.ports.items c.args.link c.requires.0 c.in-Some.port c.index_mut.result.now
    (subst (λ (v : NodeValue). HasPort c.args.link v c.requires.0) (sym c.self.view_is) c.requires.1) c.index_mut.ensures.value c.in-Some.is in
    let within = slice_get_within c.self.inside.ports.items c.args.link _ there in
    let many = ap links-of c.forget.ensures in
    omega (arith, within, c.self.invariant.links, many)

pub unreachable-requires : goal.unreachable-requires
unreachable-requires c =
    never-none c.self.inside.ports.items c.args.link c.requires.0 c.index_mut.result.now
    (subst (λ (v : NodeValue). HasPort c.args.link v c.requires.0) (sym c.self.view_is) c.requires.1) c.index_mut.ensures.value c.in-None.is

pub invariant_of-self : goal.invariant_of-self
invariant_of-self c =
    let v : NodeValue = record { noted = c.self.inside.noted; ports = c.self.inside.ports.items } in
    let there : slice_get c.self.inside.ports.items c.args.link ≡ Some (Some c.in-Some.port) =
    port-there c.self.inside.ports.items c.args.link c.requires.0 c.in-Some.port c.index_mut.result.now
    (subst (λ (v : NodeValue). HasPort c.args.link v c.requires.0) (sym c.self.view_is) c.requires.1) c.index_mut.ensures.value c.in-Some.is in
    let many = by-answered ℕ links-of keeps-links c.args.link c.args.most_waiting (end_with c.in-Some.port c.forget.new.self) (end_with c.go_on.new.port c.go_on.new.server) AckOnly _ _ _ c.go_on.ensures.went ∙ ap links-of c.forget.ensures in
    let setup = setups.by-answered c.args.link c.args.most_waiting (end_with c.in-Some.port c.forget.new.self) (end_with c.go_on.new.port c.go_on.new.server) AckOnly _ _ _ c.go_on.ensures.went in
    let right = table-kept c.self.inside.by_local.items v.ports c.args.link c.self.invariant.table c.go_on.new.port c.in-Some.port there (ap (λ (s : LinkSetup). s.local) setup) in
    node-moved c.self.inside.by_local.items v c.args.link c.go_on.new.server c.go_on.new.port c.self.invariant many c.go_on.ensures.kept right

pub returns-clause-went : goal.returns-clause-went
returns-clause-went c =
    let there : slice_get c.self.inside.ports.items c.args.link ≡ Some (Some c.in-Some.port) =
    port-there c.self.inside.ports.items c.args.link c.requires.0 c.in-Some.port c.index_mut.result.now
    (subst (λ (v : NodeValue). HasPort c.args.link v c.requires.0) (sym c.self.view_is) c.requires.1) c.index_mut.ensures.value c.in-Some.is in
    rw (← c.self.view_is)
    (record {
      before = c.in-Some.port;
      after = c.go_on.new.port;
      there = there;
      does = subst (λ (n : NotedValue). WentOn (serves_on c.args.link c.args.most_waiting) (end_with c.in-Some.port n) (end_with c.go_on.new.port c.go_on.new.server) (bodies c.args.out.now.items) (bodies c.go_on.new.out.items) (result_map_both (λ done. done) end_fault.Link c.go_on.result)) c.forget.ensures c.go_on.ensures.went;
      ports = refl;
    })

pub returns-clause-addresses : goal.returns-clause-addresses
returns-clause-addresses c =
    rw (← c.self.view_is)
    (by-answered (List ℕ) addresses-of keeps-addresses c.args.link c.args.most_waiting (end_with c.in-Some.port c.forget.new.self) (end_with c.go_on.new.port c.go_on.new.server) AckOnly _ _ _ c.go_on.ensures.went ∙ ap addresses-of c.forget.ensures)
