use Rattle.std.proofs.Common.{rules, ◌≡◌, ◌<◌, ◌∙◌, Some, ap, subst, sym, length, List, Option, ℕ, refl}
use Rattle.std.specs.Prelude.{IfErr, set, slice_get}
use Rattle.std.proofs.lemmas.Option.{slice_get_read}
use Rattle.nsp_link.specs.Link.{SetupFault}
use Rattle.dap_end.specs.Ports.{PortValue, new_port}
use Rattle.dap_end.specs.Inner.Kept.{IsPort}
use Rattle.dap_end.specs.Inner.NodeInside.{IsTable}
use Rattle.dap_end.specs.Node.{IsTaken, NodeValue}
use Rattle.dap_end.proofs.Ports.{node-set, port-new}
use Rattle.dap_end.proofs.Tables.{err-from, port-refused, table-begun, untaken}
use Rattle.dap_end.proofs.node.ServingNode.begin.Goals as goal

pub is_taken-requires : goal.is_taken-requires
is_taken-requires c = ap (λ (l : List (Option ℕ)). length l) c.deref.ensures.value ∙ c.self.invariant.table.whole

pub list_anew-requires : goal.list_anew-requires
list_anew-requires c = c.self.invariant.table.whole

pub returns-in_err-port-clause-err : goal.returns-in_err-port-clause-err
returns-in_err-port-clause-err c =
    let v : NodeValue = record { noted = c.self.inside.noted; ports = c.self.inside.ports.items } in
    let free : (other : ℕ) → slice_get c.self.inside.by_local.items c.args.setup.local ≡ Some (Some other) → other ≡ c.args.link =
    subst (λ (l : List (Option ℕ)). (other : ℕ) → slice_get l c.args.setup.local ≡ Some (Some other) → other ≡ c.args.link) c.deref.ensures.value (c.is_taken.ensures.no c.if-is_taken.false) in
    let alone : IsTaken c.args.link c.args.setup.local c.args.self.now → ⊥ =
    subst (λ (w : NodeValue). IsTaken c.args.link c.args.setup.local w → ⊥) c.self.view_is (untaken c.self.inside.by_local.items v c.args.link c.args.setup.local c.self.invariant.table free) in
    let why : IfErr c.from_residual.result (λ f. SetupFault c.args.setup f) = search rules in
    err-from c.from_residual.result why (λ f h. (refl, port-refused c.args.self.now c.args.link c.args.setup f alone h))

pub returns-clause-alone : goal.returns-clause-alone
returns-clause-alone c =
    let v : NodeValue = record { noted = c.self.inside.noted; ports = c.self.inside.ports.items } in
    let alone : (other : ℕ) → slice_get c.self.inside.by_local.items c.args.setup.local ≡ Some (Some other) → other ≡ c.args.link =
    subst (λ (l : List (Option ℕ)). (other : ℕ) → slice_get l c.args.setup.local ≡ Some (Some other) → other ≡ c.args.link) c.deref.ensures.value (c.is_taken.ensures.no c.if-is_taken.false) in
    subst (λ (w : NodeValue). IsTaken c.args.link c.args.setup.local w → ⊥) c.self.view_is (untaken c.self.inside.by_local.items v c.args.link c.args.setup.local c.self.invariant.table alone)

pub invariant_of-self : goal.invariant_of-self
invariant_of-self c =
    let v : NodeValue = record { noted = c.self.inside.noted; ports = c.self.inside.ports.items } in
    let within : c.args.link < length v.ports = subst (λ (w : NodeValue). c.args.link < length w.ports) (sym c.self.view_is) c.requires in
    let there = slice_get_read v.ports (length v.ports) c.args.link c.index.result.now refl within c.index.ensures in
    let same : c.in_ok-port.port ≡ new_port c.args.setup = c.in_ok-port.ensures.ok.1 in
    let small : c.args.setup.local < 65536 = search rules in
    let alone : (other : ℕ) → slice_get c.self.inside.by_local.items c.args.setup.local ≡ Some (Some other) → other ≡ c.args.link =
    subst (λ (l : List (Option ℕ)). (other : ℕ) → slice_get l c.args.setup.local ≡ Some (Some other) → other ≡ c.args.link) c.deref.ensures.value (c.is_taken.ensures.no c.if-is_taken.false) in
    let right = subst (λ (t : List (Option ℕ)). IsTable t (set v.ports c.args.link (Some c.in_ok-port.port))) (sym c.list_anew.ensures)
    (table-begun c.self.inside.by_local.items v.ports c.args.link c.args.setup.local c.index.result.now c.self.invariant.table there small alone c.in_ok-port.port (ap (λ (p : PortValue). p.link.setup.local) same)) in
    node-set c.self.inside.by_local.items c.list_anew.new.table.items v c.args.link c.begin.new.self (Some c.in_ok-port.port) c.self.invariant c.begin.ensures.begins.same_links
    (λ q is. subst IsPort (let one : c.in_ok-port.port ≡ q = cc in one) (port-new c.args.setup c.in_ok-port.port same)) right
