use Rattle.std.proofs.Common.{rules, ◌≡◌, true, false, subst}
use Rattle.std.specs.Prelude.{IfErr, OnOk}
use Rattle.std.specs.List.{list_any}
use Rattle.dap_shared.specs.Shared.{AtFile, RecordNotAdded}
use Rattle.dap_accessed.specs.Adding.{MayStore}
use Rattle.dap_accessed.specs.Standing.{file_at}
use Rattle.dap_end.specs.Inner.Come.{come_on}
use Rattle.dap_end.specs.Node.{NodeNotGiven, NodeValue}
use Rattle.dap_end.proofs.Came.{none_come, some_come}
use Rattle.dap_end.proofs.Giving.{record-links, record-refused, on-ok}
use Rattle.dap_end.proofs.Ports.{node-same}
use Rattle.dap_end.proofs.node.ServingNode.add_record.Goals as goal

pub returns-then-has_come-clause-refused : goal.returns-then-has_come-clause-refused
returns-then-has_come-clause-refused c =
    let come : list_any come_on c.args.self.now.ports ≡ true = search rules in
    some_come c.args.self.now.ports come

pub returns-clause-idle : goal.returns-clause-idle
returns-clause-idle c =
    let still : list_any come_on c.args.self.now.ports ≡ false = search rules in
    on-ok c.add_record.result (none_come c.args.self.now.ports still)

pub returns-clause-refused : goal.returns-clause-refused
returns-clause-refused c =
    let v : NodeValue = record { noted = c.self.inside.noted; ports = c.self.inside.ports.items } in
    let still : list_any come_on v.ports ≡ false = search rules in
    subst (λ (w : NodeValue). IfErr c.add_record.result (NodeNotGiven w (RecordNotAdded w.noted.shared c.args.name.now c.args.number c.args.body.now))) c.self.view_is (record-refused v c.args.name.now c.args.number c.args.body.now c.add_record.result (none_come v.ports still) c.add_record.ensures.refused)

pub invariant_of-self : goal.invariant_of-self
invariant_of-self c =
    let v : NodeValue = record { noted = c.self.inside.noted; ports = c.self.inside.ports.items } in
    node-same c.self.inside.by_local.items v c.add_record.new.self c.self.invariant
    (record-links c.args.name.now c.args.number c.args.body.now v.noted c.add_record.new.self c.add_record.result c.add_record.ensures.given c.add_record.ensures.unchanged)

pub returns-clause-may : goal.returns-clause-may
returns-clause-may c =
    subst (λ (w : NodeValue). OnOk c.add_record.result (AtFile c.args.name.now w.noted.shared (λ at. MayStore (file_at at w.noted.shared.files) c.args.number c.args.body.now))) c.self.view_is c.add_record.ensures.may
