use Rattle.std.proofs.Common.{rules, ◌≡◌, true, false, subst}
use Rattle.std.specs.Prelude.{IfErr}
use Rattle.std.specs.List.{list_any}
use Rattle.dap_shared.specs.Shared.{NotAdded}
use Rattle.dap_end.specs.Inner.Come.{come_on}
use Rattle.dap_end.specs.Node.{NodeNotGiven, NodeValue}
use Rattle.dap_end.proofs.Came.{none_come, some_come}
use Rattle.dap_end.proofs.Giving.{file-refused, on-ok}
use Rattle.dap_end.proofs.node.ServingNode.add.Goals as goal

pub returns-then-has_come-clause-refused : goal.returns-then-has_come-clause-refused
returns-then-has_come-clause-refused c =
    let come : list_any come_on c.args.self.now.ports ≡ true = search rules in
    some_come c.args.self.now.ports come

pub returns-clause-idle : goal.returns-clause-idle
returns-clause-idle c =
    let still : list_any come_on c.args.self.now.ports ≡ false = search rules in
    on-ok c.add.result (none_come c.args.self.now.ports still)

pub returns-clause-refused : goal.returns-clause-refused
returns-clause-refused c =
    let v : NodeValue = record { noted = c.self.inside.noted; ports = c.self.inside.ports.items } in
    let still : list_any come_on v.ports ≡ false = search rules in
    subst (λ (w : NodeValue). IfErr c.add.result (NodeNotGiven w (NotAdded w.noted.shared.setup.names w.noted.shared.files c.args.name.now))) c.self.view_is (file-refused v c.args.name.now c.add.result (none_come v.ports still) c.add.ensures.refused)
