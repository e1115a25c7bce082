use Rattle.std.proofs.Common.{◌∙◌, List, Some, ap, sym, ℕ}
use Rattle.dap_live.proofs.NodeLemmas.{gives-record, on-all}
use Rattle.dap_live.proofs.node.add_body.Goals as goal

pub returns-in-Some-clause-ok : goal.returns-in-Some-clause-ok
returns-in-Some-clause-ok c =
    let added = c.add_record.ensures in
    let name : List ℕ = c.deref.result.now in
    on-all c.add_record.result added.idle added.may added.given added.files
    (λ idle may given files. (
      name,
      c.in-Some.is ∙ ap (λ (n : List ℕ). Some n) (sym (c.deref.ensures.value ∙ c.name.view_is)),
      gives-record name c.args.number c.args.body.now c.args.node.now c.add_record.new.self idle may given files added.ports added.notes,
    ))
