use Rattle.std.proofs.Common.{Some, ap, ◌∙◌}
use Rattle.rec_file.specs.declared.look.Look.{Look}
use Rattle.dap_accessed.specs.declared.asked.Asked.{Asked}
use Rattle.dap_accessed.proofs.Asking.{a_file_made_fully, some_fully}
use Rattle.dap_accessed.proofs.asked.Asked.fully.Goals as goal

pub returns-clause-same : goal.returns-clause-same
returns-clause-same c =
    ap (λ (l : Look). let asked : Asked = record { shape = c.in_ok-shape.shape; look = l } in Some asked) c.look_of-look.ensures
    ∙ some_fully c.args.attributes.now c.in_ok-shape.shape c.requires c.in_ok-shape.ensures

pub returns-clause-good : goal.returns-clause-good
returns-clause-good c = a_file_made_fully c.args.attributes.now (Some (record { shape = c.in_ok-shape.shape; look = c.look_of-look.result })) (returns-clause-same c)
