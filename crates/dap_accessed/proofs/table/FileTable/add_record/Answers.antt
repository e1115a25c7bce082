use Rattle.dap_accessed.specs.Storing.{Stores}
use Rattle.dap_accessed.proofs.Entries.{others_stay, done}
use Rattle.dap_accessed.proofs.Given.{table-same}
use Rattle.dap_accessed.proofs.table.FileTable.add_record.Goals as goal

pub returns-clause-others : goal.returns-clause-others
returns-clause-others c =
    others_stay c.self.inside.files.entries c.args.at c.index_mut-file.result.now c.add_record.new.file c.args.self.now c.self.view_is c.requires c.index_mut-file.ensures.value

pub returns-clause-stores : goal.returns-clause-stores
returns-clause-stores c =
    done c.self.inside.files.entries c.args.at c.index_mut-file.result.now c.add_record.new.file c.args.self.now c.self.view_is c.requires c.index_mut-file.ensures.value
    (λ old new. Stores c.args.number c.args.body.now old new c.add_record.result) c.add_record.ensures

pub returns-clause-err : goal.returns-clause-err
returns-clause-err c =
    table-same c.args.number c.args.body.now c.args.at c.args.self.now _ c.add_record.result (returns-clause-others c) (returns-clause-stores c)
