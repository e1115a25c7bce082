use Rattle.std.proofs.Common.{ap, ◌∙◌, length}
use Rattle.rec_file.specs.Acts.{IsOutcome, act, delete_record}
use Rattle.dap_accessed.proofs.Tables.{length-with}
use Rattle.dap_accessed.proofs.Entries.{others_stay, done}
use Rattle.dap_accessed.proofs.table.FileTable.delete.Goals as goal

pub returns-clause-others : goal.returns-clause-others
returns-clause-others c =
    others_stay c.self.inside.files.entries c.args.at c.index_mut-file.result.now c.delete.new.file c.args.self.now c.self.view_is c.requires c.index_mut-file.ensures.value

pub returns-clause-acts : goal.returns-clause-acts
returns-clause-acts c =
    done c.self.inside.files.entries c.args.at c.index_mut-file.result.now c.delete.new.file c.args.self.now c.self.view_is c.requires c.index_mut-file.ensures.value
    (λ old new. IsOutcome (act delete_record old c.args.stream.now) new c.delete.new.self c.delete.result) c.delete.ensures.outcome

pub returns-clause-same_length : goal.returns-clause-same_length
returns-clause-same_length c = ap length (returns-clause-others c) ∙ length-with _ _ _
