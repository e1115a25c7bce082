use Rattle.std.proofs.Common.{ap, ◌∙◌, length}
use Rattle.rec_file.specs.Acts.{put_record}
use Rattle.dap_accessed.proofs.Tables.{length-with}
use Rattle.dap_accessed.proofs.Entries.{others_stay, acts, stays}
use Rattle.dap_accessed.proofs.table.FileTable.put.Goals as goal

pub returns-clause-others : goal.returns-clause-others
returns-clause-others c =
    others_stay c.self.inside.files.entries c.args.at c.index_mut-file.result.now c.put.new.file c.args.self.now c.self.view_is c.requires c.index_mut-file.ensures.value

pub returns-clause-acts : goal.returns-clause-acts
returns-clause-acts c =
    acts c.self.inside.files.entries c.args.at c.index_mut-file.result.now c.put.new.file c.args.self.now c.self.view_is c.requires c.index_mut-file.ensures.value
    (put_record c.args.key c.args.body.now) c.args.stream.now c.put.new.self c.put.result c.or_no_memory.result c.put.ensures c.or_no_memory.ensures.ok

pub returns-clause-err : goal.returns-clause-err
returns-clause-err c =
    stays c.self.inside.files.entries c.args.at c.index_mut-file.result.now c.put.new.file c.args.self.now c.self.view_is c.requires c.index_mut-file.ensures.value
    (put_record c.args.key c.args.body.now) c.args.stream.now c.put.new.self c.put.result c.or_no_memory.result c.put.ensures c.or_no_memory.ensures.err

pub returns-clause-same_length : goal.returns-clause-same_length
returns-clause-same_length c = ap length (returns-clause-others c) ∙ length-with _ _ _
