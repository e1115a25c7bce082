use Rattle.std.proofs.Common.{ap, sym, ◌∙◌}
use Rattle.rec_file.specs.AnyFiles.{any_value}
use Rattle.dap_accessed.specs.Standing.{file_at}
use Rattle.dap_accessed.proofs.Entries.{name_of}
use Rattle.dap_accessed.proofs.Tables.{file_at-map}
use Rattle.dap_accessed.proofs.table.FileTable.file.Goals as goal

pub returns : goal.returns
returns c =
    sym (file_at-map name_of any_value c.self.inside.files.entries c.args.at c.index.result.now c.index.ensures)
    ∙ ap (file_at c.args.at) c.self.view_is
