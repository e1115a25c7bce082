use Rattle.std.proofs.Common.{ap, map, ◌∙◌}
use Rattle.rec_file.specs.AnyFiles.{any_value}
use Rattle.dap_accessed.specs.Standing.{Files}
use Rattle.std.specs.List.{remove}
use Rattle.dap_accessed.proofs.Entries.{name_of, view}
use Rattle.dap_accessed.proofs.Tables.{without-map}
use Rattle.dap_accessed.proofs.table.FileTable.remove.Goals as goal

pub returns : goal.returns
returns c =
    ap (map view) c.shift_remove_index-removed.ensures.entries
    ∙ without-map name_of any_value c.self.inside.files.entries c.args.at ∙ ap (λ (l : Files). remove l c.args.at) c.self.view_is
