use Rattle.std.proofs.Common.{ap, sym, ◌∙◌, List, ℕ}
use Rattle.rec_file.specs.Files.{FileVal}
use Rattle.std.specs.Global.{Vec}
use Rattle.std.specs.Prelude.{bytes_eq}
use Rattle.std.proofs.lemmas.Cmp.{nat_list_eq_equiv}
use Rattle.dap_accessed.specs.Standing.{index_of}
use Rattle.dap_accessed.proofs.Entries.{Entry, view}
use Rattle.dap_accessed.proofs.Tables.{position-alike}
use Rattle.dap_accessed.proofs.table.FileTable.find.Goals as goal

pub returns-clause-index : goal.returns-clause-index
returns-clause-index c =
    let name = c.args.name.now in
    c.get_index_of.ensures.index
    ∙ sym (position-alike view (λ (e : Entry). e.0) (λ (f : List ℕ × FileVal). bytes_eq f.0 name) (λ (k : Vec ℕ). bytes_eq name k.items)
    (λ e. nat_list_eq_equiv.symm e.0.items name) c.self.inside.files.entries)
    ∙ ap (index_of name) c.self.view_is
