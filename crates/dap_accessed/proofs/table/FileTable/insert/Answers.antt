use Rattle.std.proofs.Common.{◌≡◌, ap, map, sym, ◌∙◌, List, ℕ, [], ◌∷◌, ◌++◌}
use Rattle.std.specs.Global.{Vec}
use Rattle.std.specs.Prelude.{None, bytes_eq}
use Rattle.std.specs.List.{position}
use Rattle.std.proofs.lemmas.Cmp.{nat_list_eq_equiv}
use Rattle.rec_file.specs.Files.{FileVal}
use Rattle.indexmap.proofs.CallerLemmas.{insert_entry-new}
use Rattle.dap_accessed.specs.Standing.{Files, index_of}
use Rattle.dap_accessed.proofs.Entries.{Entry, view}
use Rattle.dap_accessed.proofs.Tables.{absent, position-alike, map-last}
use Rattle.dap_accessed.proofs.table.FileTable.insert.Goals as goal

pub returns-clause-ok : goal.returns-clause-ok
returns-clause-ok c =
    let key = c.args.name in
    let name = key.items in
    let es = c.self.inside.files.entries in
    let none : position (λ (k : Vec ℕ). bytes_eq key.items k.items) (map (λ (e : Entry). e.0) es) ≡ None =
    sym (position-alike view (λ (e : Entry). e.0) (λ (f : List ℕ × FileVal). bytes_eq f.0 name) (λ (k : Vec ℕ). bytes_eq key.items k.items)
    (λ e. nat_list_eq_equiv.symm e.0.items name) es)
    ∙ ap (index_of name) c.self.view_is ∙ c.requires.new in
    ap (map view) (c.in_ok-insert.ensures.entries ∙ insert_entry-new (λ (a b : Vec ℕ). bytes_eq a.items b.items) c.self.inside.files key c.with_look-file.result (absent _ es none))
    ∙ map-last view es (key, c.with_look-file.result)
    ∙ ap (λ (files : Files). files ++ view (key, c.with_look-file.result) ∷ []) c.self.view_is
    ∙ ap (λ (f : FileVal). c.args.self.now ++ (name, f) ∷ []) c.with_look-file.ensures
