use Rattle.std.proofs.Common.{◌≤◌, List, ℕ, not}
use Rattle.std.specs.Prelude.{bytes_eq}
use Rattle.std.specs.List.{prefix_len}
use Rattle.file_names.specs.Folds.{fold}
use Rattle.rec_file.specs.Files.{FileVal}
use Rattle.dap_accessed.proofs.table.FileTable.find_alike.Given as goal

abbrev pub invariant-loop-at : goal.invariant-loop-at
invariant-loop-at l = l.at ≤ prefix_len (λ (f : List ℕ × FileVal). not (bytes_eq (fold f.0) (fold l.name))) l.self
