use Rattle.std.proofs.Common.{◌≤◌, List, ℕ, not}
use Rattle.std.specs.Prelude.{◌&&◌, ◌==◌}
use Rattle.std.specs.List.{prefix_len}
use Rattle.file_names.specs.Versions.{version_number}
use Rattle.rec_file.specs.Files.{FileVal}
use Rattle.dap_accessed.specs.Naming.{is_alike}
use Rattle.dap_accessed.proofs.table.FileTable.find_version.Given as goal

abbrev pub invariant-loop-at : goal.invariant-loop-at
invariant-loop-at l = l.at ≤ prefix_len (λ (f : List ℕ × FileVal). not (is_alike f.0 l.name && version_number f.0 == l.number)) l.self
