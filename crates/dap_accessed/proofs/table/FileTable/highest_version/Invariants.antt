use Rattle.std.proofs.Common.{◌≡◌, take}
use Rattle.dap_accessed.specs.Naming.{highest_version}
use Rattle.dap_accessed.proofs.table.FileTable.highest_version.Given as goal

abbrev pub invariant-loop-at : goal.invariant-loop-at
invariant-loop-at l = l.highest ≡ highest_version l.name (take l.at l.self)
