use Rattle.std.proofs.Common.{◌≡◌, take}
use Rattle.dap_accessed.specs.Naming.{version_count}
use Rattle.dap_accessed.proofs.table.FileTable.version_count.Given as goal

abbrev pub invariant-loop-at : goal.invariant-loop-at
invariant-loop-at l = l.count ≡ version_count l.name (take l.at l.self)
