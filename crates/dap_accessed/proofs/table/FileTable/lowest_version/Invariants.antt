use Rattle.std.proofs.Common.{◌≡◌, take}
use Rattle.dap_accessed.specs.Naming.{lowest_version}
use Rattle.dap_accessed.proofs.table.FileTable.lowest_version.Given as goal

abbrev pub invariant-loop-at : goal.invariant-loop-at
invariant-loop-at l = l.lowest ≡ lowest_version l.name (take l.at l.self)
