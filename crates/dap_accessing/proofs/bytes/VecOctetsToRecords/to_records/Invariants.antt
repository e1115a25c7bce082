use Rattle.std.proofs.Common.{◌≡◌, take}
use Rattle.dap_accessing.proofs.bytes.VecOctetsToRecords.to_records.Given as goal

abbrev pub invariant-loop-octets : goal.invariant-loop-octets
invariant-loop-octets l = l.copy.items ≡ take l.octets-index l.octets-items
