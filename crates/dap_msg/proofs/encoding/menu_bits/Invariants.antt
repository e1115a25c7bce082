use Rattle.std.proofs.Common.{◌≡◌, ◌-◌, ◌^◌, ◌<◌, ◌≤◌, length, drop}
use Rattle.std.specs.Prelude.{map}
use Rattle.dap_msg.specs.Canon.{bits_of}
use Rattle.dap_msg.specs.Inner.Fields.{is_there}
use Rattle.dap_msg.proofs.encoding.menu_bits.Given as goal

abbrev pub invariant-fields : goal.invariant-fields
invariant-fields l = (l.at ≤ length l.fields) × (l.bits ≡ bits_of (map is_there (drop l.at l.fields))) × (l.bits < 2 ^ (length l.fields - l.at))

abbrev pub decreases-fields : goal.decreases-fields
decreases-fields l = l.at
