use Rattle.std.proofs.Common.{◌≡◌, take, true}
use Rattle.std.specs.List.{list_all}
use Rattle.dap_meanings.specs.Quoted.{is_printable}
use Rattle.dap_meanings.proofs.quoted.are_printable.Given as goal

abbrev pub invariant-loop-byte : goal.invariant-loop-byte
invariant-loop-byte l = list_all is_printable (take l.byte-index l.bytes) ≡ true
