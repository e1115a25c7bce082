-- How a call ends.
use Rattle.std.specs.Prelude.{Result, Ok, Err}
use Rattle.dap_end.specs.declared.fault.EndFault.{EndFault}
use Rattle.dap_end.specs.declared.fault.EndFault.TheVariants as end_fault
use Rattle.nsp_link.specs.declared.fault.LinkFault.{LinkFault}

-- a call of an end ends as its link does
abbrev pub ended_by : Result (Unit {0}) LinkFault → Result (Unit {0}) EndFault
ended_by (Ok done) = Ok tt
ended_by (Err f) = Err (end_fault.Link f)
