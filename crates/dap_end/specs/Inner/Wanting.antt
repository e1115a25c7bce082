-- Whether memory ran out, by the result of a call.
use Rattle.std.specs.Prelude.{Bool, false, Result, Ok, Err}
use Rattle.nsp_link.specs.declared.link.Got.{Got}
use Rattle.dap_end.specs.declared.fault.EndFault.{EndFault}
use Rattle.dap_end.specs.declared.fault.EndFault.TheVariants as end_fault
use Rattle.dap_end.specs.declared.fault.TakeFault.{TakeFault}
use Rattle.dap_end.specs.declared.fault.TakeFault.TheVariants as take_fault
use Rattle.dap_end.specs.Wanting.{is_want}

abbrev pub went_wanting : Result (Unit {0}) EndFault → Bool
went_wanting (Ok done) = false
went_wanting (Err f) = is_want f

abbrev pub took_wanting : Result Got TakeFault → Bool
took_wanting (Ok got) = false
took_wanting (Err (take_fault.Refused f)) = is_want (end_fault.Link f)
took_wanting (Err (take_fault.Unfinished got f)) = is_want f
