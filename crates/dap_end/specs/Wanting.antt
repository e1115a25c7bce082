-- Whether a call stopped because memory was refused.
use Rattle.std.specs.Prelude.{Bool, true, false}
use Rattle.nsp_link.specs.declared.fault.LinkFault.TheVariants as fault
use Rattle.dap_accessing.specs.declared.fault.ReadFault.TheVariants as read_fault
use Rattle.dap_end.specs.declared.fault.EndFault.{EndFault}
use Rattle.dap_end.specs.declared.fault.EndFault.TheVariants as end_fault
use Rattle.dap_end.specs.declared.fault.TakeFault.{TakeFault}
use Rattle.dap_end.specs.declared.fault.TakeFault.TheVariants as take_fault

-- memory was refused
abbrev pub is_want : EndFault → Bool
is_want (end_fault.Link fault.NoMemory) = true
is_want (end_fault.Read read_fault.NoMemory) = true
is_want _ = false

-- why not all was done with a packet
abbrev pub why : TakeFault → EndFault
why (take_fault.Refused f) = end_fault.Link f
why (take_fault.Unfinished got f) = f
