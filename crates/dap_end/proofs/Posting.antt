-- Where a link takes all that an end may send, no message that waits is too long.
use Rattle.std.proofs.Common.{◌≡◌, ◌≢◌, arith, []}
use Rattle.nsp_link.specs.Limits.{max_limit}
use Rattle.nsp_link.specs.declared.fault.LinkFault.{LinkFault}
use Rattle.nsp_link.specs.declared.fault.LinkFault.TheVariants as fault
use Rattle.nsp_link.specs.Sending.{SendAllFault}
use Rattle.dap_end.specs.Ports.{PortValue}
use Rattle.dap_end.specs.Inner.Kept.{IsPort}

pub not_long : (p : PortValue) (f : LinkFault) → IsPort p → p.link.setup.max_message ≡ max_limit → SendAllFault p.link p.outbox f → f ≢ fault.MessageTooLong
not_long p fault.MessageTooLong kept most h = λ e. (let long = h.1 in absurd (omega (arith, kept.short long.0 [] long.1, long.2, most)))
not_long p fault.Failed kept most h = λ e. cc
not_long p fault.Exhausted kept most h = λ e. cc
not_long p fault.NoMemory kept most h = λ e. cc
not_long p fault.BadSetup kept most h = absurd h
not_long p (fault.Malformed s) kept most h = absurd h
not_long p fault.WrongLink kept most h = absurd h
not_long p fault.BadSequence kept most h = absurd h
not_long p fault.NoSuchSegment kept most h = absurd h
