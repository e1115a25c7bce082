-- A client reads all that came, and does all that this lets it do.
use Rattle.std.specs.Prelude.{◌≡◌, ℕ, Result, Ok, Err, List, [], ◌++◌, Option, option_to_list}
use Rattle.nsp_link.specs.Sending.{SendAllFault}
use Rattle.dap_accessing.specs.declared.report.Report.{Report}
use Rattle.dap_accessing.specs.declared.fault.ReadFault.{ReadFault}
use Rattle.dap_accessing.specs.declared.fault.ReadFault.TheVariants as read_fault
use Rattle.nsp_link.specs.declared.link.Got.{Got}
use Rattle.dap_end.specs.declared.fault.TakeFault.{TakeFault}
use Rattle.dap_end.specs.declared.fault.TakeFault.TheVariants as take_fault
use Rattle.dap_end.specs.declared.fault.EndFault.{EndFault}
use Rattle.dap_end.specs.declared.fault.EndFault.TheVariants as end_fault
use Rattle.dap_end.specs.Writing.{Extends}
use Rattle.dap_end.specs.Turns.{DidAll, EndOf, TookIn}
use Rattle.dap_accessing.specs.Present.{ClientState}
use Rattle.dap_end.specs.Asking.{ReadOne, ReadNone}
use Rattle.dap_end.specs.Done.{AskingValue}

-- Answers that came were read, one after another, and these reports were added.
pub data ReadOn : AskingValue → AskingValue → List Report → Type 0 where
  nothing_read : {v : AskingValue} → ReadOn v v []
  one_read : {old new : AskingValue} {all : List Report} (mid : AskingValue) (report : Option Report) (more : List Report)
      → ReadOne old mid report → ReadOn mid new more → all ≡ option_to_list report ++ more → ReadOn old new all

-- why nothing more is read or passed on: what waits is refused, once all is read; or the next answer isn't read
abbrev pub HearFault : (old new : AskingValue) → EndFault → Type 0
HearFault old new (end_fault.Link f) =
    (new ≡ old) × (old.port.link.coming.inbox ≡ []) × SendAllFault old.port.link old.port.outbox f
HearFault old new (end_fault.Read f) = ReadNone old new f

-- the client as one of the two ends: its reports follow those before
abbrev pub hears : (before reports : List Report) → EndOf ClientState
hears before reports =
    record {
      on = λ old new. Extends before reports (ReadOn old new);
      rests = λ v. v.port.link.coming.inbox ≡ [];
      halts = HearFault;
      quiet = reports ≡ before;
    }

-- What a packet does to a client that has failed: it is received or refused, and nothing is read of it.
abbrev pub TakesNone : (old new : AskingValue) → (bytes : List ℕ) → Result Got TakeFault → Type 0
TakesNone old new bytes (Ok got) = ⊥
TakesNone old new bytes (Err (take_fault.Refused f)) = TookIn old new bytes (Err f)
TakesNone old new bytes (Err (take_fault.Unfinished got f)) =
    TookIn old new bytes (Ok got) × (f ≡ end_fault.Read read_fault.Failed)

-- all that came was read, or this is why not
abbrev pub ReadsAll : (old new : AskingValue) → (before reports : List Report) → Result (Unit {0}) ReadFault → Type 0
ReadsAll old new before reports (Ok done) = Extends before reports (ReadOn old new) × (new.port.link.coming.inbox ≡ [])
ReadsAll old new before reports (Err f) = DidAll (hears before reports) old new (Err (end_fault.Read f))
