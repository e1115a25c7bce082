-- What one answer does to what an end keeps.
use Rattle.std.specs.Prelude.{ℕ, ◌≡◌, ◌≤◌, ◌⊎◌, false, List, [], ◌∷◌, ◌++◌, length, Option, Some, None, unwrap_or, if◌then◌else◌, Result, Ok, Err}
use Rattle.dap_msg.specs.Codes as codes
use Rattle.dap_msg.specs.declared.message.Message.{Message}
use Rattle.dap_msg.specs.declared.message.Message.TheVariants.{Attrib, Filedata, Status}
use Rattle.dap_msg.specs.declared.items.Item.{Item}
use Rattle.dap_accessing.specs.Request.{Request}
use Rattle.dap_accessing.specs.declared.request.Request.TheVariants as request
use Rattle.dap_accessing.specs.declared.report.Report.{Report}
use Rattle.dap_accessing.specs.declared.report.Report.TheVariants as report
use Rattle.dap_accessing.specs.declared.pending.Pending.{Pending}
use Rattle.dap_accessing.specs.declared.pending.Pending.TheVariants as pending
use Rattle.dap_accessing.specs.declared.pending.Heard.{Heard}
use Rattle.dap_accessing.specs.declared.pending.Heard.TheVariants as heard
use Rattle.dap_accessing.specs.declared.fault.ReadFault.{ReadFault}
use Rattle.dap_accessing.specs.declared.fault.ReadFault.TheVariants as read_fault
use Rattle.dap_accessing.specs.Told.{Hearing, Reports, Waits, Unexpected}
use Rattle.dap_accessing.specs.Phase.{phase_next, limit_next}
use Rattle.dap_accessing.specs.Present.{ClientState, failed_after}
use Rattle.dap_accessing.specs.Inner.Gathers.{gather}

-- what is still to come once a request is asked
abbrev pub pending_of : Request → Pending
pending_of request.Hello = pending.Config
pending_of (request.Create _ _ _ _ _ _) = pending.Attributes
pending_of (request.OpenFile _ _) = pending.Attributes
pending_of request.Connect = pending.Connected
pending_of (request.Get _) = pending.Record
pending_of (request.Put _ _) = pending.Done
pending_of (request.Update _) = pending.Done
pending_of request.Delete = pending.Done
pending_of request.Rewind = pending.Done
pending_of request.Fetch = pending.Batch []
pending_of (request.Store _) = pending.Stored None
pending_of (request.Continue _) = pending.Batch []
pending_of request.Close = pending.Closed
pending_of request.Purge = pending.Closed

-- what a Status of this code and reason comes to where a report is due
abbrev pub refused_as : ℕ → ℕ → Heard
refused_as code reason = if codes.is_success code then heard.Unexpected else heard.Reports (report.Refused code reason)

-- what an answer comes to, with the answers after it
abbrev pub heard_as : Heard → List Item → Hearing
heard_as (heard.Waits pending) rest = gather pending rest
heard_as (heard.Reports done) rest = Reports done rest
heard_as heard.Unexpected rest = Unexpected
heard_as (heard.NoMemory pending) rest = Waits

-- an answer is in sequence here: more is waited for, or the report comes
abbrev pub IsInSequence : Pending → Item → Type 0
IsInSequence pending item =
    ((next : Pending) × ((rest : List Item) → gather pending (item ∷ rest) ≡ gather next rest))
    ⊎ ((done : Report) × ((rest : List Item) → gather pending (item ∷ rest) ≡ Reports done rest))

-- The answer comes to this; or it is in sequence and there was no memory for it, and the same is still to come.
abbrev pub Hears : Pending → Item → Heard → Type 0
Hears pending item (heard.NoMemory same) = (same ≡ pending) × IsInSequence pending item
Hears pending item result = (rest : List Item) → gather pending (item ∷ rest) ≡ heard_as result rest

-- a record is added to a batch
abbrev pub AddsBody : List (ℕ × List ℕ) → ℕ → List ℕ → Heard → Type 0
AddsBody bodies number body (heard.NoMemory same) = same ≡ pending.Batch bodies
AddsBody bodies number body result = result ≡ heard.Waits (pending.Batch (bodies ++ (number, body) ∷ []))

-- a record, or a Status that says why there is none
abbrev pub IsRecordOrRefusal : Message → Type 0
IsRecordOrRefusal (Filedata recnum body) = Unit {0}
IsRecordOrRefusal (Status status) = codes.is_success status.code ≡ false
IsRecordOrRefusal _ = ⊥

-- the numbers in a message that are given as bytes have at most 8
abbrev pub HasShortNumbers : Message → Type 0
HasShortNumbers (Attrib a) = length (unwrap_or a.mrn []) ≤ 8
HasShortNumbers (Filedata recnum _) = length recnum ≤ 8
HasShortNumbers (Status status) = length status.recnum ≤ 8
HasShortNumbers _ = Unit {0}

abbrev pub IsOutOfSequence : Item → Option Pending → Type 0
IsOutOfSequence item None = Unit {0}
IsOutOfSequence item (Some p) = (rest : List Item) → gather p (item ∷ rest) ≡ Unexpected

-- What the next answer does to an end that works: it waits for more, or reports, or is out of sequence; or there is no
-- memory, and nothing is changed.
abbrev pub HearsNext : Item → ClientState → ClientState → Result (Option Report) ReadFault → Type 0
HearsNext item old new (Ok None) =
    (p : Pending) × (next : Pending) × (old.pending ≡ Some p) × ((rest : List Item) → gather p (item ∷ rest) ≡ gather next rest)
    × (new ≡ record old { pending = Some next })
HearsNext item old new (Ok (Some done)) =
    (p : Pending) × (old.pending ≡ Some p) × ((rest : List Item) → gather p (item ∷ rest) ≡ Reports done rest)
    × (new ≡ record old { phase = phase_next old.phase done; limit = limit_next old.limit done; pending = None })
HearsNext item old new (Err read_fault.Unexpected) = (new ≡ failed_after old) × IsOutOfSequence item old.pending
HearsNext item old new (Err read_fault.NoMemory) = (new ≡ old) × ((p : Pending) × (old.pending ≡ Some p) × IsInSequence p item)
HearsNext item old new (Err read_fault.Failed) = ⊥
