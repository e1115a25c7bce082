-- What the world keeps of an end beside the end itself, and what one event adds to that.
use Rattle.std.specs.Prelude.{◌≡◌, ◌≢◌, ℕ, ◌+◌, ◌-◌, ◌<◌, ◌≤◌, List, [], ◌∷◌, ◌++◌, length, Option, Some, None, All, IsTrue, false}
use Rattle.nsp_link.specs.Link.{LinkValue, may_send}
use Rattle.nsp_link.specs.Cutting.{cut}
use Rattle.nsp_link.specs.Limits.{max_segments}
use Rattle.nsp_link.specs.Sending.{WritesSent}
use Rattle.dap_accessing.specs.Present.{ClientState}
use Rattle.dap_accessing.specs.Calls.{AskRefused, IsAdmittedBy}
use Rattle.dap_accessing.specs.Request.{Request}
use Rattle.dap_accessing.specs.declared.report.Report.{Report}
use Rattle.dap_accessing.specs.declared.fault.AskFault.TheVariants as ask_fault
use Rattle.dap_end.specs.Asking.{AskedOne}
use Rattle.dap_end.specs.Done.{AskingValue}
use Rattle.dap_end.specs.Ports.{PortValue}
use Rattle.dap_world.specs.declared.side.Wired.{Wired}
use Rattle.dap_events.specs.declared.event.Step.{Step}
use Rattle.dap_events.specs.declared.event.Step.TheVariants as step
use Rattle.dap_events.specs.declared.event.WorldFault.{WorldFault}
use Rattle.dap_events.specs.declared.event.WorldFault.TheVariants as fault

-- an end's port, how many NSP messages it passed to its link, and the packets that it wrote
pub record SideValue : Type 0 where
  pub link : LinkValue
  pub outbox : List (List ℕ)
  pub posted : ℕ
  pub wire : List Wired
  pub offset : ℕ

abbrev pub side_of : PortValue → (posted : ℕ) → List Wired → SideValue
side_of port posted wire = record { link = port.link; outbox = port.outbox; posted = posted; wire = wire; offset = port.offset }

abbrev pub port_of : SideValue → PortValue
port_of s = record { link = s.link; outbox = s.outbox; offset = s.offset }

-- A packet was written after the others. It carries the k-th segment of what was passed on, or none, and what was
-- taken.
pub record WroteWired (v : LinkValue) (old new : List Wired) (k : Option ℕ) (answer : Step) : Type 0 where
  pub index : answer ≡ step.Packet (length old)
  pub wired : Wired
  pub wire : new ≡ old ++ wired ∷ []
  pub segment : wired.segment ≡ k
  pub acks : wired.acks ≡ v.coming.received
  pub writes : WritesSent v k wired.packet.items

-- why no new segment is written
abbrev pub EmitFault : LinkValue → WorldFault → Type 0
EmitFault v fault.NothingToDo = may_send v ≡ false
EmitFault v fault.NoMemory = IsTrue (may_send v)
EmitFault v _ = ⊥

-- why no segment is written again
abbrev pub ResendFault : LinkValue → ℕ → WorldFault → Type 0
ResendFault v i fault.NothingToDo = v.sent - v.acked ≤ i
ResendFault v i fault.NoMemory = i < v.sent - v.acked
ResendFault v i _ = ⊥

abbrev pub AreWithinLimit : ℕ → List (List ℕ) → Type 0
AreWithinLimit limit messages = All (λ m. length m ≤ limit) messages

-- how many segments there are once these are passed on
abbrev pub segments_with : LinkValue → List (List ℕ) → ℕ
segments_with v waiting = v.acked + length v.queue + length (cut v.setup.seg_size waiting)

-- all that waited, and something did, counts as passed on
abbrev pub PostedSo : (waiting : List (List ℕ)) → (old new : ℕ) → Step → Type 0
PostedSo waiting old new answer = (answer ≡ step.Posted (length waiting)) × (new ≡ old + length waiting) × (0 < length waiting)

-- why nothing is passed on
abbrev pub PostFault : LinkValue → (waiting : List (List ℕ)) → WorldFault → Type 0
PostFault v waiting fault.NothingToDo = waiting ≡ []
PostFault v waiting fault.Exhausted = (0 < length waiting) × (max_segments < segments_with v waiting)
PostFault v waiting fault.NoMemory = (0 < length waiting) × (segments_with v waiting ≤ max_segments)
PostFault v waiting _ = ⊥

-- the request was asked: this many NSP messages wait more
abbrev pub AskedSo : Request → (old new : AskingValue) → Step → Type 0
AskedSo request old new answer = (n : ℕ) × (answer ≡ step.Asked n) × AskedOne request old new n

-- why it isn't asked
abbrev pub AskFaultOf : Request → ClientState → WorldFault → Type 0
AskFaultOf request old (fault.Ask f) = (f ≢ ask_fault.NoMemory) × AskRefused request old f
AskFaultOf request old fault.NoMemory = IsAdmittedBy old request
AskFaultOf request old _ = ⊥

-- the report that was read, if there is one, follows the others
abbrev pub KeptSo : Option Report → (old new : List Report) → Step → Type 0
KeptSo (Some report) old new answer = (answer ≡ step.Reported) × (new ≡ old ++ report ∷ [])
KeptSo None old new answer = (answer ≡ step.Nothing) × (new ≡ old)
