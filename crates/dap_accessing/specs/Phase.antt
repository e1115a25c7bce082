-- The client's phase and the peer's limit follow from the reports. Which requests are admissible follows from these.
use Rattle.std.specs.Prelude.{◌≡◌, ℕ, List, [], ◌∷◌, fold}
use Rattle.std.specs.List.{IsAmong}
use Rattle.dap_msg.specs.declared.message.Configuration.{Configuration}
use Rattle.dap_msg.specs.declared.items.Item.{Item}
use Rattle.dap_msg.specs.BothEnds.{message_limit, max_nsp_message}
use Rattle.dap_msg.specs.Sendable.{AreSendable}
use Rattle.dap_accessing.specs.Request.{Request}
use Rattle.dap_accessing.specs.declared.request.Request.TheVariants.{Hello, Create, OpenFile, Connect, Continue, Close, Purge}
use Rattle.dap_accessing.specs.declared.report.Report.{Report}
use Rattle.dap_accessing.specs.declared.report.Report.TheVariants as report
use Rattle.dap_accessing.specs.declared.report.Ending.TheVariants as ending
use Rattle.dap_accessing.specs.declared.fault.AskFault.{AskFault}
use Rattle.dap_accessing.specs.declared.fault.AskFault.TheVariants.{Failed, Busy, WrongPhase, TooLarge, NoMemory}
use Rattle.dap_accessing.specs.declared.phase.Phase.{Phase}
use Rattle.dap_accessing.specs.declared.phase.Phase.TheVariants.{Fresh, Ready, Opened, Connected, Stopped}
use Rattle.dap_accessing.specs.Asked.{messages_of}
use Rattle.dap_accessing.specs.Told.{Told, NothingDue, due_after}

-- The phase after a report. A refusal, and all that isn't named here, leaves it.
abbrev pub phase_next : Phase → Report → Phase
phase_next phase (report.Ready _) = Ready
phase_next phase (report.Opened _ _ _ _) = Opened
phase_next phase report.Connected = Connected
phase_next phase (report.Batch _ ending.Stopped) = Stopped
phase_next phase (report.Batch _ _) = Connected
phase_next phase (report.Stored _) = Opened
phase_next phase report.Closed = Ready
phase_next phase _ = phase

-- the phase after all reports: Fresh at first
abbrev pub phase_after : List Report → Phase
phase_after reports = fold phase_next Fresh reports

-- the maximum length of a message to the peer, after a report
abbrev pub limit_next : ℕ → Report → ℕ
limit_next limit (report.Ready bufsiz) = message_limit bufsiz
limit_next limit _ = limit

-- at first 65,535 bytes, and after the answer to Hello what its BUFSIZ allows
abbrev pub limit_after : List Report → ℕ
limit_after reports = fold limit_next max_nsp_message reports

-- the phases in which a request may be asked
abbrev pub phases_for : Request → List Phase
phases_for Hello = Fresh ∷ []
phases_for (Create _ _ _ _ _ _) = Ready ∷ []
phases_for (OpenFile _ _) = Ready ∷ []
phases_for Connect = Opened ∷ []
phases_for (Continue _) = Stopped ∷ []
phases_for Close = Opened ∷ Connected ∷ Stopped ∷ []
phases_for Purge = Opened ∷ Connected ∷ Stopped ∷ []
phases_for _ = Connected ∷ []

-- no report is due after these answers
abbrev pub IsNoneDue : List Request → List Item → Type 0
IsNoneDue requests answers = due_after requests answers ≡ NothingDue

-- the phase after the reports is one of the request's
abbrev pub IsInPhase : List Request → List Item → Request → Type 0
IsInPhase requests answers request = IsAmong (phases_for request) (phase_after (Told requests answers))

-- Admissible after requests and answers: no report is due, the phase is right, and each message has a spelling and is
-- within the peer's limit.
abbrev pub IsAdmissible : (own : Configuration) → List Request → List Item → Request → Type 0
IsAdmissible own requests answers request =
    IsNoneDue requests answers × IsInPhase requests answers request
    × AreSendable (limit_after (Told requests answers)) (messages_of own request)

-- Why a request isn't asked: the first of these that holds. Memory is refused only to an admissible request. A client
-- that has failed is a case of `AskRefused`.
abbrev pub IsRefused : (own : Configuration) → List Request → List Item → Request → AskFault → Type 0
IsRefused own requests answers request Busy = IsNoneDue requests answers → ⊥
IsRefused own requests answers request WrongPhase = IsNoneDue requests answers × (IsInPhase requests answers request → ⊥)
IsRefused own requests answers request TooLarge =
    IsNoneDue requests answers × IsInPhase requests answers request
    × (AreSendable (limit_after (Told requests answers)) (messages_of own request) → ⊥)
IsRefused own requests answers request NoMemory = IsAdmissible own requests answers request
IsRefused own requests answers request Failed = ⊥
