-- What a client keeps of its requests and answers. It is as after any requests and answers that leave this.
use Rattle.std.specs.Prelude.{ℕ, ◌+◌, ◌≡◌, ◌≤◌, Bool, true, false, if◌then◌else◌, List, ◌++◌, length, Option, Some, None}
use Rattle.std.specs.Option.{option_or}
use Rattle.dap_msg.specs.declared.message.Configuration.{Configuration}
use Rattle.dap_msg.specs.declared.items.Item.{Item}
use Rattle.dap_accessing.specs.Request.{Request}
use Rattle.dap_accessing.specs.declared.report.Report.TheVariants as report
use Rattle.dap_accessing.specs.declared.phase.Phase.{Phase}
use Rattle.dap_accessing.specs.declared.pending.Pending.{Pending}
use Rattle.dap_accessing.specs.declared.pending.Pending.TheVariants as pending
use Rattle.dap_accessing.specs.Told.{Hearing, Unexpected, hear, hear_config, hear_attributes, hear_ack, hear_record, hear_done, after_those, has_success, first_told, hear_completed, Told, Due, NothingDue, AnswersDue, due_after}
use Rattle.dap_accessing.specs.Parts.{hear_opened, is_record, records_in_front, hear_batch_end, is_status, statuses_in_front, hear_store_end}
use Rattle.dap_accessing.specs.Phase.{phase_after, limit_after}

-- What answers report to a request whose earlier answers left this: of a fetch more records, of a Store its end and
-- the first refusal so far.
abbrev pub hear_from : Pending → List Item → Hearing
hear_from pending.Config answers = hear_config answers
hear_from pending.Attributes answers = hear_attributes answers
hear_from (pending.Opened org rfm mrs mrn) answers = hear_opened (report.Opened org rfm mrs mrn) answers
hear_from pending.Connected answers = hear_ack report.Connected answers
hear_from pending.Record answers = hear_record answers
hear_from pending.Done answers = hear_done answers
hear_from (pending.Batch records) answers = hear_batch_end (records ++ records_in_front answers) (after_those is_record answers)
hear_from (pending.Stored first) answers =
    if has_success (statuses_in_front answers) then Unexpected
    else hear_store_end (option_or first (first_told (statuses_in_front answers))) (after_those is_status answers)
hear_from pending.Closed answers = hear_completed report.Closed answers

-- the client's BUFSIZ and its Configuration, whether it has failed, its phase, the peer's limit, and what is still to
-- come of the answers to a request
pub record ClientState : Type 0 where
  pub own : ℕ
  pub identity : Configuration
  pub failed : Bool
  pub phase : Phase
  pub limit : ℕ
  pub pending : Option Pending

-- a client after an unexpected answer
abbrev pub failed_after : ClientState → ClientState
failed_after p = record p { failed = true; pending = None }

-- what is pending is what is due
abbrev pub FitsDue : Due → Option Pending → Type 0
FitsDue NothingDue None = Unit {0}
FitsDue (AnswersDue request so_far) (Some pending) = (more : List Item) → hear request (so_far ++ more) ≡ hear_from pending more
FitsDue _ _ = ⊥

-- the client is as after these requests and answers: it works, and its phase, its limit and what is pending are those
-- that they leave
pub record ClientAfter (requests : List Request) (answers : List Item) (present : ClientState) : Type 0 where
  pub own : present.own ≡ present.identity.bufsiz
  pub works : present.failed ≡ false
  pub phase : present.phase ≡ phase_after (Told requests answers)
  pub limit : present.limit ≡ limit_after (Told requests answers)
  -- one report at most is due
  pub alone : length requests ≤ length (Told requests answers) + 1
  pub pending : FitsDue (due_after requests answers) present.pending
