-- What answers to requests report (DAP 5.6.0, message sequences): each request takes the first of the answers that are
-- left. Which answers a request takes is a choice of this implementation.
use Rattle.std.specs.Prelude.{ℕ, Bool, true, false, ◌&&◌, ◌||◌, nat_le, ◌==◌, if◌then◌else◌, List, [], ◌∷◌, ◌++◌, drop, slice_get, take_while, filter_map, Option, Some, None, is_some, option_map}
use Rattle.std.specs.List.{prefix_len, list_any}
use Rattle.dap_msg.specs.Codes as codes
use Rattle.dap_msg.specs.declared.message.StatusFields.{StatusFields}
use Rattle.dap_msg.specs.declared.message.Message.TheVariants.{Config, Attrib, Ack, Accomp, Filedata, Status, Other}
use Rattle.dap_msg.specs.declared.items.Item.{Item}
use Rattle.dap_msg.specs.declared.items.Item.TheVariants.{Whole}
use Rattle.dap_msg.specs.BothEnds.{number_of, is_too_small, with_defaults}
use Rattle.rec_file.specs.Limits.{max_record_number}
use Rattle.dap_accessing.specs.Request.{Request}
use Rattle.dap_accessing.specs.declared.request.Request.TheVariants.{Hello, Create, OpenFile, Connect, Get, Fetch, Store, Continue, Close, Purge}
use Rattle.dap_accessing.specs.declared.report.Report.{Report}
use Rattle.dap_accessing.specs.declared.report.Report.TheVariants as report
use Rattle.dap_accessing.specs.declared.report.Ending.{Ending}
use Rattle.dap_accessing.specs.declared.report.Ending.TheVariants as ending

-- What the answers to a request come to: a report, and the answers that are left; or more answers are due; or one is
-- unexpected. A malformed answer is unexpected.
pub data Hearing : Type 0 where
  Reports : Report → (rest : List Item) → Hearing
  Waits : Hearing
  Unexpected : Hearing

-- the reason of a Status: the byte of STV if there is exactly one, and 0 otherwise
abbrev pub reason_in : List ℕ → ℕ
reason_in (reason ∷ []) = reason
reason_in _ = 0

-- a Status that is no success, reported with its code and its reason
abbrev pub refusal : StatusFields → Report
refusal status = report.Refused status.code (reason_in status.stv)

-- A Status that is no success gives this report. Every other answer is unexpected.
abbrev pub hear_failure : (StatusFields → Report) → List Item → Hearing
hear_failure told [] = Waits
hear_failure told (Whole (Status status) ∷ rest) =
    if codes.is_success status.code then Unexpected else Reports (told status) rest
hear_failure told (_ ∷ rest) = Unexpected

-- A Status that is no success is reported as a refusal, every other answer is unexpected.
abbrev pub hear_refusal : List Item → Hearing
hear_refusal answers = hear_failure refusal answers

-- Hello: the peer's Configuration, or a refusal. A Configuration with a BUFSIZ of 1 to 63 is unexpected.
abbrev pub hear_config : List Item → Hearing
hear_config (Whole (Config config) ∷ rest) =
    if is_too_small config.bufsiz then Unexpected else Reports (report.Ready config.bufsiz) rest
hear_config answers = hear_refusal answers

-- a connection: an Acknowledge gives this report, or there is a refusal
abbrev pub hear_ack : Report → List Item → Hearing
hear_ack done (Whole Ack ∷ rest) = Reports done rest
hear_ack done answers = hear_refusal answers

-- the answers after the first ones that pass the test
abbrev pub after_those : (Item → Bool) → List Item → List Item
after_those test answers = drop (prefix_len test answers) answers

-- a message of type 10 to 16
abbrev pub is_other : Item → Bool
is_other (Whole (Other _ _)) = true
is_other _ = false

-- The attributes of a file, and then the Acknowledge. Attributes with an MRN above that of any file are unexpected.
-- Messages of types 10 to 16 between the two are ignored.
abbrev pub hear_file : List Item → Hearing
hear_file (Whole (Attrib a) ∷ rest) =
    with_defaults (λ org rfm mrs mrn. if nat_le mrn max_record_number then hear_ack (report.Opened org rfm mrs mrn) (after_those is_other rest) else Unexpected) a
hear_file answers = hear_refusal answers

-- an opening; messages of types 10 to 16 before the attributes are ignored too
abbrev pub hear_attributes : List Item → Hearing
hear_attributes answers = hear_file (after_those is_other answers)

-- Get: a Data message is the record, a Status with the code for the end of the file is reported as that, any other is
-- a refusal
abbrev pub hear_record : List Item → Hearing
hear_record (Whole (Filedata recnum body) ∷ rest) = Reports (report.Found (number_of recnum) body) rest
hear_record answers =
    hear_failure (λ status. if status.code == codes.stscode.end_of_file then report.EndOfFile else refusal status) answers

-- Put, Update, Delete or Rewind: a success is reported with the record's number, 0 if it has none
abbrev pub hear_done : List Item → Hearing
hear_done (Whole (Status status) ∷ rest) =
    Reports (if codes.is_success status.code then report.Done (number_of status.recnum) else refusal status) rest
hear_done answers = hear_refusal answers

-- Close or Purge: an Access Complete with CMPFUNC response gives this report
abbrev pub hear_completed : Report → List Item → Hearing
hear_completed done (Whole (Accomp c) ∷ rest) = if c.func == codes.cmpfunc.response then Reports done rest else Unexpected
hear_completed done answers = hear_refusal answers

-- How a fetch ended, by the code and the reason of its Status: at the end of the file, at a record too large for the
-- buffer, also by RMS's code, or refused.
abbrev pub ending_by : ℕ → ℕ → Ending
ending_by code reason =
    if code == codes.stscode.end_of_file then ending.Complete
    else if (code == codes.stscode.record_refused || code == codes.rms_record.too_large_for_buffer) && reason == codes.reasons.too_large_for_buffer then ending.Stopped
    else ending.Refused code reason

-- what is read of the first answers, as long as something is read of each
abbrev pub in_front : {X : Type 0} → (Item → Option X) → List Item → List X
in_front read answers = filter_map read (take_while (λ answer. is_some (read answer)) answers)

-- the number and the bytes of a record, if the answer is a Data message
abbrev pub record_in : Item → Option (ℕ × List ℕ)
record_in (Whole (Filedata recnum body)) = Some (number_of recnum, body)
record_in _ = None

-- Fetch or Continue: the records, and then a Status that is no success
abbrev pub hear_batch : List Item → Hearing
hear_batch answers =
    hear_failure (λ status. report.Batch (in_front record_in answers) (ending_by status.code (reason_in status.stv)))
    (after_those (λ answer. is_some (record_in answer)) answers)

-- the Status, if the answer is one
abbrev pub status_in : Item → Option StatusFields
status_in (Whole (Status status)) = Some status
status_in _ = None

-- one of them is a success
abbrev pub has_success : List StatusFields → Bool
has_success statuses = list_any (λ status. codes.is_success status.code) statuses

-- what a refusal in a Store reports: the code, the reason and the number of the record
abbrev pub told_of : StatusFields → ℕ × ℕ × ℕ
told_of status = (status.code, reason_in status.stv, number_of status.recnum)

-- the first of these, if there is one
abbrev pub first_told : List StatusFields → Option (ℕ × ℕ × ℕ)
first_told statuses = option_map told_of (slice_get statuses 0)

-- Store: the refusals, and then the Access Complete. A success among them is unexpected.
abbrev pub hear_stored : List Item → Hearing
hear_stored answers =
    if has_success (in_front status_in answers) then Unexpected
    else hear_completed (report.Stored (first_told (in_front status_in answers))) (after_those (λ answer. is_some (status_in answer)) answers)

-- what the answers to a request come to
abbrev pub hear : Request → List Item → Hearing
hear Hello answers = hear_config answers
hear (Create _ _ _ _ _ _) answers = hear_attributes answers
hear (OpenFile _ _) answers = hear_attributes answers
hear Connect answers = hear_ack report.Connected answers
hear (Get _) answers = hear_record answers
hear Fetch answers = hear_batch answers
hear (Store _) answers = hear_stored answers
hear (Continue _) answers = hear_batch answers
hear Close answers = hear_completed report.Closed answers
hear Purge answers = hear_completed report.Closed answers
hear _ answers = hear_done answers  -- Put, Update, Delete and Rewind

-- What is due after requests and answers: nothing; more answers to a request, after these; or an answer was
-- unexpected.
pub data Due : Type 0 where
  NothingDue : Due
  AnswersDue : Request → (so_far : List Item) → Due
  Wrong : Due

-- The reports, one for each request whose answers are complete, in order, and what is due then. Answers that are left
-- after the last request are unexpected.
abbrev pub hear_all : List Request → List Item → List Report × Due
hear_all [] answers = ([], elim answers [ [] ↦ NothingDue | _ ∷ _ ↦ Wrong ])
hear_all (request ∷ requests) answers =
    elim (hear request answers) [
      | Reports done rest ↦ let later = hear_all requests rest in (done ∷ later.0, later.1)
      | Waits ↦ ([], AnswersDue request answers)
      | Unexpected ↦ ([], Wrong)
    ]

-- the reports
abbrev pub Told : List Request → List Item → List Report
Told requests answers = (hear_all requests answers).0

-- what is due after them
abbrev pub due_after : List Request → List Item → Due
due_after requests answers = (hear_all requests answers).1

-- the answer is unexpected after these requests and answers
abbrev pub is_unexpected : List Request → List Item → Item → Bool
is_unexpected requests answers answer =
    elim (due_after requests (answers ++ answer ∷ [])) [ NothingDue ↦ false | AnswersDue _ _ ↦ false | Wrong ↦ true ]
