-- Names for parts of what answers report.
use Rattle.std.specs.Prelude.{ℕ, Bool, ◌==◌, if◌then◌else◌, List, Option, is_some}
use Rattle.dap_msg.specs.Codes as codes
use Rattle.dap_msg.specs.declared.message.Attributes.{Attributes}
use Rattle.dap_msg.specs.declared.message.StatusFields.{StatusFields}
use Rattle.dap_msg.specs.declared.items.Item.{Item}
use Rattle.dap_msg.specs.BothEnds.{with_defaults}
use Rattle.dap_accessing.specs.declared.report.Report.{Report}
use Rattle.dap_accessing.specs.declared.report.Report.TheVariants as report
use Rattle.dap_accessing.specs.declared.report.Ending.{Ending}
use Rattle.dap_accessing.specs.Told.{Hearing, Reports, Unexpected, reason_in, hear_failure, hear_ack, after_those, is_other, hear_completed, ending_by, in_front, record_in, status_in}

-- the Acknowledge that ends an opening; messages of types 10 to 16 before it are ignored
abbrev pub hear_opened : Report → List Item → Hearing
hear_opened done answers = hear_ack done (after_those is_other answers)

-- the report of an opened file
abbrev pub opened_as : Attributes → Report
opened_as a = with_defaults (λ org rfm mrs mrn. report.Opened org rfm mrs mrn) a

-- how a fetch ended
abbrev pub batch_ending : StatusFields → Ending
batch_ending status = ending_by status.code (reason_in status.stv)

-- a Data message
abbrev pub is_record : Item → Bool
is_record answer = is_some (record_in answer)

-- the records before the first answer that is no Data message
abbrev pub records_in_front : List Item → List (ℕ × List ℕ)
records_in_front answers = in_front record_in answers

-- the Status of a fetch, with these records before it
abbrev pub hear_batch_end : List (ℕ × List ℕ) → List Item → Hearing
hear_batch_end records answers = hear_failure (λ status. report.Batch records (batch_ending status)) answers

-- a Status message
abbrev pub is_status : Item → Bool
is_status answer = is_some (status_in answer)

-- the Statuses before the first answer that is no Status
abbrev pub statuses_in_front : List Item → List StatusFields
statuses_in_front answers = in_front status_in answers

-- the Access Complete of a store, with this first refusal before it
abbrev pub hear_store_end : Option (ℕ × ℕ × ℕ) → List Item → Hearing
hear_store_end first answers = hear_completed (report.Stored first) answers

-- an Access Complete with this CMPFUNC
abbrev pub completes : ℕ → Report → List Item → Hearing
completes func done rest = if func == codes.cmpfunc.response then Reports done rest else Unexpected
