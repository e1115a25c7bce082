-- What answers come to, one after another, with what was gathered of those before them.
use Rattle.std.specs.Prelude.{ℕ, nat_le, if◌then◌else◌, List, [], ◌∷◌, ◌++◌, Option, Some, unwrap_or}
use Rattle.std.specs.Option.{option_or}
use Rattle.dap_msg.specs.Codes as codes
use Rattle.dap_msg.specs.declared.message.Message.TheVariants.{Attrib, Accomp, Filedata, Status, Other}
use Rattle.dap_msg.specs.declared.items.Item.{Item}
use Rattle.dap_msg.specs.declared.items.Item.TheVariants.{Whole}
use Rattle.dap_msg.specs.BothEnds.{number_of}
use Rattle.rec_file.specs.Limits.{max_record_number}
use Rattle.dap_accessing.specs.declared.report.Report.{Report}
use Rattle.dap_accessing.specs.declared.report.Report.TheVariants as report
use Rattle.dap_accessing.specs.declared.pending.Pending.{Pending}
use Rattle.dap_accessing.specs.declared.pending.Pending.TheVariants as pending
use Rattle.dap_accessing.specs.Told.{Hearing, Reports, Waits, Unexpected, hear_refusal, hear_config, hear_ack, hear_record, hear_done, hear_completed, told_of}
use Rattle.dap_accessing.specs.Parts.{opened_as, batch_ending, completes}

-- the Ack of an open or a create
abbrev pub gather_opened : Report → List Item → Hearing
gather_opened done (Whole (Other _ _) ∷ rest) = gather_opened done rest
gather_opened done answers = hear_ack done answers

-- the attributes of the file and then the Ack
abbrev pub gather_attributes : List Item → Hearing
gather_attributes [] = Waits
gather_attributes (Whole (Other _ _) ∷ rest) = gather_attributes rest
gather_attributes (Whole (Attrib a) ∷ rest) =
    if nat_le (number_of (unwrap_or a.mrn [])) max_record_number then gather_opened (opened_as a) rest else Unexpected
gather_attributes (Whole (Status status) ∷ rest) = hear_refusal (Whole (Status status) ∷ rest)
gather_attributes (_ ∷ rest) = Unexpected

-- the records of a fetch, after those so far, and then its Status
abbrev pub gather_batch : List (ℕ × List ℕ) → List Item → Hearing
gather_batch records [] = Waits
gather_batch records (Whole (Filedata recnum body) ∷ rest) = gather_batch (records ++ (number_of recnum, body) ∷ []) rest
gather_batch records (Whole (Status status) ∷ rest) =
    if codes.is_success status.code then Unexpected else Reports (report.Batch records (batch_ending status)) rest
gather_batch records (_ ∷ rest) = Unexpected

-- the refusals of a Store, of which the first is kept, and then its end
abbrev pub gather_stored : Option (ℕ × ℕ × ℕ) → List Item → Hearing
gather_stored first [] = Waits
gather_stored first (Whole (Status status) ∷ rest) =
    if codes.is_success status.code then Unexpected else gather_stored (option_or first (Some (told_of status))) rest
gather_stored first (Whole (Accomp c) ∷ rest) = completes c.func (report.Stored first) rest
gather_stored first (_ ∷ rest) = Unexpected

-- what answers come to, where this is still to come
abbrev pub gather : Pending → List Item → Hearing
gather pending.Config answers = hear_config answers
gather pending.Attributes answers = gather_attributes answers
gather (pending.Opened org rfm mrs mrn) answers = gather_opened (report.Opened org rfm mrs mrn) answers
gather pending.Connected answers = hear_ack report.Connected answers
gather pending.Record answers = hear_record answers
gather pending.Done answers = hear_done answers
gather (pending.Batch records) answers = gather_batch records answers
gather (pending.Stored first) answers = gather_stored first answers
gather pending.Closed answers = hear_completed report.Closed answers
