-- The answers of a server (DAP 5.6.0, Status message). Which code and reason is used is a choice of this
-- implementation.
use Rattle.std.specs.Prelude.{ℕ, ◌-◌, Bool, if◌then◌else◌, List, [], ◌∷◌, Some, unwrap_or, Result, Ok, Err}
use Rattle.dap_msg.specs.Codes as codes
use Rattle.dap_msg.specs.declared.message.Message.{Message}
use Rattle.dap_msg.specs.declared.message.Message.TheVariants.{Attrib, Status, Ack}
use Rattle.dap_msg.specs.declared.message.Attributes.{Attributes}
use Rattle.dap_msg.specs.declared.message.StatusFields.{StatusFields}
use Rattle.dap_msg.specs.Formats.{type_number as type_of}
use Rattle.dap_msg.specs.BothEnds.{four_bytes, complete_with, no_attributes}
use Rattle.rec_file.specs.declared.shapes.Org.{Org}
use Rattle.rec_file.specs.declared.shapes.Org.TheVariants.{Seq, Rel}
use Rattle.rec_file.specs.declared.shapes.Format.{Format}
use Rattle.rec_file.specs.declared.shapes.Format.TheVariants.{Fixed, Variable}
use Rattle.rec_file.specs.declared.shapes.Shape.{Shape}
use Rattle.rec_file.specs.declared.look.Look.{Look}
use Rattle.rec_file.specs.Looks.{front_size}
use Rattle.rec_file.specs.declared.refusals.Refusal.{Refusal}
use Rattle.rec_file.specs.declared.refusals.Refusal.TheVariants.{NotPermitted, NoCurrent, RecordNotFound, RecordExists, NumberOutOfRange, BadLength, BadAccessMode, DeleteNotAllowed, BadKey, EndOfFile}

-- a Status message
abbrev pub status : (code : ℕ) → (rfa recnum stv : List ℕ) → Message
status code rfa recnum stv = Status (record { code = code; rfa = rfa; recnum = recnum; stv = stv })

-- a Status with a code alone
abbrev pub bare_status : ℕ → Message
bare_status code = status code [] [] []

-- a Status with a reason, and perhaps the number of a record
abbrev pub reason_status : (code reason : ℕ) → List ℕ → Message
reason_status code reason recnum = status code [] recnum (reason ∷ [])

-- an Access that is refused for this reason
abbrev pub refused_access : (reason : ℕ) → Message
refused_access reason = reason_status codes.stscode.access_refused reason []

-- out of synchronization: a message of this type may not come now
abbrev pub sync_status : Message → Message
sync_status message = bare_status (codes.out_of_sequence (type_of message))

-- the byte of the reason in STV, 0 if a refusal has none
abbrev pub reason_of : Refusal → ℕ
reason_of NotPermitted = codes.reasons.not_permitted
reason_of NoCurrent = codes.reasons.no_current
reason_of RecordNotFound = codes.reasons.record_not_found
reason_of RecordExists = codes.reasons.record_exists
reason_of NumberOutOfRange = codes.reasons.number_out_of_range
reason_of BadLength = codes.reasons.bad_length
reason_of BadAccessMode = codes.reasons.bad_access_mode
reason_of DeleteNotAllowed = codes.reasons.delete_not_allowed
reason_of BadKey = codes.reasons.bad_key
reason_of _ = 0

-- The Status of a refused operation on a record. The end of the file has a code without a reason. In a Store RECNUM
-- has the ordinal.
abbrev pub refusal_status : Refusal → (recnum : List ℕ) → Message
refusal_status EndOfFile recnum = bare_status codes.stscode.end_of_file
refusal_status refusal recnum = reason_status codes.stscode.record_refused (reason_of refusal) recnum

-- success of a PUT, an UPDATE or a DELETE, with the record's number as RFA and RECNUM
abbrev pub done_status : ℕ → Message
done_status n = status codes.stscode.success (four_bytes n) (four_bytes n) []

-- the Status of an operation on a record
abbrev pub record_status : Result ℕ Refusal → Message
record_status (Ok n) = done_status n
record_status (Err refusal) = refusal_status refusal []

-- a record's Data message is longer than the peer takes
abbrev pub too_large : Message
too_large = reason_status codes.stscode.record_refused codes.reasons.too_large_for_buffer []

-- a Status as a full server has it: the code of a refusal with a reason is RMS's
abbrev pub coded_status : (full : Bool) → StatusFields → StatusFields
coded_status full s =
    elim s.stv [
      | [] ↦ s
      | reason ∷ _ ↦ record s { code = if full then codes.rms_code s.code reason else s.code }
    ]

-- an answer as a full server has it
abbrev pub coded : (full : Bool) → Message → Message
coded full (Status s) = Status (coded_status full s)
coded full message = message

-- the Access Complete that answers the end of an access or a stream
abbrev pub complete_response : Message
complete_response = complete_with codes.cmpfunc.response

-- an erased file is answered by an Acknowledge, and its access is complete
abbrev pub erased_with : List Message
erased_with = Ack ∷ complete_response ∷ []

-- the code of ORG
abbrev pub org_number : Org → ℕ
org_number Seq = codes.org.sequential
org_number Rel = codes.org.relative

-- the code of RFM
abbrev pub format_number : Format → ℕ
format_number Fixed = codes.rfm.fixed
format_number Variable = codes.rfm.variable

-- the attributes that are kept with a file
abbrev pub look_attributes : Look → Attributes
look_attributes look = record no_attributes {
  datatype = look.datatype;
  rfm = look.rfm;
  rat = look.rat;
  bls = look.bls;
  bks = look.bks;
  fsz = look.fsz;
  bsz = look.bsz;
}

-- MRS as it was given: the limit of a record without its fixed part in front
abbrev pub given_limit : Shape → Look → ℕ
given_limit shape look = shape.mrs - front_size look

-- the attributes of a file: ORG, RFM, MRS and MRN, the last in 4 bytes, and what is kept with it
abbrev pub file_attributes : Shape → Look → Attributes
file_attributes shape look = record (look_attributes look) {
  org = Some (org_number shape.org);
  rfm = Some (unwrap_or look.rfm (format_number shape.format));
  mrs = Some (given_limit shape look);
  mrn = Some (four_bytes shape.mrn);
}

-- they are a message
abbrev pub attributes_for : Shape → Look → Message
attributes_for shape look = Attrib (file_attributes shape look)

-- an open file is answered by its Attributes and an Acknowledge
abbrev pub opened_with : Shape → Look → List Message
opened_with shape look = attributes_for shape look ∷ Ack ∷ []
