-- The messages that answers stand for, and how answers are written.
use Rattle.std.specs.Prelude.{ℕ, ◌≡◌, ◌≤◌, List, [], ◌∷◌, ◌++◌, length, Result, OnOk}
use Rattle.std.specs.Global.{Vec}
use Rattle.std.specs.Vec.{vec_capacity}
use Rattle.dap_msg.specs.Codes as codes
use Rattle.dap_msg.specs.declared.message.Message.{Message}
use Rattle.dap_msg.specs.declared.message.Message.TheVariants.{Config, Ack, Filedata}
use Rattle.dap_msg.specs.Canon.{canon}
use Rattle.dap_msg.specs.Sizes.{file_data_size}
use Rattle.dap_msg.specs.BothEnds.{four_bytes, min_buffer}
use Rattle.dap_msg.specs.Fitting.{FieldsFit}
use Rattle.rec_file.specs.Limits.{max_record}
use Rattle.rec_file.specs.Looks.{IsLook}
use Rattle.dap_accessed.specs.declared.answers.Answer.{Answer}
use Rattle.dap_accessed.specs.declared.answers.Answer.TheVariants as answer
use Rattle.dap_accessed.specs.declared.fault.NoMemory.{NoMemory}
use Rattle.dap_accessed.specs.Replies.{attributes_for, complete_response, status, bare_status}
use Rattle.dap_accessed.specs.Served.{AreAnswers}

abbrev pub reply_message : Answer → Message
reply_message (answer.Config own) = Config own
reply_message (answer.Attributes shape look mrn) = attributes_for shape look
reply_message answer.Ack = Ack
reply_message answer.Complete = complete_response
reply_message (answer.Status code) = bare_status code
reply_message (answer.Reason code reason) = status code [] [] reason
reply_message (answer.StoreRefusal code reason ordinal) = status code [] ordinal reason
reply_message (answer.Done number) = status codes.stscode.success number number []
reply_message (answer.Record number body) = Filedata number body.now

-- its numbers fit, its bytes are those of them, and a record is one that a file may have
abbrev pub IsWritableReply : Answer → Type 0
IsWritableReply (answer.Config own) = FieldsFit (Config own)
IsWritableReply (answer.Attributes shape look mrn) = (mrn ≡ four_bytes shape.mrn) × IsLook shape look
IsWritableReply (answer.Record number body) = length body.now ≤ max_record
IsWritableReply _ = Unit {0}

-- every answer but a record is short
abbrev pub IsShortReply : Answer → Type 0
IsShortReply (answer.Record number body) = ⊥
IsShortReply a = IsWritableReply a

-- its message has no more bytes than these
abbrev pub most_bytes : Answer → ℕ
most_bytes (answer.Record number body) = file_data_size 4 (length body.now)
most_bytes _ = min_buffer

-- the answer can be written, and is no longer than the limit
abbrev pub FitsIn : ℕ → Answer → Type 0
FitsIn limit a = IsWritableReply a × (most_bytes a ≤ limit)

abbrev pub IsAtMost : ℕ → Message → Type 0
IsAtMost most m = length (canon m) ≤ most

-- where the call answers, the message follows those before
abbrev pub AddsAnswer : ℕ → Message → Vec (Vec ℕ) → Vec (Vec ℕ) → Result (Unit {0}) NoMemory → Type 0
AddsAnswer limit m old new result =
    OnOk result ((messages : List Message) → AreAnswers limit messages old → AreAnswers limit (messages ++ m ∷ []) new)

-- it is empty, and this many more take no memory
abbrev pub IsEmptyFor : {X : Type 0} → ℕ → Vec X → Type 0
IsEmptyFor n v = (v.items ≡ []) × (n ≤ vec_capacity v)
