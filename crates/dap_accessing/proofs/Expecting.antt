-- An answer that comes to something is expected.
use Rattle.std.proofs.Common.{◌≡◌, ℕ, List, ◌++◌, ◌∷◌, [], refl, inl, inr}
use Rattle.std.specs.Prelude.{◌==◌, if◌then◌else◌}
use Rattle.dap_msg.specs.Codes as codes
use Rattle.dap_msg.specs.BothEnds.{number_of}
use Rattle.dap_msg.specs.declared.message.Message.{Message}
use Rattle.dap_msg.specs.declared.message.Message.TheVariants.{Filedata, Status}
use Rattle.dap_msg.specs.declared.items.Item.{Item}
use Rattle.dap_msg.specs.declared.items.Item.TheVariants.{Whole}
use Rattle.dap_accessing.specs.declared.report.Report.TheVariants as report
use Rattle.dap_accessing.specs.declared.pending.Pending.{Pending}
use Rattle.dap_accessing.specs.declared.pending.Pending.TheVariants as pending
use Rattle.dap_accessing.specs.declared.pending.Heard.{Heard}
use Rattle.dap_accessing.specs.declared.pending.Heard.TheVariants as heard
use Rattle.dap_accessing.specs.Told.{refusal}
use Rattle.dap_accessing.specs.Parts.{batch_ending}
use Rattle.dap_accessing.specs.Inner.Hears.{Hears, IsInSequence, IsRecordOrRefusal}

pub heard_in_sequence : (p : Pending) (item : Item) (h : Heard) → Hears p item h → (h ≡ heard.Unexpected → ⊥) → IsInSequence p item
heard_in_sequence p item (heard.Waits next) hears expected = inl (next, hears)
heard_in_sequence p item (heard.Reports done) hears expected = inr (done, hears)
heard_in_sequence p item heard.Unexpected hears expected = absurd (expected refl)
heard_in_sequence p item (heard.NoMemory same) hears expected = hears.1

pub record_in_sequence : (m : Message) → IsRecordOrRefusal m → IsInSequence pending.Record (Whole m)
record_in_sequence (Filedata recnum body) is = inr (report.Found (number_of recnum) body, λ rest. refl)
record_in_sequence (Status status) is =
    inr ((if status.code == codes.stscode.end_of_file then report.EndOfFile else refusal status), λ rest. rw is refl)
record_in_sequence _ is = absurd is

pub batch_in_sequence : (records : List (ℕ × List ℕ)) (m : Message) → IsRecordOrRefusal m → IsInSequence (pending.Batch records) (Whole m)
batch_in_sequence records (Filedata recnum body) is = inl (pending.Batch (records ++ (number_of recnum, body) ∷ []), λ rest. refl)
batch_in_sequence records (Status status) is = inr (report.Batch records (batch_ending status), λ rest. rw is refl)
batch_in_sequence records _ is = absurd is
