-- Answers that are taken one after another come to what they come to as a whole.
use Rattle.std.proofs.Common.{◌≡◌, ℕ, refl, sym, ◌∙◌, true, false, ap, append_assoc, List, [], ◌∷◌, ◌++◌}
use Rattle.std.specs.Prelude.{nat_le, ◌||◌, Option, Some, None, if◌then◌else◌, unwrap_or}
use Rattle.std.specs.Option.{option_or}
use Rattle.std.proofs.lemmas.List.{append-nil}
use Rattle.dap_msg.specs.declared.message.StatusFields.{StatusFields}
use Rattle.dap_msg.specs.declared.message.Message.TheVariants.{Attrib, Accomp, Filedata, Status, Other}
use Rattle.dap_msg.specs.declared.items.Item.{Item}
use Rattle.dap_msg.specs.declared.items.Item.TheVariants.{Whole}
use Rattle.dap_msg.specs.Codes.{is_success}
use Rattle.dap_msg.specs.BothEnds.{number_of}
use Rattle.rec_file.specs.Limits.{max_record_number}
use Rattle.dap_accessing.specs.Request.{Request}
use Rattle.dap_accessing.specs.declared.request.Request.TheVariants.{Hello, Create, OpenFile, Connect, Get, Put, Update, Delete, Rewind, Fetch, Store, Continue, Close, Purge}
use Rattle.dap_accessing.specs.declared.report.Report.{Report}
use Rattle.dap_accessing.specs.declared.report.Report.TheVariants as report
use Rattle.dap_accessing.specs.declared.pending.Pending.{Pending}
use Rattle.dap_accessing.specs.declared.pending.Pending.TheVariants as pending
use Rattle.dap_accessing.specs.Told.{Hearing, Unexpected, hear, after_those, hear_ack, is_other, hear_file, hear_attributes, has_success, told_of, first_told}
use Rattle.dap_accessing.specs.Parts.{hear_opened, opened_as, is_record, records_in_front, hear_batch_end, is_status, statuses_in_front, hear_store_end}
use Rattle.dap_accessing.specs.Present.{hear_from}
use Rattle.dap_accessing.specs.Inner.Hears.{pending_of}
use Rattle.dap_accessing.proofs.Fronts.{behind-more, records-more, statuses-more}
use Rattle.dap_accessing.specs.Inner.Gathers.{gather_opened, gather_attributes, gather_batch, gather_stored, gather}

opened : (done : Report) (answers : List Item) → hear_opened done answers ≡ gather_opened done answers
opened done [] = refl
opened done (Whole (Other number body) ∷ rest) = ap (hear_ack done) (behind-more is_other (Whole (Other number body)) rest refl) ∙ opened done rest
opened done (_ ∷ rest) = refl

attributes : (answers : List Item) → hear_attributes answers ≡ gather_attributes answers
attributes [] = refl
attributes (Whole (Other number body) ∷ rest) = ap hear_file (behind-more is_other (Whole (Other number body)) rest refl) ∙ attributes rest
attributes (Whole (Attrib a) ∷ rest) =
    ap (λ h. if nat_le (number_of (unwrap_or a.mrn [])) max_record_number then h else Unexpected) (opened (opened_as a) rest)
attributes (_ ∷ rest) = refl

-- a fetch, after these records
batch : (records : List (ℕ × List ℕ)) (answers : List Item) → hear_batch_end (records ++ records_in_front answers) (after_those is_record answers) ≡ gather_batch records answers
batch records [] = refl
batch records (Whole (Filedata recnum body) ∷ rest) =
    let r : ℕ × List ℕ = (number_of recnum, body) in
    ap (λ l. hear_batch_end (records ++ l) (after_those is_record (Whole (Filedata recnum body) ∷ rest))) (records-more recnum body rest)
    ∙ ap (hear_batch_end (records ++ (r ∷ records_in_front rest))) (behind-more is_record (Whole (Filedata recnum body)) rest refl)
    ∙ ap (λ l. hear_batch_end l (after_those is_record rest)) (sym (append_assoc records (r ∷ []) (records_in_front rest)))
    ∙ batch (records ++ r ∷ []) rest
batch records (Whole (Status status) ∷ rest) = ap (λ l. hear_batch_end l (Whole (Status status) ∷ rest)) (append-nil records)
batch records (_ ∷ rest) = refl

-- a Store, with this first refusal
abbrev stored_as : Option (ℕ × ℕ × ℕ) → List Item → Hearing
stored_as first answers =
    if has_success (statuses_in_front answers) then Unexpected
    else hear_store_end (option_or first (first_told (statuses_in_front answers))) (after_those is_status answers)

option_or-none : {X : Type 0} → (o : Option X) → option_or o None ≡ o
option_or-none None = refl
option_or-none (Some x) = refl

option_or-assoc : {X : Type 0} → (a b c : Option X) → option_or a (option_or b c) ≡ option_or (option_or a b) c
option_or-assoc None b c = refl
option_or-assoc (Some x) b c = refl

stored_more : (first : Option (ℕ × ℕ × ℕ)) (status : StatusFields) (rest : List Item)
    → stored_as first (Whole (Status status) ∷ rest) ≡ (if is_success status.code then Unexpected else stored_as (option_or first (Some (told_of status))) rest)
stored_more first status rest =
    ap (λ l. if has_success l then Unexpected else hear_store_end (option_or first (first_told l)) (after_those is_status (Whole (Status status) ∷ rest))) (statuses-more status rest)
    ∙ ap (λ l. if has_success (status ∷ statuses_in_front rest) then Unexpected else hear_store_end (option_or first (Some (told_of status))) l) (behind-more is_status (Whole (Status status)) rest refl)
    ∙ elim (is_success status.code) as (λ b. (if b || has_success (statuses_in_front rest) then Unexpected else hear_store_end (option_or first (Some (told_of status))) (after_those is_status rest))
    ≡ (if b then Unexpected else stored_as (option_or first (Some (told_of status))) rest)) [
      | true ↦ refl
      | false ↦ ap (λ o. if has_success (statuses_in_front rest) then Unexpected else hear_store_end o (after_those is_status rest)) (option_or-assoc first (Some (told_of status)) (first_told (statuses_in_front rest)))
    ]

stored : (first : Option (ℕ × ℕ × ℕ)) (answers : List Item) → stored_as first answers ≡ gather_stored first answers
stored first [] = refl
stored first (Whole (Status status) ∷ rest) =
    stored_more first status rest
    ∙ ap (λ h. if is_success status.code then Unexpected else h) (stored (option_or first (Some (told_of status))) rest)
stored first (Whole (Accomp c) ∷ rest) = ap (λ o. hear_store_end o (Whole (Accomp c) ∷ rest)) (option_or-none first)
stored first (_ ∷ rest) = refl

pub gathered : (p : Pending) (answers : List Item) → hear_from p answers ≡ gather p answers
gathered pending.Config answers = refl
gathered pending.Attributes answers = attributes answers
gathered (pending.Opened org rfm mrs mrn) answers = opened (report.Opened org rfm mrs mrn) answers
gathered pending.Connected answers = refl
gathered pending.Record answers = refl
gathered pending.Done answers = refl
gathered (pending.Batch records) answers = batch records answers
gathered (pending.Stored first) answers = stored first answers
gathered pending.Closed answers = refl

-- what is still to come once a request is asked are all its answers
pub starts_as : (request : Request) (answers : List Item) → hear request answers ≡ hear_from (pending_of request) answers
starts_as Hello answers = refl
starts_as (Create _ _ _ _ _ _) answers = refl
starts_as (OpenFile _ _) answers = refl
starts_as Connect answers = refl
starts_as (Get _) answers = refl
starts_as (Put _ _) answers = refl
starts_as (Update _) answers = refl
starts_as Delete answers = refl
starts_as Rewind answers = refl
starts_as Fetch answers = refl
starts_as (Store _) answers = refl
starts_as (Continue _) answers = refl
starts_as Close answers = refl
starts_as Purge answers = refl

pub asked_gathered : (request : Request) (answers : List Item) → hear request answers ≡ gather (pending_of request) answers
asked_gathered request answers = starts_as request answers ∙ gathered (pending_of request) answers
