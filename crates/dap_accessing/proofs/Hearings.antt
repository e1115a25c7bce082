-- What was heard stays heard when more answers come.
use Rattle.std.proofs.Common.{◌≡◌, ℕ, refl, sym, ◌∙◌, true, false, Bool, ap, subst, List, [], ◌∷◌, ◌++◌}
use Rattle.std.specs.Option.{option_or}
use Rattle.std.specs.Prelude.{nat_le, ◌==◌, Option, Some, if◌then◌else◌, unwrap_or}
use Rattle.dap_msg.specs.declared.message.StatusFields.{StatusFields}
use Rattle.dap_msg.specs.declared.message.Message.TheVariants.{Config, Attrib, Ack, Accomp, Filedata, Status, Other}
use Rattle.dap_msg.specs.declared.items.Item.{Item}
use Rattle.dap_msg.specs.declared.items.Item.TheVariants.{Whole}
use Rattle.dap_msg.specs.Codes.{cmpfunc, stscode}
use Rattle.dap_msg.specs.BothEnds.{number_of, is_too_small}
use Rattle.rec_file.specs.Limits.{max_record_number}
use Rattle.dap_accessing.specs.Request.{Request}
use Rattle.dap_accessing.specs.declared.report.Report.{Report}
use Rattle.dap_accessing.specs.declared.report.Report.TheVariants as report
use Rattle.dap_msg.specs.Codes.{is_success}
use Rattle.dap_accessing.specs.Told.{Hearing, Reports, Waits, Unexpected, refusal, hear_refusal, hear_completed, hear, hear_config, hear_ack, hear_record, hear_done, told_of, Told, Due, AnswersDue, Wrong, due_after}
use Rattle.dap_accessing.specs.Parts.{opened_as, batch_ending}
use Rattle.dap_accessing.specs.declared.pending.Pending.{Pending}
use Rattle.dap_accessing.specs.declared.pending.Pending.TheVariants as pending
use Rattle.dap_accessing.specs.Inner.Hears.{pending_of}
use Rattle.dap_accessing.specs.Inner.Gathers.{gather_opened, gather_attributes, gather_batch, gather_stored, gather}
use Rattle.dap_accessing.proofs.Gathering.{asked_gathered}

-- the hearing with more answers: the same with these after it, unless it waits
abbrev pub Stays : Hearing → Hearing → List Item → Type 0
Stays Waits later more = Unit {0}
Stays (Reports done rest) later more = later ≡ Reports done (rest ++ more)
Stays Unexpected later more = later ≡ Unexpected

stays-if : (b : Bool) (done : Report) (rest more : List Item) → Stays (if b then Unexpected else Reports done rest) (if b then Unexpected else Reports done (rest ++ more)) more
stays-if true done rest more = refl
stays-if false done rest more = refl

stays-if-not : (b : Bool) (done : Report) (rest more : List Item) → Stays (if b then Reports done rest else Unexpected) (if b then Reports done (rest ++ more) else Unexpected) more
stays-if-not true done rest more = refl
stays-if-not false done rest more = refl

stays-refusal : (status : StatusFields) (rest more : List Item) → Stays (hear_refusal (Whole (Status status) ∷ rest)) (hear_refusal (Whole (Status status) ∷ (rest ++ more))) more
stays-refusal status rest more = stays-if (is_success status.code) (refusal status) rest more

stays-config : (answers more : List Item) → Stays (hear_config answers) (hear_config (answers ++ more)) more
stays-config [] more = tt
stays-config (Whole (Config config) ∷ rest) more = stays-if (is_too_small config.bufsiz) (report.Ready config.bufsiz) rest more
stays-config (Whole (Status status) ∷ rest) more = stays-refusal status rest more
stays-config (_ ∷ rest) more = refl

stays-ack : (done : Report) (answers more : List Item) → Stays (hear_ack done answers) (hear_ack done (answers ++ more)) more
stays-ack done [] more = tt
stays-ack done (Whole Ack ∷ rest) more = refl
stays-ack done (Whole (Status status) ∷ rest) more = stays-refusal status rest more
stays-ack done (_ ∷ rest) more = refl

stays-opened : (done : Report) (answers more : List Item) → Stays (gather_opened done answers) (gather_opened done (answers ++ more)) more
stays-opened done [] more = tt
stays-opened done (Whole (Other _ _) ∷ rest) more = stays-opened done rest more
stays-opened done (Whole Ack ∷ rest) more = refl
stays-opened done (Whole (Status status) ∷ rest) more = stays-refusal status rest more
stays-opened done (_ ∷ rest) more = refl

stays-attributes : (answers more : List Item) → Stays (gather_attributes answers) (gather_attributes (answers ++ more)) more
stays-attributes [] more = tt
stays-attributes (Whole (Other _ _) ∷ rest) more = stays-attributes rest more
stays-attributes (Whole (Attrib a) ∷ rest) more =
    elim (nat_le (number_of (unwrap_or a.mrn [])) max_record_number) as (λ b. Stays (if b then gather_opened (opened_as a) rest else Unexpected) (if b then gather_opened (opened_as a) (rest ++ more) else Unexpected) more) [
      | true ↦ stays-opened (opened_as a) rest more
      | false ↦ refl
    ]
stays-attributes (Whole (Status status) ∷ rest) more = stays-refusal status rest more
stays-attributes (_ ∷ rest) more = refl

stays-record : (answers more : List Item) → Stays (hear_record answers) (hear_record (answers ++ more)) more
stays-record [] more = tt
stays-record (Whole (Filedata recnum body) ∷ rest) more = refl
stays-record (Whole (Status status) ∷ rest) more = stays-if (is_success status.code) (if status.code == stscode.end_of_file then report.EndOfFile else refusal status) rest more
stays-record (_ ∷ rest) more = refl

stays-done : (answers more : List Item) → Stays (hear_done answers) (hear_done (answers ++ more)) more
stays-done [] more = tt
stays-done (Whole (Status status) ∷ rest) more = refl
stays-done (_ ∷ rest) more = refl

stays-batch : (records : List (ℕ × List ℕ)) (answers more : List Item) → Stays (gather_batch records answers) (gather_batch records (answers ++ more)) more
stays-batch records [] more = tt
stays-batch records (Whole (Filedata recnum body) ∷ rest) more = stays-batch (records ++ (number_of recnum, body) ∷ []) rest more
stays-batch records (Whole (Status status) ∷ rest) more = stays-if (is_success status.code) (report.Batch records (batch_ending status)) rest more
stays-batch records (_ ∷ rest) more = refl

stays-stored : (first : Option (ℕ × ℕ × ℕ)) (answers more : List Item) → Stays (gather_stored first answers) (gather_stored first (answers ++ more)) more
stays-stored first [] more = tt
stays-stored first (Whole (Status status) ∷ rest) more =
    elim (is_success status.code) as (λ b. Stays (if b then Unexpected else gather_stored (option_or first (Some (told_of status))) rest) (if b then Unexpected else gather_stored (option_or first (Some (told_of status))) (rest ++ more)) more) [
      | true ↦ refl
      | false ↦ stays-stored (option_or first (Some (told_of status))) rest more
    ]
stays-stored first (Whole (Accomp c) ∷ rest) more = stays-if-not (c.func == cmpfunc.response) (report.Stored first) rest more
stays-stored first (_ ∷ rest) more = refl

stays-closed : (answers more : List Item) → Stays (hear_completed report.Closed answers) (hear_completed report.Closed (answers ++ more)) more
stays-closed [] more = tt
stays-closed (Whole (Accomp c) ∷ rest) more = stays-if-not (c.func == cmpfunc.response) report.Closed rest more
stays-closed (Whole (Status status) ∷ rest) more = stays-refusal status rest more
stays-closed (_ ∷ rest) more = refl

stays-pending : (p : Pending) (answers more : List Item) → Stays (gather p answers) (gather p (answers ++ more)) more
stays-pending pending.Config answers more = stays-config answers more
stays-pending pending.Attributes answers more = stays-attributes answers more
stays-pending (pending.Opened org rfm mrs mrn) answers more = stays-opened (report.Opened org rfm mrs mrn) answers more
stays-pending pending.Connected answers more = stays-ack report.Connected answers more
stays-pending pending.Record answers more = stays-record answers more
stays-pending pending.Done answers more = stays-done answers more
stays-pending (pending.Batch records) answers more = stays-batch records answers more
stays-pending (pending.Stored first) answers more = stays-stored first answers more
stays-pending pending.Closed answers more = stays-closed answers more

pub stays : (request : Request) (answers more : List Item) → Stays (hear request answers) (hear request (answers ++ more)) more
stays request answers more =
    subst (λ h. Stays h (hear request (answers ++ more)) more) (sym (asked_gathered request answers))
    (subst (λ h. Stays (gather (pending_of request) answers) h more) (sym (asked_gathered request (answers ++ more)))
    (stays-pending (pending_of request) answers more))

-- the reports of a request's hearing and those of the requests after it
abbrev pub told_by : List Request → Hearing → List Report
told_by requests (Reports done rest) = done ∷ Told requests rest
told_by requests Waits = []
told_by requests Unexpected = []

pub Told-told_by : (request : Request) (requests : List Request) (answers : List Item) → Told (request ∷ requests) answers ≡ told_by requests (hear request answers)
Told-told_by request requests answers =
    elim (hear request answers) as (λ (h : Hearing). ◌≡◌ {A = List Report} (let all : List Report × Due = elim h [ Reports done rest ↦ (done ∷ Told requests rest, due_after requests rest) | Waits ↦ ([], AnswersDue request answers) | Unexpected ↦ ([], Wrong) ] in all.0) (told_by requests h)) [
      | Reports done rest ↦ refl
      | Waits ↦ refl
      | Unexpected ↦ refl
    ]

grow-by : (requests : List Request) (more : List Item) (first later : Hearing) → Stays first later more
    → ((rest : List Item) → (reports : List Report) × (Told requests (rest ++ more) ≡ Told requests rest ++ reports))
    → (reports : List Report) × (told_by requests later ≡ told_by requests first ++ reports)
grow-by requests more Waits later s rest = (told_by requests later, refl)
grow-by requests more Unexpected later s rest = ([], ap (told_by requests) s)
grow-by requests more (Reports done left) later s rest = let r = rest left in (r.0, ap (told_by requests) s ∙ ap (λ l. done ∷ l) r.1)

pub reports_grow : (requests : List Request) (answers more : List Item) → (reports : List Report) × (Told requests (answers ++ more) ≡ Told requests answers ++ reports)
reports_grow [] answers more = ([], refl)
reports_grow (request ∷ requests) answers more =
    let g = grow-by requests more (hear request answers) (hear request (answers ++ more)) (stays request answers more) (λ rest. reports_grow requests rest more) in
    (g.0, Told-told_by request requests (answers ++ more) ∙ g.1 ∙ ap (λ l. l ++ g.0) (sym (Told-told_by request requests answers)))
