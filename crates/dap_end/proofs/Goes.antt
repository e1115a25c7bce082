-- Request by request: what the accessed end answers to the messages of a request is just what its report takes.
use Rattle.std.proofs.Common.{◌≡◌, ℕ, ◌+◌, ◌≤◌, ◌<◌, ◌^◌, arith, refl, ◌∙◌, true, false, Bool, ap, List, [], ◌∷◌, ◌++◌, length, map, Option, Some, None, Result, Ok, Err}
use Rattle.std.specs.Prelude.{if◌then◌else◌, nat_lt, nat_le, ◌&&◌, unwrap_or, IsTrue, IfSome}
use Rattle.std.specs.FinMap as finite
use Rattle.std.proofs.lemmas.List.{append-nil}
use Rattle.dap_accessed.specs.declared.setup.ServerSetup.{ServerSetup}
use Rattle.dap_msg.specs.declared.message.Configuration.{Configuration}
use Rattle.dap_msg.specs.declared.message.Message.{Message}
use Rattle.dap_msg.specs.declared.message.StatusFields.{StatusFields}
use Rattle.dap_msg.specs.declared.message.ControlFields.{ControlFields}
use Rattle.dap_msg.specs.declared.message.Message.TheVariants.{Attrib, Config, Status}
use Rattle.dap_msg.specs.declared.items.Item.{Item}
use Rattle.dap_msg.specs.declared.items.Item.TheVariants.{Whole}
use Rattle.dap_msg.specs.BothEnds.{number_of, four_bytes}
use Rattle.rec_file.specs.declared.refusals.Refusal.{Refusal}
use Rattle.rec_file.specs.declared.refusals.Refusal.TheVariants.{NotPermitted, NoCurrent, RecordNotFound, RecordExists, NumberOutOfRange, BadLength, BadAccessMode, DeleteNotAllowed, BadKey, EndOfFile, NoMemory}
use Rattle.rec_file.specs.declared.picks.Pick.{Pick}
use Rattle.rec_file.specs.Files.{records_from}
use Rattle.rec_file.specs.Acts.{StreamVal, act, delete_record, update_record, put_record, get_record, Operation}
use Rattle.dap_accessed.specs.Setup.{lacks}
use Rattle.dap_accessed.specs.declared.phase.OpenFile.{OpenFile}
use Rattle.std.specs.Prelude.{take_while, drop}
use Rattle.std.specs.List.{prefix_len}
use Rattle.dap_msg.specs.Codes as codes
use Rattle.dap_accessed.specs.Standing.{Files, ServerState, Group, Standing, Scene, Effect, enters, the_file, file_at}
use Rattle.dap_accessed.specs.Naming.{index_by, number_made}
use Rattle.dap_accessed.specs.Standing as at
use Rattle.dap_accessed.specs.Replies.{reason_of, refused_access, bare_status, coded, record_status, refusal_status, too_large}
use Rattle.dap_accessed.specs.Effects.{told}
use Rattle.dap_accessed.proofs.ForCallers.{access-fails, coded-records, record-fails}
use Rattle.dap_accessed.specs.Records.{stream_without_current, at_number, filedata_of, fits_limit, get_pick, put_key, record_got, got, refused_effect, effect_of_outcome, effect_of_change, Change, Putting, Updating}
use Rattle.dap_accessed.specs.Transfers.{fetch, fetch_ends}
use Rattle.dap_accessed.specs.Groups.{GroupedItems, over, answers_in}
use Rattle.dap_accessing.specs.declared.request.By.{By}
use Rattle.dap_accessing.specs.declared.request.By.TheVariants as by
use Rattle.dap_accessing.specs.declared.request.How.{How}
use Rattle.dap_accessing.specs.declared.request.How.TheVariants as how
use Rattle.dap_accessing.specs.Request.{Request}
use Rattle.dap_accessing.specs.declared.request.Request.TheVariants as request
use Rattle.dap_accessing.specs.declared.report.Report.{Report}
use Rattle.dap_accessing.specs.declared.report.Report.TheVariants as report
use Rattle.dap_accessing.specs.declared.report.Ending.{Ending}
use Rattle.dap_accessing.specs.declared.report.Ending.TheVariants as ending
use Rattle.dap_accessing.specs.declared.phase.Phase.{Phase}
use Rattle.dap_accessing.specs.declared.phase.Phase.TheVariants.{Fresh, Ready, Opened, Connected, Stopped}
use Rattle.dap_accessing.specs.Asked.{messages_of}
use Rattle.dap_msg.specs.Codes.{is_success}
use Rattle.dap_accessing.specs.Told.{Hearing, Reports, Unexpected, refusal, hear, hear_done, after_those, hear_batch, hear_record}
use Rattle.dap_accessing.specs.Parts.{is_record, records_in_front, hear_batch_end, batch_ending}
use Rattle.dap_accessing.specs.Phase.{phase_next, limit_next}
use Rattle.std.specs.Prelude.{not, ◌||◌, nat_eq}
use Rattle.std.proofs.lemmas.Bool.{lt-ltb, le-ltb}
use Rattle.std.proofs.lemmas.Bool.Decides.{nat_tests}
use Rattle.dap_msg.specs.declared.message.Attributes.{Attributes}
use Rattle.dap_msg.specs.BothEnds.{message_limit, max_nsp_message}
use Rattle.rec_file.specs.declared.look.Look.{Look}
use Rattle.rec_file.specs.declared.shapes.Shape.{Shape}
use Rattle.dap_accessed.specs.declared.asked.Asked.{Asked}
use Rattle.rec_file.specs.Limits.{max_record_number, max_record}
use Rattle.rec_file.specs.Shapes.{is_shape, is_seq, has_length}
use Rattle.dap_accessed.specs.Accesses.{make_file, refuse_access, rights_to_create, rights_to_open, open_file, create_file}
use Rattle.dap_msg.specs.BothEnds.{no_attributes}
use Rattle.dap_accessed.specs.Past.{asked_file, kept_attributes}
use Rattle.dap_accessed.specs.Replies.{reason_of, refused_access, given_limit, opened_with, org_number, format_number}
use Rattle.dap_accessed.proofs.ForCallers.{AllFiles, file-there, after_item}
use Rattle.dap_accessed.proofs.ForCallers.{Good, good-file, index-within}
use Rattle.dap_accessing.specs.Told.{hear_attributes}
use Rattle.dap_accessing.proofs.ForCallers.{behind-more, records-more}
use Rattle.dap_end.specs.Agreement.{IsBufsiz}
use Rattle.dap_end.specs.Agreement.{AgreeAt, AreLimits}

-- the cut after more items
abbrev pub more_items : (own : ServerSetup) → GroupedItems → List Item → GroupedItems
more_items own c [] = c
more_items own c (item ∷ items) = more_items own (after_item own c item) items

-- The messages of a request go to answers that come to a report, and the two ends agree again.
pub record Goes (own_a : Configuration) (own_b : ServerSetup) (request : Request) (phase : Phase) (s : Standing) (limit_a : ℕ) : Type 0 where
  pub answers : List Message
  pub done : Report
  pub new : Standing
  pub cut_is : more_items own_b (record { standing = s; begun = None }) (map Whole (messages_of own_a request)) ≡ record { standing = new; begun = None }
  pub adds : answers_in new.past ≡ answers_in s.past ++ answers
  pub heard : hear request (map Whole answers) ≡ Reports done []
  pub agree : AgreeAt own_a own_b (phase_next phase done) new.state new.scene.limit (limit_next limit_a done)

abbrev pub standing_at : ServerState → Files → ℕ → List Group → Standing
standing_at state files limit past = record { scene = record { limit = limit; files = files }; state = state; past = past }

-- ---- Operations on records.

-- what a refused operation reports
abbrev refusal_report : (full : Bool) → Refusal → Report
refusal_report full EndOfFile = report.Refused 0x5027 0
refusal_report full refusal =
    report.Refused (if full then codes.rms_code 0x5000 (reason_of refusal) else 0x5000) (reason_of refusal)

abbrev record_report : (full : Bool) → Result ℕ Refusal → Report
record_report full (Ok n) = report.Done (number_of (four_bytes n))
record_report full (Err refusal) = refusal_report full refusal

-- the Status of an operation on a record that is refused for this reason
abbrev refused_fields : (full : Bool) → (reason : ℕ) → StatusFields
refused_fields full reason = record { code = if full then codes.rms_code 0x5000 reason else 0x5000; rfa = []; recnum = []; stv = reason ∷ [] }

-- a Status that is no success is a refusal
done_refused : (status : StatusFields) → is_success status.code ≡ false → hear_done (Whole (Status status) ∷ []) ≡ Reports (refusal status) []
done_refused status e = ap (λ b. Reports (if b then report.Done (number_of status.recnum) else refusal status) []) e

hear_status : (full : Bool) (r : Result ℕ Refusal) → hear_done (Whole (coded full (record_status r)) ∷ []) ≡ Reports (record_report full r) []
hear_status full (Ok n) = refl
hear_status full (Err NotPermitted) = done_refused (refused_fields full (reason_of NotPermitted)) (record-fails full (reason_of NotPermitted))
hear_status full (Err NoCurrent) = done_refused (refused_fields full (reason_of NoCurrent)) (record-fails full (reason_of NoCurrent))
hear_status full (Err RecordNotFound) = done_refused (refused_fields full (reason_of RecordNotFound)) (record-fails full (reason_of RecordNotFound))
hear_status full (Err RecordExists) = done_refused (refused_fields full (reason_of RecordExists)) (record-fails full (reason_of RecordExists))
hear_status full (Err NumberOutOfRange) = done_refused (refused_fields full (reason_of NumberOutOfRange)) (record-fails full (reason_of NumberOutOfRange))
hear_status full (Err BadLength) = done_refused (refused_fields full (reason_of BadLength)) (record-fails full (reason_of BadLength))
hear_status full (Err BadAccessMode) = done_refused (refused_fields full (reason_of BadAccessMode)) (record-fails full (reason_of BadAccessMode))
hear_status full (Err DeleteNotAllowed) = done_refused (refused_fields full (reason_of DeleteNotAllowed)) (record-fails full (reason_of DeleteNotAllowed))
hear_status full (Err BadKey) = done_refused (refused_fields full (reason_of BadKey)) (record-fails full (reason_of BadKey))
hear_status full (Err EndOfFile) = refl
hear_status full (Err NoMemory) = done_refused (refused_fields full (reason_of NoMemory)) (record-fails full (reason_of NoMemory))

-- what a refused GET reports
abbrev get_report : (full : Bool) → Refusal → Report
get_report full EndOfFile = report.EndOfFile
get_report full refusal = refusal_report full refusal

hear_get : (full : Bool) (r : Refusal) → hear_record (Whole (coded full (refusal_status r [])) ∷ []) ≡ Reports (get_report full r) []
hear_get true NotPermitted = refl
hear_get true NoCurrent = refl
hear_get true RecordNotFound = refl
hear_get true RecordExists = refl
hear_get true NumberOutOfRange = refl
hear_get true BadLength = refl
hear_get true BadAccessMode = refl
hear_get true DeleteNotAllowed = refl
hear_get true BadKey = refl
hear_get true EndOfFile = refl
hear_get true NoMemory = refl
hear_get false NotPermitted = refl
hear_get false NoCurrent = refl
hear_get false RecordNotFound = refl
hear_get false RecordExists = refl
hear_get false NumberOutOfRange = refl
hear_get false BadLength = refl
hear_get false BadAccessMode = refl
hear_get false DeleteNotAllowed = refl
hear_get false BadKey = refl
hear_get false EndOfFile = refl
hear_get false NoMemory = refl

-- a record that is longer than the peer takes
abbrev large_code : (full : Bool) → ℕ
large_code full = if full then codes.rms_code 0x5000 10 else 0x5000

hear_large : (full : Bool) → hear_record (Whole (coded full too_large) ∷ []) ≡ Reports (report.Refused (large_code full) 10) []
hear_large true = refl
hear_large false = refl

-- a refused Access
abbrev access_code : (full : Bool) → (reason : ℕ) → ℕ
access_code full reason = if full then codes.rms_code 0x4000 reason else 0x4000

hear_refused_access : (full : Bool) (reason : ℕ) → hear_attributes (Whole (coded full (refused_access reason)) ∷ []) ≡ Reports (report.Refused (access_code full reason) reason) []
hear_refused_access full reason =
    ap (λ b. if b then Unexpected else Reports (report.Refused (access_code full reason) reason) []) (access-fails full reason)

-- ---- A batch.

-- the numbers and bodies that a batch reports
abbrev numbered : List (ℕ × List ℕ) → List (ℕ × List ℕ)
numbered [] = []
numbered (r ∷ records) = (number_of (four_bytes r.0), r.1) ∷ numbered records

records_fetched : (records : List (ℕ × List ℕ)) (status : StatusFields) → records_in_front (map Whole (map filedata_of records ++ Status status ∷ [])) ≡ numbered records
records_fetched [] status = refl
records_fetched (r ∷ records) status =
    records-more (four_bytes r.0) r.1 (map Whole (map filedata_of records ++ Status status ∷ []))
    ∙ ap (λ l. (number_of (four_bytes r.0), r.1) ∷ l) (records_fetched records status)

behind_fetched : (records : List (ℕ × List ℕ)) (status : StatusFields) → after_those is_record (map Whole (map filedata_of records ++ Status status ∷ [])) ≡ Whole (Status status) ∷ []
behind_fetched [] status = refl
behind_fetched (r ∷ records) status =
    behind-more is_record (Whole (filedata_of r)) (map Whole (map filedata_of records ++ Status status ∷ [])) refl ∙ behind_fetched records status

hear_fetched : (records : List (ℕ × List ℕ)) (status : StatusFields) → is_success status.code ≡ false
    → hear_batch (map Whole (map filedata_of records ++ Status status ∷ [])) ≡ Reports (report.Batch (numbered records) (batch_ending status)) []
hear_fetched records status e =
    ap (λ l. hear_batch_end l (after_those is_record (map Whole (map filedata_of records ++ Status status ∷ [])))) (records_fetched records status)
    ∙ ap (hear_batch_end (numbered records)) (behind_fetched records status)
    ∙ ap (λ b. if b then Unexpected else Reports (report.Batch (numbered records) (batch_ending status)) []) e

abbrev end_status : StatusFields
end_status = record { code = 0x5027; rfa = []; recnum = []; stv = [] }

abbrev large_status : (full : Bool) → StatusFields
large_status full = record { code = large_code full; rfa = []; recnum = []; stv = 10 ∷ [] }

large_ends : (full : Bool) → batch_ending (large_status full) ≡ ending.Stopped
large_ends true = refl
large_ends false = refl

hear_barred : (full : Bool) → hear_batch (Whole (coded full (refusal_status NotPermitted [])) ∷ []) ≡ Reports (report.Batch [] (ending.Refused (if full then codes.rms_code 0x5000 2 else 0x5000) 2)) []
hear_barred true = refl
hear_barred false = refl

-- ---- The Attributes of a file.

both : (a b : Bool) → (a && b) ≡ true → (a ≡ true) × (b ≡ true)
both true b e = (refl, e)
both false b e = let never : ⊥ = cc in absurd never

in_three : (a b c d : Bool) → (((a && b) && c) && d) ≡ true → c ≡ true
in_three a b c d e = (both (a && b) c (both ((a && b) && c) d e).0).1

-- a number of 4 bytes is read as it was written
number-four_bytes : (n : ℕ) → n < 2 ^ 32 → number_of (four_bytes n) ≡ n
number-four_bytes n h = omega (arith, h)

-- a file's greatest number is read as it was written, and is one that a file may have
mrn_read : (shape : Shape) → IsTrue (is_shape shape) → nat_le (number_of (four_bytes shape.mrn)) 2147483647 ≡ true
mrn_read shape g =
    let e : nat_le shape.mrn max_record_number ≡ true = in_three (has_length shape.format shape.mrs) (nat_le shape.mrs max_record) (nat_le shape.mrn max_record_number) (not (is_seq shape.org) || nat_eq shape.mrn 0) g in
    let fits : shape.mrn ≤ max_record_number = grind (arith, nat_tests) in
    ap (λ n. nat_le n 2147483647) (number-four_bytes shape.mrn (omega arith)) ∙ e

hear_shape : (shape : Shape) (look : Look) → IsTrue (is_shape shape)
    → hear_attributes (map Whole (opened_with shape look)) ≡ Reports (report.Opened (org_number shape.org) (unwrap_or look.rfm (format_number shape.format)) (given_limit shape look) (number_of (four_bytes shape.mrn))) []
hear_shape shape look g = rw (mrn_read shape g) refl

abbrev control_of : (func rac : ℕ) → Option (List ℕ) → ControlFields
control_of func rac key = record { func = func; rac = Some rac; key = key; krf = None; rop = None; hsh = None; display = None }

is-large : (n : ℕ) → IsBufsiz n → (nat_lt 0 n && nat_lt n 64) ≡ false
is-large n b = let e = le-ltb n 64 b.least in let f = lt-ltb 0 n (omega (arith, b.least)) in rw (f, e) refl

pub limit-own : (n : ℕ) → IsBufsiz n → message_limit n ≡ n
limit-own n b = let e = le-ltb max_nsp_message n b.most in let least = b.least in grind (arith, nat_tests)

-- two groups, of which the first has no answers
adds-two : (past : List Group) (answers : List Message) → (answers_in past ++ []) ++ answers ≡ answers_in past ++ answers
adds-two past answers = ap (λ l. l ++ answers) (append-nil (answers_in past))

pub shape-there : (files : Files) (found : Option ℕ) → AllFiles files → IfSome found (λ n. n < length files) → IfSome found (λ n. IsTrue (is_shape (file_at n files).shape))
shape-there files None all h = tt
shape-there files (Some n) all h = (file-there files n all h).shape

module _ (own_a : Configuration) (own_b : ServerSetup) (scene : Scene) (limit_a : ℕ) (h : AreLimits own_a own_b scene.limit limit_a) where
  -- the answers of an effect come to a report by this hearing, and the ends agree after it
  abbrev pub Comes : Phase → (List Item → Hearing) → Effect → Type 0
  Comes phase hearing e =
      (done : Report) × (hearing (map Whole (told own_b e).answers) ≡ Reports done []) × AgreeAt own_a own_b (phase_next phase done) e.state e.scene.limit (limit_next limit_a done)

  -- such a report leaves the phase and the limit
  stays_connected : (r : Result ℕ Refusal) (o : OpenFile) (s : StreamVal) → AgreeAt own_a own_b (phase_next Connected (record_report own_b.full r)) (at.Connected o s) scene.limit (limit_next limit_a (record_report own_b.full r))
  stays_connected (Ok n) o s = h
  stays_connected (Err NotPermitted) o s = h
  stays_connected (Err NoCurrent) o s = h
  stays_connected (Err RecordNotFound) o s = h
  stays_connected (Err RecordExists) o s = h
  stays_connected (Err NumberOutOfRange) o s = h
  stays_connected (Err BadLength) o s = h
  stays_connected (Err BadAccessMode) o s = h
  stays_connected (Err DeleteNotAllowed) o s = h
  stays_connected (Err BadKey) o s = h
  stays_connected (Err EndOfFile) o s = h
  stays_connected (Err NoMemory) o s = h

  stays_got : (r : Refusal) (o : OpenFile) (s : StreamVal) → AgreeAt own_a own_b (phase_next Connected (get_report own_b.full r)) (at.Connected o s) scene.limit (limit_next limit_a (get_report own_b.full r))
  stays_got NotPermitted o s = h
  stays_got NoCurrent o s = h
  stays_got RecordNotFound o s = h
  stays_got RecordExists o s = h
  stays_got NumberOutOfRange o s = h
  stays_got BadLength o s = h
  stays_got BadAccessMode o s = h
  stays_got DeleteNotAllowed o s = h
  stays_got BadKey o s = h
  stays_got EndOfFile o s = h
  stays_got NoMemory o s = h

  module _ (o : OpenFile) where
    -- ---- PUT, UPDATE and DELETE.

    pub operates : (op : Operation) (s : StreamVal) → Comes Connected hear_done (effect_of_outcome scene o (act op (the_file scene.files o) s))
    operates op s =
        let outcome = act op (the_file scene.files o) s in
        (record_report own_b.full outcome.reply, hear_status own_b.full outcome.reply, stays_connected outcome.reply o outcome.stream)

    pub changes : (change : Change) (s : StreamVal) (body : List ℕ) → Comes Connected hear_done (effect_of_change change scene o s body)
    changes (Putting (Err refusal)) s body = (record_report own_b.full (Err refusal), hear_status own_b.full (Err refusal), stays_connected (Err refusal) o (stream_without_current s))
    changes (Putting (Ok key)) s body = operates (put_record key body) s
    changes Updating s body = operates (update_record body) s

    -- ---- GET.

    hear_found : (fits : Bool) (before after : StreamVal) (r : ℕ × List ℕ) → Comes Connected hear_record (if fits then enters scene (at.Connected o after) (filedata_of r ∷ []) else enters scene (at.Connected o (stream_without_current before)) (too_large ∷ []))
    hear_found true before after r = (report.Found (number_of (four_bytes r.0)) r.1, refl, h)
    hear_found false before after r = (report.Refused (large_code own_b.full) 10, hear_large own_b.full, h)

    hear_refused : (refusal : Refusal) (before after : StreamVal) → Comes Connected hear_record (got (Err refusal) scene o before after)
    hear_refused refusal before after = (get_report own_b.full refusal, hear_get own_b.full refusal, stays_got refusal o (stream_without_current before))

    hear_got : (r : Result ℕ Refusal) (before after : StreamVal) → Comes Connected hear_record (got r scene o before after)
    hear_got (Err refusal) before after = hear_refused refusal before after
    hear_got (Ok n) before after =
        let r : ℕ × List ℕ = (n, unwrap_or (finite.get (the_file scene.files o).records n) []) in
        hear_found (fits_limit scene.limit r) before after r

    pub gets : (pick : Result Pick Refusal) (s : StreamVal) → Comes Connected hear_record (record_got pick scene o s)
    gets (Err refusal) s = hear_refused refusal s s
    gets (Ok pick) s =
        let outcome = act (get_record pick) (the_file scene.files o) s in hear_got outcome.reply s outcome.stream

    -- ---- FETCH.

    ends_batches : (phase : Phase) (s : StreamVal) (given rest : List (ℕ × List ℕ)) → Comes phase hear_batch (fetch_ends scene o s given rest)
    ends_batches phase s given [] = (
      report.Batch (numbered given) ending.Complete,
      ap (λ (l : List Message). hear_batch (map Whole l)) (coded-records own_b.full given (Status end_status)) ∙ hear_fetched given end_status refl,
      h,
    )
    ends_batches phase s given (large ∷ more) = (
      report.Batch (numbered given) ending.Stopped,
      ap (λ (l : List Message). hear_batch (map Whole l)) (coded-records own_b.full given too_large)
          ∙ hear_fetched given (large_status own_b.full) (record-fails own_b.full 10)
          ∙ ap (λ (e : Ending). Reports (report.Batch (numbered given) e) []) (large_ends own_b.full),
      h,
    )

    pub fetches : (phase : Phase) (s : StreamVal) → Comes phase hear_batch (fetch scene o s)
    fetches phase s =
        let due = records_from (the_file scene.files o).records s.next in
        ends_batches phase s (take_while (fits_limit scene.limit) due) (drop (prefix_len (fits_limit scene.limit) due) due)

    pub fetches_if : (permitted : Bool) (s : StreamVal) → Comes Connected hear_batch (if permitted then fetch scene o s else refused_effect scene o s NotPermitted)
    fetches_if true s = fetches Connected s
    fetches_if false s = (_, hear_barred own_b.full, h)

  -- ---- Accesses.

  -- a refusal, or what comes otherwise
  comes_if : (lack : Bool) (e : Effect) → Comes Ready hear_attributes e → Comes Ready hear_attributes (if lack then refuse_access scene (refused_access (reason_of NotPermitted)) else e)
  comes_if true e c = (_, hear_refused_access own_b.full 2, h)
  comes_if false e c = c

  pub opens : (fac : ℕ) (found : Option ℕ) → IfSome found (λ n. IsTrue (is_shape (file_at n scene.files).shape)) → Comes Ready hear_attributes (open_file own_b scene fac found)
  opens fac None g = (report.Refused 0x4032 0, refl, h)
  opens fac (Some n) g = comes_if (lacks own_b.most (rights_to_open fac)) _ (_, hear_shape (file_at n scene.files).shape (file_at n scene.files).look g, h)

  makes : (new : List ℕ) (fac : ℕ) (replaced : Option ℕ) (shape : Option Asked) → Good shape → Comes Ready hear_attributes (make_file scene new fac replaced shape)
  makes new fac replaced None g = (_, hear_refused_access own_b.full 11, h)
  makes new fac replaced (Some asked) g = (_, hear_shape asked.shape asked.look g.shape, h)

  pub creates : (name : List ℕ) (fac : ℕ) (number : Option ℕ) (shape : Option Asked) → Good shape → Comes Ready hear_attributes (create_file own_b scene name fac number shape)
  creates name fac None shape g = (_, hear_refused_access own_b.full 1, h)
  creates name fac (Some n) shape g = comes_if (lacks own_b.most (rights_to_create fac)) _ (makes _ fac _ shape g)

-- ---- The requests of a file that is open.

module _ (own_a : Configuration) (own_b : ServerSetup) (files : Files) (limit : ℕ) (past : List Group) (limit_a : ℕ) (h : AreLimits own_a own_b limit limit_a) (o : OpenFile) where
  pub connect_goes : Goes own_a own_b request.Connect Opened (standing_at (at.Opened o) files limit past) limit_a
  connect_goes = record { answers = _; done = report.Connected; new = _; cut_is = refl; adds = refl; heard = refl; agree = h }

  pub close_opened : Goes own_a own_b request.Close Opened (standing_at (at.Opened o) files limit past) limit_a
  close_opened = record { answers = _; done = report.Closed; new = _; cut_is = refl; adds = refl; heard = refl; agree = h }

  pub purge_opened : Goes own_a own_b request.Purge Opened (standing_at (at.Opened o) files limit past) limit_a
  purge_opened = record { answers = _; done = report.Closed; new = _; cut_is = refl; adds = refl; heard = refl; agree = h }

  abbrev scene : Scene
  scene = record { limit = limit; files = files }

  module _ (s : StreamVal) where
    abbrev connected : Standing
    connected = standing_at (at.Connected o s) files limit past

    abbrev stopped : Standing
    stopped = standing_at (at.Stopped o s) files limit past

    pub close_connected : Goes own_a own_b request.Close Connected connected limit_a
    close_connected = record { answers = _; done = report.Closed; new = _; cut_is = refl; adds = refl; heard = refl; agree = h }

    pub purge_connected : Goes own_a own_b request.Purge Connected connected limit_a
    purge_connected = record { answers = _; done = report.Closed; new = _; cut_is = refl; adds = refl; heard = refl; agree = h }

    pub close_stopped : Goes own_a own_b request.Close Stopped stopped limit_a
    close_stopped = record { answers = _; done = report.Closed; new = _; cut_is = refl; adds = refl; heard = refl; agree = h }

    pub purge_stopped : Goes own_a own_b request.Purge Stopped stopped limit_a
    purge_stopped = record { answers = _; done = report.Closed; new = _; cut_is = refl; adds = refl; heard = refl; agree = h }

    pub rewind_goes : Goes own_a own_b request.Rewind Connected connected limit_a
    rewind_goes = record { answers = _; done = report.Done 0; new = _; cut_is = refl; adds = refl; heard = refl; agree = h }

    pub delete_goes : Goes own_a own_b request.Delete Connected connected limit_a
    delete_goes = let r = operates own_a own_b scene limit_a h o delete_record s in record { answers = _; done = r.0; new = _; cut_is = refl; adds = refl; heard = r.1; agree = r.2 }

    pub update_goes : (body : List ℕ) → Goes own_a own_b (request.Update body) Connected connected limit_a
    update_goes body = let r = changes own_a own_b scene limit_a h o Updating s body in record { answers = _; done = r.0; new = _; cut_is = refl; adds = refl; heard = r.1; agree = r.2 }

    pub put_goes : (key : Option ℕ) (body : List ℕ) → Goes own_a own_b (request.Put key body) Connected connected limit_a
    put_goes None body =
        let r = changes own_a own_b scene limit_a h o (Putting (put_key (the_file files o) s (control_of 4 0 None))) s body in record { answers = _; done = r.0; new = _; cut_is = refl; adds = refl; heard = r.1; agree = r.2 }
    put_goes (Some n) body =
        let r = changes own_a own_b scene limit_a h o (Putting (put_key (the_file files o) s (control_of 4 1 (Some (four_bytes n))))) s body in record { answers = _; done = r.0; new = _; cut_is = refl; adds = refl; heard = r.1; agree = r.2 }

    pub get_goes : (b : By) → Goes own_a own_b (request.Get b) Connected connected limit_a
    get_goes by.Next =
        let r = gets own_a own_b scene limit_a h o (get_pick (the_file files o) s (control_of 1 0 None)) s in record { answers = _; done = r.0; new = _; cut_is = refl; adds = refl; heard = r.1; agree = r.2 }
    get_goes (by.Key n) =
        let r = gets own_a own_b scene limit_a h o (get_pick (the_file files o) s (control_of 1 1 (Some (four_bytes n)))) s in record { answers = _; done = r.0; new = _; cut_is = refl; adds = refl; heard = r.1; agree = r.2 }
    get_goes (by.Rfa n) =
        let r = gets own_a own_b scene limit_a h o (get_pick (the_file files o) s (control_of 1 2 (Some (four_bytes n)))) s in record { answers = _; done = r.0; new = _; cut_is = refl; adds = refl; heard = r.1; agree = r.2 }

    pub fetch_goes : Goes own_a own_b request.Fetch Connected connected limit_a
    fetch_goes = let r = fetches_if own_a own_b scene limit_a h o s.rights.get s in record { answers = _; done = r.0; new = _; cut_is = refl; adds = refl; heard = r.1; agree = r.2 }

    pub continue_goes : (w : How) → Goes own_a own_b (request.Continue w) Stopped stopped limit_a
    continue_goes how.Again = let r = fetches own_a own_b scene limit_a h o Stopped s in record { answers = _; done = r.0; new = _; cut_is = refl; adds = refl; heard = r.1; agree = r.2 }
    continue_goes how.Skip = let r = fetches own_a own_b scene limit_a h o Stopped (at_number (s.next + 1) s) in record { answers = _; done = r.0; new = _; cut_is = refl; adds = refl; heard = r.1; agree = r.2 }
    continue_goes how.Abort = record { answers = _; done = report.Batch [] ending.Complete; new = _; cut_is = refl; adds = refl; heard = refl; agree = h }

-- ---- The requests before a file is open.

module _ (own_a : Configuration) (own_b : ServerSetup) (files : Files) (limit : ℕ) (past : List Group) (limit_a : ℕ) where
  pub open_goes : (name : List ℕ) (fac : ℕ) → AreLimits own_a own_b limit limit_a → AllFiles files → Goes own_a own_b (request.OpenFile name fac) Ready (standing_at at.Ready files limit past) limit_a
  open_goes name fac h all =
      let scene : Scene = record { limit = limit; files = files } in
      let r = opens own_a own_b scene limit_a h fac (index_by own_b.names name files) (shape-there files (index_by own_b.names name files) all (index-within own_b.names name files)) in
      record { answers = _; done = r.0; new = _; cut_is = refl; adds = adds-two past _; heard = r.1; agree = r.2 }

  pub create_goes : (name : List ℕ) (org rfm mrs mrn fac : ℕ) → AreLimits own_a own_b limit limit_a → Goes own_a own_b (request.Create name org rfm mrs mrn fac) Ready (standing_at at.Ready files limit past) limit_a
  create_goes name org rfm mrs mrn fac h =
      let scene : Scene = record { limit = limit; files = files } in
      let a : Attributes = record no_attributes { org = Some org; rfm = Some rfm; mrs = Some mrs; mrn = Some (four_bytes mrn) } in
      let kept : Attributes = kept_attributes (record { state = at.Ready; first = Whole (Attrib a); answers = [] } ∷ past) in
      let r = creates own_a own_b scene limit_a h name fac (number_made own_b.names name files) (asked_file own_b.full kept) (good-file own_b.full kept) in
      record { answers = _; done = r.0; new = _; cut_is = refl; adds = adds-two past _; heard = r.1; agree = r.2 }

  abbrev configured : Scene → (bufsiz : ℕ) → Effect
  configured scene bufsiz = enters (record scene { limit = message_limit bufsiz }) at.Ready (Config own_b.identity ∷ [])

  -- the ends' own BUFSIZ is at least 64
  pub hello_goes : IsBufsiz own_a.bufsiz → IsBufsiz own_b.identity.bufsiz → Goes own_a own_b request.Hello Fresh (standing_at at.Fresh files limit past) limit_a
  hello_goes a b =
      let large_a = is-large own_a.bufsiz a in
      let large_b : (nat_lt 0 own_b.identity.bufsiz && nat_lt own_b.identity.bufsiz 64) ≡ false = is-large own_b.identity.bufsiz b in
      let s = standing_at at.Fresh files limit past in
      record {
        answers = Config own_b.identity ∷ [];
        done = report.Ready own_b.identity.bufsiz;
        new = over s at.Fresh (Whole (Config own_a)) (configured s.scene own_a.bufsiz);
        cut_is = ap (λ b. let c : GroupedItems = record { standing = over s at.Fresh (Whole (Config own_a)) (told own_b (if b then enters s.scene at.Fresh (bare_status (codes.invalid codes.types.config) ∷ []) else configured s.scene own_a.bufsiz)); begun = None } in c) large_a;
        adds = refl;
        heard = rw large_b refl;
        agree = (limit-own own_a.bufsiz a, limit-own own_b.identity.bufsiz b);
      }
