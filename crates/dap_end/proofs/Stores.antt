-- A Store, record by record: whatever is refused, the answers come to one report.
use Rattle.std.proofs.Common.{◌≡◌, ℕ, refl, sym, ◌∙◌, true, false, Bool, subst, ap, append_assoc, List, [], ◌∷◌, ◌++◌, map, Some, None, Result, Ok, Err}
use Rattle.std.specs.Prelude.{if◌then◌else◌, ◌||◌}
use Rattle.std.proofs.lemmas.List.{append-nil, map-append}
use Rattle.dap_accessed.specs.declared.setup.ServerSetup.{ServerSetup}
use Rattle.dap_msg.specs.declared.message.Configuration.{Configuration}
use Rattle.dap_msg.specs.declared.message.Message.{Message}
use Rattle.dap_msg.specs.declared.message.StatusFields.{StatusFields}
use Rattle.dap_msg.specs.declared.message.Message.TheVariants.{Filedata, Status}
use Rattle.dap_msg.specs.Codes.{is_success}
use Rattle.dap_msg.specs.declared.items.Item.{Item}
use Rattle.dap_msg.specs.declared.items.Item.TheVariants.{Whole}
use Rattle.dap_msg.specs.BothEnds.{complete_with}
use Rattle.rec_file.specs.declared.refusals.Refusal.{Refusal}
use Rattle.rec_file.specs.declared.refusals.Refusal.TheVariants.{NotPermitted, NoCurrent, RecordNotFound, RecordExists, NumberOutOfRange, BadLength, BadAccessMode, DeleteNotAllowed, BadKey, EndOfFile, NoMemory}
use Rattle.rec_file.specs.Acts.{StreamVal, act, put_record}
use Rattle.dap_accessed.specs.declared.phase.OpenFile.{OpenFile}
use Rattle.dap_accessed.specs.Standing.{Files, ServerState, Group, Standing, Scene, Effect, enters, the_file}
use Rattle.dap_accessed.specs.Standing as at
use Rattle.dap_accessed.specs.Past.{is_dropping, ordinal_so_far, next_ordinal}
use Rattle.dap_accessed.specs.Effects.{told}
use Rattle.dap_accessed.specs.Replies.{coded, reason_of}
use Rattle.dap_accessed.specs.Transfers.{store_one, stored_answers}
use Rattle.dap_accessed.proofs.ForCallers.{record-fails}
use Rattle.dap_accessed.specs.Groups.{over, answers_in}
use Rattle.dap_accessing.specs.declared.request.Request.TheVariants as request
use Rattle.dap_accessing.specs.declared.report.Report.TheVariants as report
use Rattle.dap_accessing.specs.declared.phase.Phase.TheVariants.{Opened, Connected}
use Rattle.dap_accessing.specs.Asked.{control}
use Rattle.dap_accessing.specs.Told.{Reports, Unexpected, after_those, has_success, first_told, hear_stored}
use Rattle.dap_accessing.specs.Parts.{is_status, statuses_in_front, hear_store_end}
use Rattle.dap_accessing.proofs.ForCallers.{behind-more, statuses-more}
use Rattle.dap_end.specs.Agreement.{AgreeAt, AreLimits}
use Rattle.dap_end.proofs.Goes.{Goes, more_items, standing_at}

-- these answers are Statuses, none of which is a success
abbrev pub AreRefusals : List Message → Type 0
AreRefusals answers =
    (rest : List Item) → (has_success (statuses_in_front (map Whole answers ++ rest)) ≡ has_success (statuses_in_front rest)) × (after_those is_status (map Whole answers ++ rest) ≡ after_those is_status rest)

one_refusal : (status : StatusFields) → is_success status.code ≡ false → AreRefusals (Status status ∷ [])
one_refusal status e = λ rest. (
  ap has_success (statuses-more status rest) ∙ ap (λ b. b || has_success (statuses_in_front rest)) e,
  behind-more is_status (Whole (Status status)) rest refl,
)

-- the answer to a record of a Store is none, or such a Status
are_refusals : (full : Bool) (r : Result ℕ Refusal) (ordinal : ℕ) → AreRefusals (map (coded full) (stored_answers ordinal r))
are_refusals full (Ok n) ordinal = λ rest. (refl, refl)
are_refusals full (Err NotPermitted) ordinal = one_refusal _ (record-fails full (reason_of NotPermitted))
are_refusals full (Err NoCurrent) ordinal = one_refusal _ (record-fails full (reason_of NoCurrent))
are_refusals full (Err RecordNotFound) ordinal = one_refusal _ (record-fails full (reason_of RecordNotFound))
are_refusals full (Err RecordExists) ordinal = one_refusal _ (record-fails full (reason_of RecordExists))
are_refusals full (Err NumberOutOfRange) ordinal = one_refusal _ (record-fails full (reason_of NumberOutOfRange))
are_refusals full (Err BadLength) ordinal = one_refusal _ (record-fails full (reason_of BadLength))
are_refusals full (Err BadAccessMode) ordinal = one_refusal _ (record-fails full (reason_of BadAccessMode))
are_refusals full (Err DeleteNotAllowed) ordinal = one_refusal _ (record-fails full (reason_of DeleteNotAllowed))
are_refusals full (Err BadKey) ordinal = one_refusal _ (record-fails full (reason_of BadKey))
are_refusals full (Err NoMemory) ordinal = one_refusal _ (record-fails full (reason_of NoMemory))
are_refusals full (Err EndOfFile) ordinal = one_refusal _ refl

-- the effect of one record leaves a Store, and its answers are refusals
pub record OneStored (limit : ℕ) (o : OpenFile) (e : Effect) : Type 0 where
  pub stream : StreamVal
  pub state : e.state ≡ at.Store o stream
  pub same : e.scene.limit ≡ limit
  pub refusals : AreRefusals e.answers

pub one_stored : (own : ServerSetup) (scene : Scene) (o : OpenFile) (s : StreamVal) (body : List ℕ) (ordinal : ℕ) (dropping : Bool) → OneStored scene.limit o (told own (if dropping then enters scene (at.Store o s) [] else store_one ordinal scene o s body))
one_stored own scene o s body ordinal true = record { stream = s; state = refl; same = refl; refusals = λ rest. (refl, refl) }
one_stored own scene o s body ordinal false =
    let outcome = act (put_record None body) (the_file scene.files o) s in
    record { stream = outcome.stream; state = refl; same = refl; refusals = are_refusals own.full outcome.reply (next_ordinal ordinal) }

-- the records that are left, and the end of the stream
abbrev to_come : List (List ℕ) → List Item
to_come bodies = map Whole (map (Filedata []) bodies ++ complete_with 4 ∷ [])

-- such an end of a Store: its answers are refusals, and then the completion
record Stores (own : ServerSetup) (bodies : List (List ℕ)) (s : Standing) (o : OpenFile) : Type 0 where
  answers : List Message
  new : Standing
  cut_is : more_items own (record { standing = s; begun = None }) (to_come bodies) ≡ record { standing = new; begun = None }
  adds : answers_in new.past ≡ answers_in s.past ++ answers
  refused : has_success (statuses_in_front (map Whole answers)) ≡ false
  completed : after_those is_status (map Whole answers) ≡ Whole (complete_with 2) ∷ []
  state : new.state ≡ at.Opened o
  same : new.scene.limit ≡ s.scene.limit

stores : (own : ServerSetup) (bodies : List (List ℕ)) (files : Files) (limit : ℕ) (past : List Group) (o : OpenFile) (s : StreamVal)
    → Stores own bodies (standing_at (at.Store o s) files limit past) o
stores own [] files limit past o s =
    record { answers = complete_with 2 ∷ []; new = _; cut_is = refl; adds = refl; refused = refl; completed = refl; state = refl; same = refl }
stores own (body ∷ bodies) files limit past o s =
    let scene : Scene = record { limit = limit; files = files } in
    let e = told own (if is_dropping past then enters scene (at.Store o s) [] else store_one (ordinal_so_far past) scene o s body) in
    let one : OneStored limit o e = one_stored own scene o s body (ordinal_so_far past) (is_dropping past) in
    let t = over (standing_at (at.Store o s) files limit past) (at.Store o s) (Whole (Filedata [] body)) e in
    let rest = subst (λ (p : ServerState). Stores own bodies (standing_at p e.scene.files e.scene.limit t.past) o) (sym one.state) (stores own bodies e.scene.files e.scene.limit t.past o one.stream) in
    let all = map-append Whole e.answers rest.answers in
    let refusals = one.refusals (map Whole rest.answers) in
    record {
      answers = e.answers ++ rest.answers;
      new = rest.new;
      cut_is = rest.cut_is;
      adds = rest.adds ∙ append_assoc (answers_in past) e.answers rest.answers;
      refused = ap (λ l. has_success (statuses_in_front l)) all ∙ refusals.0 ∙ rest.refused;
      completed = ap (after_those is_status) all ∙ refusals.1 ∙ rest.completed;
      state = rest.state;
      same = rest.same ∙ one.same;
    }

-- the report of refusals and then the completion
pub hear_stores : (answers : List Item) → has_success (statuses_in_front answers) ≡ false → after_those is_status answers ≡ Whole (complete_with 2) ∷ []
    → hear_stored answers ≡ Reports (report.Stored (first_told (statuses_in_front answers))) []
hear_stores answers refused completed =
    ap (λ b. if b then Unexpected else hear_store_end (first_told (statuses_in_front answers)) (after_those is_status answers)) refused
    ∙ ap (hear_store_end (first_told (statuses_in_front answers))) completed

pub store_goes : (own_a : Configuration) (own_b : ServerSetup) (files : Files) (limit : ℕ) (past : List Group) (limit_a : ℕ) → AreLimits own_a own_b limit limit_a → (o : OpenFile) (s : StreamVal) (bodies : List (List ℕ))
    → Goes own_a own_b (request.Store bodies) Connected (standing_at (at.Connected o s) files limit past) limit_a
store_goes own_a own_b files limit past limit_a h o s bodies =
    let first : Item = Whole (control 4 (Some 3) None) in
    let group : Group = record { state = at.Connected o s; first = first; answers = [] } in
    let r = stores own_b bodies files limit (group ∷ past) o s in
    record {
      answers = r.answers;
      done = report.Stored (first_told (statuses_in_front (map Whole r.answers)));
      new = r.new;
      cut_is = r.cut_is;
      adds = r.adds ∙ ap (λ l. l ++ r.answers) (append-nil (answers_in past));
      heard = hear_stores (map Whole r.answers) r.refused r.completed;
      agree = subst (λ (p : ServerState). AgreeAt own_a own_b Opened p r.new.scene.limit limit_a) (sym r.state) (subst (λ (l : ℕ). AreLimits own_a own_b l limit_a) (sym r.same) h);
    }
