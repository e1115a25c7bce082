-- All requests together: each one's answers follow those of the ones before it.
use Rattle.std.proofs.Common.{◌≡◌, ℕ, suc, refl, sym, ◌∙◌, true, false, Bool, subst, ap, append_assoc, List, [], ◌∷◌, ◌++◌, length, map, None}
use Rattle.std.specs.Prelude.{◌≢◌}
use Rattle.std.proofs.lemmas.List.{append-nil, map-append}
use Rattle.std.proofs.lemmas.List.Sums.{fold-append}
use Rattle.dap_accessed.specs.declared.setup.ServerSetup.{ServerSetup}
use Rattle.dap_msg.specs.declared.message.Configuration.{Configuration}
use Rattle.dap_msg.specs.BothEnds.{max_nsp_message}
use Rattle.dap_msg.specs.declared.message.Message.{Message}
use Rattle.dap_msg.specs.declared.items.Item.{Item}
use Rattle.dap_msg.specs.declared.items.Item.TheVariants.{Whole}
use Rattle.dap_accessed.specs.Standing.{ServerState, Files, Group, Standing, start}
use Rattle.dap_accessed.specs.Standing as at
use Rattle.dap_accessed.specs.Groups.{GroupedItems, grouped_items, answers_in, stands_after}
use Rattle.dap_accessed.specs.declared.phase.OpenFile.{OpenFile}
use Rattle.rec_file.specs.Acts.{StreamVal}
use Rattle.dap_accessed.specs.Sound.{AreFiles}
use Rattle.dap_accessed.proofs.ForCallers.{AllFiles}
use Rattle.dap_accessed.proofs.ForCallers.{cut-more}
use Rattle.dap_accessed.proofs.ForCallers.{all-sound}
use Rattle.dap_accessing.specs.Request.{Request}
use Rattle.dap_accessing.specs.declared.request.Request.TheVariants as request
use Rattle.dap_accessing.specs.declared.report.Report.{Report}
use Rattle.dap_accessing.specs.declared.phase.Phase.{Phase}
use Rattle.dap_accessing.specs.declared.phase.Phase.TheVariants.{Fresh, Ready, Opened, Connected, Stopped}
use Rattle.dap_accessing.specs.Asked.{Asked, messages_of}
use Rattle.dap_accessing.specs.Told.{Hearing, Reports, Waits, Unexpected, hear, Told, Due, NothingDue, AnswersDue, Wrong, due_after, is_unexpected}
use Rattle.dap_accessing.specs.Phase.{phase_next, phase_after, limit_next, limit_after, IsAdmissible}
use Rattle.dap_accessing.specs.Phases.{phase_fits}
use Rattle.dap_accessing.proofs.ForCallers.{Stays, stays, told_by, Told-told_by, fits-where}
use Rattle.dap_accessing.proofs.ForCallers.{due_by, due-due_by}
use Rattle.dap_end.specs.Agreement.{IsBufsiz, asked_items, asked_answers, asked_reports, AreAllAdmissible}
use Rattle.dap_end.specs.Agreement.{AgreeAt, AreLimits, AreAgreed, AreExpected}
use Rattle.dap_end.proofs.Goes.{Goes, more_items, standing_at, connect_goes, close_opened, purge_opened, close_connected, purge_connected, close_stopped, purge_stopped, rewind_goes, delete_goes, update_goes, put_goes, get_goes, fetch_goes, continue_goes, open_goes, create_goes, hello_goes}
use Rattle.dap_end.proofs.Stores.{store_goes}

-- ---- One request, in the phase that it fits.

module _ (own_a : Configuration) (own_b : ServerSetup) (a : IsBufsiz own_a.bufsiz) (b : IsBufsiz own_b.identity.bufsiz) (files : Files) (all : AllFiles files) (limit : ℕ) (past : List Group) (limit_a : ℕ) where
  abbrev pub GoesAt : Phase → ServerState → Request → Type 0
  GoesAt phase state r = Goes own_a own_b r phase (standing_at state files limit past) limit_a

  goes_fresh : (r : Request) → phase_fits Fresh r ≡ true → GoesAt Fresh at.Fresh r
  goes_fresh request.Hello e = hello_goes own_a own_b files limit past limit_a a b
  goes_fresh r e = cc

  goes_ready : AreLimits own_a own_b limit limit_a → (r : Request) → phase_fits Ready r ≡ true → GoesAt Ready at.Ready r
  goes_ready h (request.Create name org rfm mrs mrn fac) e = create_goes own_a own_b files limit past limit_a name org rfm mrs mrn fac h
  goes_ready h (request.OpenFile name fac) e = open_goes own_a own_b files limit past limit_a name fac h all
  goes_ready h r e = cc

  goes_opened : AreLimits own_a own_b limit limit_a → (o : OpenFile) (r : Request) → phase_fits Opened r ≡ true → GoesAt Opened (at.Opened o) r
  goes_opened h o request.Connect e = connect_goes own_a own_b files limit past limit_a h o
  goes_opened h o request.Close e = close_opened own_a own_b files limit past limit_a h o
  goes_opened h o request.Purge e = purge_opened own_a own_b files limit past limit_a h o
  goes_opened h o r e = cc

  goes_connected : AreLimits own_a own_b limit limit_a → (o : OpenFile) (s : StreamVal) (r : Request) → phase_fits Connected r ≡ true → GoesAt Connected (at.Connected o s) r
  goes_connected h o s (request.Get by) e = get_goes own_a own_b files limit past limit_a h o s by
  goes_connected h o s (request.Put key body) e = put_goes own_a own_b files limit past limit_a h o s key body
  goes_connected h o s (request.Update body) e = update_goes own_a own_b files limit past limit_a h o s body
  goes_connected h o s request.Delete e = delete_goes own_a own_b files limit past limit_a h o s
  goes_connected h o s request.Rewind e = rewind_goes own_a own_b files limit past limit_a h o s
  goes_connected h o s request.Fetch e = fetch_goes own_a own_b files limit past limit_a h o s
  goes_connected h o s (request.Store bodies) e = store_goes own_a own_b files limit past limit_a h o s bodies
  goes_connected h o s request.Close e = close_connected own_a own_b files limit past limit_a h o s
  goes_connected h o s request.Purge e = purge_connected own_a own_b files limit past limit_a h o s
  goes_connected h o s r e = cc

  goes_stopped : AreLimits own_a own_b limit limit_a → (o : OpenFile) (s : StreamVal) (r : Request) → phase_fits Stopped r ≡ true → GoesAt Stopped (at.Stopped o s) r
  goes_stopped h o s (request.Continue w) e = continue_goes own_a own_b files limit past limit_a h o s w
  goes_stopped h o s request.Close e = close_stopped own_a own_b files limit past limit_a h o s
  goes_stopped h o s request.Purge e = purge_stopped own_a own_b files limit past limit_a h o s
  goes_stopped h o s r e = cc

  pub goes : (phase : Phase) (state : ServerState) → AgreeAt own_a own_b phase state limit limit_a → (r : Request) → phase_fits phase r ≡ true → GoesAt phase state r
  goes Fresh at.Fresh h r e = goes_fresh r e
  goes Ready at.Ready h r e = goes_ready h r e
  goes Opened (at.Opened o) h r e = goes_opened h o r e
  goes Connected (at.Connected o s) h r e = goes_connected h o s r e
  goes Stopped (at.Stopped o s) h r e = goes_stopped h o s r e
  goes Fresh state h r e = absurd h
  goes Ready state h r e = absurd h
  goes Opened state h r e = absurd h
  goes Connected state h r e = absurd h
  goes Stopped state h r e = absurd h

-- ---- Answers that come to one report for each request.

pub record First (r : Request) (answers : List Item) (reports : List Report) (Rest : List Item → List Report → Type 0) : Type 0 where
  pub front : List Item
  pub back : List Item
  pub done : Report
  pub later : List Report
  pub parts : answers ≡ front ++ back
  pub heard : hear r front ≡ Reports done []
  pub reports_are : reports ≡ done ∷ later
  pub rest : Rest back later

abbrev pub AllHeard : List Request → List Item → List Report → Type 0
AllHeard [] answers reports = (answers ≡ []) × (reports ≡ [])
AllHeard (r ∷ rs) answers reports = First r answers reports (λ back later. AllHeard rs back later)

pub heard-more : (rs : List Request) (r : Request) (answers : List Item) (reports : List Report) (b : List Item) (done : Report) → AllHeard rs answers reports → hear r b ≡ Reports done []
    → AllHeard (rs ++ r ∷ []) (answers ++ b) (reports ++ done ∷ [])
heard-more [] r answers reports b done h e =
    record {
      front = b;
      back = [];
      done = done;
      later = [];
      parts = ap (λ (l : List Item). l ++ b) h.0 ∙ sym (append-nil b);
      heard = e;
      reports_are = ap (λ (l : List Report). l ++ done ∷ []) h.1;
      rest = (refl, refl);
    }
heard-more (q ∷ rs) r answers reports b done h e =
    record {
      front = h.front;
      back = h.back ++ b;
      done = h.done;
      later = h.later ++ done ∷ [];
      parts = ap (λ (l : List Item). l ++ b) h.parts ∙ append_assoc h.front h.back b;
      heard = h.heard;
      reports_are = ap (λ (l : List Report). l ++ done ∷ []) h.reports_are;
      rest = heard-more rs r h.back h.later b done h.rest e;
    }

-- with the answers to the requests after it
pub hear-all : (r : Request) (answers front back : List Item) (done : Report) → answers ≡ front ++ back → hear r front ≡ Reports done [] → hear r answers ≡ Reports done back
hear-all r answers front back done parts heard =
    let s : Stays (Reports done []) (hear r (front ++ back)) back = subst (λ (h : Hearing). Stays h (hear r (front ++ back)) back) heard (stays r front back) in
    ap (hear r) parts ∙ s

pub told-heard : (rs : List Request) (answers : List Item) (reports : List Report) → AllHeard rs answers reports → Told rs answers ≡ reports
told-heard [] answers reports h = sym h.1
told-heard (r ∷ rs) answers reports h =
    Told-told_by r rs answers ∙ ap (told_by rs) (hear-all r answers h.front h.back h.done h.parts h.heard)
    ∙ ap (λ (l : List Report). h.done ∷ l) (told-heard rs h.back h.later h.rest) ∙ sym h.reports_are

as-many : (rs : List Request) (answers : List Item) (reports : List Report) → AllHeard rs answers reports → length reports ≡ length rs
as-many [] answers reports h = ap length h.1
as-many (r ∷ rs) answers reports h = ap length h.reports_are ∙ ap suc (as-many rs h.back h.later h.rest)

-- ---- Nothing is unexpected on the way.

pub same-rest : (d done : Report) (x back : List Item) → ◌≡◌ {A = Hearing} (Reports d x) (Reports done back) → x ≡ back
same-rest d done x back e = cc

wrong-by : (r : Request) (rs : List Request) (x y back : List Item) (done : Report) (hh later : Hearing) → Stays hh later y → later ≡ Reports done back
    → ((rest : List Item) → rest ++ y ≡ back → due_after rs rest ≢ Wrong) → due_by r rs x hh ≢ Wrong
wrong-by r rs x y back done (Reports d rest) later s e on = on rest (same-rest d done (rest ++ y) back (sym s ∙ e))
wrong-by r rs x y back done Waits later s e on = λ w. cc w
wrong-by r rs x y back done Unexpected later s e on = λ w. cc (s, e)

pub no-wrong : (rs : List Request) (answers : List Item) (reports : List Report) → AllHeard rs answers reports → (x y : List Item) → x ++ y ≡ answers → due_after rs x ≢ Wrong
no-wrong [] answers reports h [] y e = λ w. cc w
no-wrong [] answers reports h (i ∷ x) y e = cc (e ∙ h.0)
no-wrong (r ∷ rs) answers reports h x y e =
    let whole : hear r (x ++ y) ≡ Reports h.done h.back = hear-all r (x ++ y) h.front h.back h.done (e ∙ h.parts) h.heard in
    λ w. wrong-by r rs x y h.back h.done (hear r x) (hear r (x ++ y)) (stays r x y) whole (λ rest f. no-wrong rs h.back h.later h.rest rest y f) (sym (due-due_by r rs x) ∙ w)

abbrev pub is_wrong : Due → Bool
is_wrong NothingDue = false
is_wrong (AnswersDue r so_far) = false
is_wrong Wrong = true

pub unexpected-is : (rs : List Request) (answers : List Item) (answer : Item) → is_unexpected rs answers answer ≡ is_wrong (due_after rs (answers ++ answer ∷ []))
unexpected-is rs answers answer =
    elim (due_after rs (answers ++ answer ∷ [])) as (λ (d : Due). ◌≡◌ {A = Bool} (elim d [ NothingDue ↦ false | AnswersDue _ _ ↦ false | Wrong ↦ true ]) (is_wrong d)) [
      | NothingDue ↦ refl
      | AnswersDue r so_far ↦ refl
      | Wrong ↦ refl
    ]

pub wrong-is : (d : Due) → is_wrong d ≡ true → d ≡ Wrong
wrong-is NothingDue e = cc
wrong-is (AnswersDue r so_far) e = cc
wrong-is Wrong e = refl

pub expected : (rs : List Request) (answers : List Item) (reports : List Report) → AllHeard rs answers reports → (front back : List Item) (answer : Item) → front ++ answer ∷ back ≡ answers → is_unexpected rs front answer ≢ true
expected rs answers reports h front back answer e =
    λ u. no-wrong rs answers reports h (front ++ answer ∷ []) back (append_assoc front (answer ∷ []) back ∙ e)
    (wrong-is (due_after rs (front ++ answer ∷ [])) (sym (unexpected-is rs front answer) ∙ u))

-- ---- One request more.

pub asked-more : (own : Configuration) (rs : List Request) (r : Request) → Asked own (rs ++ r ∷ []) ≡ Asked own rs ++ messages_of own r
asked-more own [] r = append-nil (messages_of own r)
asked-more own (q ∷ rs) r = ap (λ (l : List Message). messages_of own q ++ l) (asked-more own rs r) ∙ sym (append_assoc (messages_of own q) (Asked own rs) (messages_of own r))

cut-append : (own : ServerSetup) (s : Standing) (xs ys : List Item) → grouped_items own s (xs ++ ys) ≡ more_items own (grouped_items own s xs) ys
cut-append own s xs [] = ap (grouped_items own s) (append-nil xs)
cut-append own s xs (y ∷ ys) =
    ap (grouped_items own s) (sym (append_assoc xs (y ∷ []) ys)) ∙ cut-append own s (xs ++ y ∷ []) ys ∙ ap (λ (c : GroupedItems). more_items own c ys) (cut-more own s xs y)

module _ (own_a : Configuration) (own_b : ServerSetup) (a : IsBufsiz own_a.bufsiz) (b : IsBufsiz own_b.identity.bufsiz) (first : Files) (good : AreFiles first) where
  abbrev after : List Request → GroupedItems
  after rs = stands_after own_b first (asked_items own_a rs)

  -- after these requests: no group is begun, there is a report for each, and the ends agree
  record Synced (rs : List Request) : Type 0 where
    standing : Standing
    whole : after rs ≡ record { standing = standing; begun = None }
    reports : List Report
    heard : AllHeard rs (map Whole (answers_in standing.past)) reports
    agree : AgreeAt own_a own_b (phase_after reports) standing.state standing.scene.limit (limit_after reports)

  answered : (rs : List Request) (y : Synced rs) → map Whole (asked_answers own_a own_b first rs) ≡ map Whole (answers_in y.standing.past)
  answered rs y = ap (λ (c : GroupedItems). map Whole (answers_in c.standing.past)) y.whole

  starts : Synced []
  starts = record { standing = start first; whole = refl; reports = []; heard = (refl, refl); agree = refl }

  sound-after : (rs : List Request) (y : Synced rs) → AllFiles y.standing.scene.files
  sound-after rs y = subst (λ (c : GroupedItems). AllFiles c.standing.scene.files) y.whole (all-sound own_b first (asked_items own_a rs) good).standing.files.files

  after-more : (rs : List Request) (r : Request) → after (rs ++ r ∷ []) ≡ more_items own_b (after rs) (map Whole (messages_of own_a r))
  after-more rs r =
      ap (λ (l : List Message). stands_after own_b first (map Whole l)) (asked-more own_a rs r)
      ∙ ap (stands_after own_b first) (map-append Whole (Asked own_a rs) (messages_of own_a r))
      ∙ cut-append own_b (start first) (asked_items own_a rs) (map Whole (messages_of own_a r))

  one-more : (rs : List Request) (r : Request) → Synced rs → IsAdmissible own_a rs (map Whole (asked_answers own_a own_b first rs)) r → Synced (rs ++ r ∷ [])
  one-more rs r y m =
      let s = y.standing in
      let told : Told rs (map Whole (asked_answers own_a own_b first rs)) ≡ y.reports = ap (Told rs) (answered rs y) ∙ told-heard rs (map Whole (answers_in s.past)) y.reports y.heard in
      let fits : phase_fits (phase_after y.reports) r ≡ true = ap (λ (l : List Report). phase_fits (phase_after l) r) (sym told) ∙ fits-where r (phase_after (Told rs (map Whole (asked_answers own_a own_b first rs)))) m.1 in
      let g = goes own_a own_b a b s.scene.files (sound-after rs y) s.scene.limit s.past (limit_after y.reports) (phase_after y.reports) s.state y.agree r fits in
      record {
        standing = g.new;
        whole = after-more rs r ∙ ap (λ (c : GroupedItems). more_items own_b c (map Whole (messages_of own_a r))) y.whole ∙ g.cut_is;
        reports = y.reports ++ g.done ∷ [];
        heard = subst (λ (l : List Item). AllHeard (rs ++ r ∷ []) l (y.reports ++ g.done ∷ [])) (sym (ap (map Whole) g.adds ∙ map-append Whole (answers_in s.past) g.answers))
            (heard-more rs r (map Whole (answers_in s.past)) y.reports (map Whole g.answers) g.done y.heard g.heard);
        agree = subst (λ (p : Phase). AgreeAt own_a own_b p g.new.state g.new.scene.limit (limit_after (y.reports ++ g.done ∷ []))) (sym (fold-append phase_next Fresh y.reports (g.done ∷ [])))
            (subst (λ (l : ℕ). AgreeAt own_a own_b (phase_next (phase_after y.reports) g.done) g.new.state g.new.scene.limit l) (sym (fold-append limit_next max_nsp_message y.reports (g.done ∷ []))) g.agree);
      }

  all-more : (before rs : List Request) → Synced before → AreAllAdmissible own_a own_b first before rs → Synced (before ++ rs)
  all-more before [] y m = subst Synced (sym (append-nil before)) y
  all-more before (r ∷ rs) y m =
      subst Synced (append_assoc before (r ∷ []) rs) (all-more (before ++ r ∷ []) rs (one-more before r y m.0) m.1)

  synced : (rs : List Request) → AreAllAdmissible own_a own_b first [] rs → Synced rs
  synced rs m = all-more [] rs starts m

  -- ---- The laws.

  pub one-report-each : (rs : List Request) → AreAllAdmissible own_a own_b first [] rs → length (asked_reports own_a own_b first rs) ≡ length rs
  one-report-each rs m =
      let y = synced rs m in
      ap length (ap (Told rs) (answered rs y) ∙ told-heard rs (map Whole (answers_in y.standing.past)) y.reports y.heard) ∙ as-many rs (map Whole (answers_in y.standing.past)) y.reports y.heard

  pub none-unexpected : (rs : List Request) → AreAllAdmissible own_a own_b first [] rs → AreExpected own_a own_b first rs
  none-unexpected rs m =
      let y = synced rs m in
      λ front back answer e. expected rs (map Whole (answers_in y.standing.past)) y.reports y.heard front back answer (e ∙ answered rs y)

  pub both-agree : (rs : List Request) → AreAllAdmissible own_a own_b first [] rs → AreAgreed own_a own_b first rs
  both-agree rs m =
      let y = synced rs m in
      let told : asked_reports own_a own_b first rs ≡ y.reports = ap (Told rs) (answered rs y) ∙ told-heard rs (map Whole (answers_in y.standing.past)) y.reports y.heard in
      record {
        whole = ap (λ (c : GroupedItems). c.begun) y.whole;
        states = subst (λ (l : List Report). AgreeAt own_a own_b (phase_after l) (after rs).standing.state (after rs).standing.scene.limit (limit_after l)) (sym told)
            (subst (λ (c : GroupedItems). AgreeAt own_a own_b (phase_after y.reports) c.standing.state c.standing.scene.limit (limit_after y.reports)) (sym y.whole) y.agree);
      }
