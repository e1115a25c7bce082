-- The requests of a client, and the exchange of its link at a node: message by message, whatever is done on other links
-- meanwhile.
use Rattle.std.proofs.Common.{◌≡◌, ◌≢◌, ℕ, refl, sym, ◌∙◌, true, subst, ap, append_assoc, List, [], ◌∷◌, ◌++◌, length, map, Option, Some, None, inl, inr}
use Rattle.std.specs.Prelude.{◌⊎◌, option_map}
use Rattle.std.proofs.lemmas.List.{append-nil, append_cancel_left, map-append}
use Rattle.std.proofs.lemmas.List.Sums.{fold-append}
use Rattle.rec_file.specs.declared.picks.Rights.{Rights}
use Rattle.dap_msg.specs.declared.message.Configuration.{Configuration}
use Rattle.dap_msg.specs.declared.message.Message.{Message}
use Rattle.dap_msg.specs.declared.items.Item.{Item}
use Rattle.dap_msg.specs.declared.items.Item.TheVariants.{Whole}
use Rattle.dap_msg.specs.BothEnds.{max_nsp_message}
use Rattle.dap_accessed.specs.declared.phase.OpenFile.{OpenFile}
use Rattle.dap_accessed.specs.declared.setup.ServerSetup.{ServerSetup}
use Rattle.dap_accessed.specs.Effects.{Begun}
use Rattle.dap_accessed.specs.Groups.{GroupedItems, answers_in}
use Rattle.dap_accessed.specs.Sessions.{moved_up}
use Rattle.dap_accessed.specs.Standing.{Files, ServerState}
use Rattle.dap_accessed.specs.Standing as at
use Rattle.dap_accessed.proofs.ForCallers.{AllFiles}
use Rattle.dap_shared.specs.Nodes.{Exchange, before_files, begun_moved_up, exchange_moved_up, exchange_of, exchange_without, more_beside, new_exchange}
use Rattle.dap_shared.specs.Sharing.{state_moved_up}
use Rattle.dap_accessing.specs.Request.{Request}
use Rattle.dap_accessing.specs.declared.report.Report.{Report}
use Rattle.dap_accessing.specs.declared.phase.Phase.{Phase}
use Rattle.dap_accessing.specs.declared.phase.Phase.TheVariants.{Fresh, Ready, Opened, Connected, Stopped}
use Rattle.dap_accessing.specs.Asked.{Asked, messages_of}
use Rattle.dap_accessing.specs.Phase.{IsAdmissible, limit_after, limit_next, phase_after, phase_next}
use Rattle.dap_accessing.specs.Phases.{phase_fits}
use Rattle.dap_accessing.specs.Told.{AnswersDue, Due, Hearing, NothingDue, Reports, Told, Unexpected, Waits, Wrong, due_after, hear, is_unexpected}
use Rattle.dap_accessing.proofs.ForCallers.{Stays, due-due_by, due_by, each_told, fits-where, stays}
use Rattle.dap_end.specs.Agreement.{AgreeAt, IsBufsiz}
use Rattle.dap_end.proofs.Agreeing.{AllHeard, asked-more, expected, hear-all, heard-more, same-rest, told-heard, unexpected-is, wrong-is}
use Rattle.dap_end.proofs.AllRead.{is_unexpected-then}
use Rattle.dap_end.proofs.Awaits.{Awaits, Ended, access_due, at_start, data_due, steps, store_due, waits-so-far}

module _ (own_a : Configuration) (own_b : ServerSetup) where
  -- Every message of the requests was served: there is a report for each, and the two ends agree.
  pub record IsSettled (rs : List Request) (items : List Item) (x : Exchange) : Type 0 where
    pub reports : List Report
    pub all : items ≡ map Whole (Asked own_a rs)
    pub whole : x.begun ≡ None
    pub heard : AllHeard rs (map Whole (answers_in x.past)) reports
    pub agree : AgreeAt own_a own_b (phase_after reports) x.state x.limit (limit_after reports)

  -- Of the last request only a front of the messages was served, and all of those before it: there is a report for each
  -- of these, and the server awaits the messages that are left.
  pub record IsUnderway (rs : List Request) (items : List Item) (x : Exchange) : Type 0 where
    pub before : List Request
    pub last : Request
    pub is : rs ≡ before ++ last ∷ []
    pub reports : List Report
    pub earlier : List Message
    pub so_far : List Message
    pub served : List Message
    pub left : List Message
    pub heard : AllHeard before (map Whole earlier) reports
    pub answers : answers_in x.past ≡ earlier ++ so_far
    pub items_are : items ≡ map Whole (Asked own_a before ++ served)
    pub parts : messages_of own_a last ≡ served ++ left
    pub awaits : Awaits own_a own_b (phase_after reports) (limit_after reports) last x.state x.limit x.begun so_far left

  -- these items were served of those that the requests ask, and the exchange is one that they leave
  pub data IsFollowed (rs : List Request) (items : List Item) (x : Exchange) : Type 0 where
    settled : IsSettled rs items x → IsFollowed rs items x
    underway : IsUnderway rs items x → IsFollowed rs items x

  -- a link that began, of which nothing was asked
  pub new-follows : (most : Rights) (rs : List Request) → rs ≡ [] → IsFollowed rs [] (new_exchange most)
  new-follows most rs e = subst (λ (l : List Request). IsFollowed l [] (new_exchange most)) (sym e) (settled (record { reports = []; all = refl; whole = refl; heard = (refl, refl); agree = refl }))

  -- ---- What others do: a file is removed, and those after it move up.

  agree-moved : (removed : ℕ) (phase : Phase) (state : ServerState) (limit limit_a : ℕ) → AgreeAt own_a own_b phase state limit limit_a → AgreeAt own_a own_b phase (state_moved_up removed state) limit limit_a
  agree-moved removed Fresh at.Fresh limit limit_a h = h
  agree-moved removed Ready at.Ready limit limit_a h = h
  agree-moved removed Opened (at.Opened o) limit limit_a h = h
  agree-moved removed Connected (at.Connected o s) limit limit_a h = h
  agree-moved removed Stopped (at.Stopped o s) limit limit_a h = h
  agree-moved removed Fresh state limit limit_a h = absurd h
  agree-moved removed Ready state limit limit_a h = absurd h
  agree-moved removed Opened state limit limit_a h = absurd h
  agree-moved removed Connected state limit limit_a h = absurd h
  agree-moved removed Stopped state limit limit_a h = absurd h

  awaits-moved : (removed : ℕ) (phase : Phase) (limit_a : ℕ) (r : Request) (state : ServerState) (limit : ℕ) (begun : Option Begun) (so_far left : List Message) → Awaits own_a own_b phase limit_a r state limit begun so_far left
      → Awaits own_a own_b phase limit_a r (state_moved_up removed state) limit (option_map (begun_moved_up removed) begun) so_far left
  awaits-moved removed phase limit_a r state limit begun so_far left (at_start h) =
      at_start (record { none = h.none; all = h.all; whole = ap (option_map (begun_moved_up removed)) h.whole; fits = h.fits; agree = agree-moved removed phase state limit limit_a h.agree })
  awaits-moved removed phase limit_a r state limit begun so_far left (access_due h) =
      access_due (record { none = h.none; access = h.access; all = h.all; whole = ap (option_map (begun_moved_up removed)) h.whole; hears = h.hears; opens = h.opens; is_ready = ap (state_moved_up removed) h.is_ready; was = h.was; limits = h.limits })
  awaits-moved removed phase limit_a r state limit begun so_far left (data_due h) =
      data_due
      (record {
        none = h.none;
        body = h.body;
        all = h.all;
        first = begun_moved_up removed h.first;
        begins = ap (option_map (begun_moved_up removed)) h.begins;
        hears = h.hears;
        opened = moved_up removed h.opened;
        stream = h.stream;
        connected = ap (state_moved_up removed) h.connected;
        was = h.was;
        limits = h.limits;
      })
  awaits-moved removed phase limit_a r state limit begun so_far left (store_due h) =
      store_due
      (record {
        refusals = h.refusals;
        bodies = h.bodies;
        all = h.all;
        whole = ap (option_map (begun_moved_up removed)) h.whole;
        hears = h.hears;
        opened = moved_up removed h.opened;
        stream = h.stream;
        storing = ap (state_moved_up removed) h.storing;
        was = h.was;
        limits = h.limits;
      })

  follows-without : (removed : ℕ) (rs : List Request) (items : List Item) (x : Exchange) → IsFollowed rs items x → IsFollowed rs items (exchange_without removed x)
  follows-without removed rs items x (settled h) =
      settled
      (record {
        reports = h.reports;
        all = h.all;
        whole = ap (option_map (begun_moved_up removed)) h.whole;
        heard = h.heard;
        agree = agree-moved removed (phase_after h.reports) x.state x.limit (limit_after h.reports) h.agree;
      })
  follows-without removed rs items x (underway h) =
      underway
      (record {
        before = h.before;
        last = h.last;
        is = h.is;
        reports = h.reports;
        earlier = h.earlier;
        so_far = h.so_far;
        served = h.served;
        left = h.left;
        heard = h.heard;
        answers = h.answers;
        items_are = h.items_are;
        parts = h.parts;
        awaits = awaits-moved removed (phase_after h.reports) (limit_after h.reports) h.last x.state x.limit x.begun h.so_far h.left h.awaits;
      })

  -- another link removed this file, or none
  pub follows-moved : (removed : Option OpenFile) (rs : List Request) (items : List Item) (x : Exchange) → IsFollowed rs items x → IsFollowed rs items (exchange_moved_up removed x)
  follows-moved None rs items x h = h
  follows-moved (Some removed) rs items x h = follows-without removed.at rs items x h

  -- ---- One item more is served.

  module _ (a : IsBufsiz own_a.bufsiz) (b : IsBufsiz own_b.identity.bufsiz) (files : Files) (good : AllFiles files) (others : List (Option OpenFile)) (most : Rights) (rs : List Request) (items : List Item) (x : Exchange) where
    abbrev then_at : Item → GroupedItems
    then_at item = more_beside own_b others (before_files files x) item

    module _ (u : IsUnderway rs items x) (m : Message) (rest : List Message) (parts : messages_of own_a u.last ≡ u.served ++ m ∷ rest) where
      front : List Message
      front = Asked own_a u.before ++ u.served

      all_are : map Whole (Asked own_a rs) ≡ map Whole (Asked own_a u.before ++ u.served) ++ Whole m ∷ map Whole rest
      all_are =
          ap (λ (l : List Request). map Whole (Asked own_a l)) u.is
          ∙ ap (map Whole) (asked-more own_a u.before u.last ∙ ap (λ (l : List Message). Asked own_a u.before ++ l) parts ∙ sym (append_assoc (Asked own_a u.before) u.served (m ∷ rest)))
          ∙ map-append Whole (Asked own_a u.before ++ u.served) (m ∷ rest)

      answers_are : (c : GroupedItems) (added : List Message) → answers_in c.standing.past ≡ answers_in x.past ++ added → answers_in c.standing.past ≡ u.earlier ++ (u.so_far ++ added)
      answers_are c added adds = adds ∙ ap (λ (l : List Message). l ++ added) u.answers ∙ append_assoc u.earlier u.so_far added

      ended : (c : GroupedItems) (added : List Message) → answers_in c.standing.past ≡ answers_in x.past ++ added → Ended own_a own_b (phase_after u.reports) (limit_after u.reports) u.last (u.so_far ++ added) rest c
          → IsSettled rs (items ++ Whole m ∷ []) (exchange_of most c)
      ended c added adds e =
          let reports : List Report = u.reports ++ e.done ∷ [] in
          let heard = heard-more u.before u.last (map Whole u.earlier) u.reports (map Whole (u.so_far ++ added)) e.done u.heard e.heard in
          let told : map Whole (answers_in c.standing.past) ≡ map Whole u.earlier ++ map Whole (u.so_far ++ added) = ap (map Whole) (answers_are c added adds) ∙ map-append Whole u.earlier (u.so_far ++ added) in
          record {
            reports = reports;
            all =
                ap (λ (l : List Item). l ++ Whole m ∷ []) u.items_are
                ∙ ap (λ (l : List Message). map Whole (Asked own_a u.before ++ u.served) ++ Whole m ∷ map Whole l) (sym e.last) ∙ sym all_are;
            whole = e.whole;
            heard = subst (λ (l : List Request). AllHeard l (map Whole (answers_in c.standing.past)) reports) (sym u.is)
                (subst (λ (l : List Item). AllHeard (u.before ++ u.last ∷ []) l reports) (sym told) heard);
            agree = subst (λ (p : Phase). AgreeAt own_a own_b p c.standing.state c.standing.scene.limit (limit_after reports)) (sym (fold-append phase_next Fresh u.reports (e.done ∷ [])))
                (subst (λ (l : ℕ). AgreeAt own_a own_b (phase_next (phase_after u.reports) e.done) c.standing.state c.standing.scene.limit l) (sym (fold-append limit_next max_nsp_message u.reports (e.done ∷ []))) e.agree);
          }

      goes_on : (c : GroupedItems) (added : List Message) → answers_in c.standing.past ≡ answers_in x.past ++ added
          → Awaits own_a own_b (phase_after u.reports) (limit_after u.reports) u.last c.standing.state c.standing.scene.limit c.begun (u.so_far ++ added) rest → IsUnderway rs (items ++ Whole m ∷ []) (exchange_of most c)
      goes_on c added adds w =
          record {
            before = u.before;
            last = u.last;
            is = u.is;
            reports = u.reports;
            earlier = u.earlier;
            so_far = u.so_far ++ added;
            served = u.served ++ m ∷ [];
            left = rest;
            heard = u.heard;
            answers = answers_are c added adds;
            items_are =
                ap (λ (l : List Item). l ++ Whole m ∷ []) u.items_are ∙ sym (map-append Whole (Asked own_a u.before ++ u.served) (m ∷ []))
                ∙ ap (map Whole) (append_assoc (Asked own_a u.before) u.served (m ∷ []));
            parts = parts ∙ sym (append_assoc u.served (m ∷ []) rest);
            awaits = w;
          }

      by_leads : (c : GroupedItems) (added : List Message) → answers_in c.standing.past ≡ answers_in x.past ++ added
          → Ended own_a own_b (phase_after u.reports) (limit_after u.reports) u.last (u.so_far ++ added) rest c
          ⊎ Awaits own_a own_b (phase_after u.reports) (limit_after u.reports) u.last c.standing.state c.standing.scene.limit c.begun (u.so_far ++ added) rest
          → IsFollowed rs (items ++ Whole m ∷ []) (exchange_of most c)
      by_leads c added adds (inl e) = settled (ended c added adds e)
      by_leads c added adds (inr w) = underway (goes_on c added adds w)

    by_left : (u : IsUnderway rs items x) (item : Item) (back : List Item) (left : List Message) → item ∷ back ≡ map Whole left → messages_of own_a u.last ≡ u.served ++ left
        → Awaits own_a own_b (phase_after u.reports) (limit_after u.reports) u.last x.state x.limit x.begun u.so_far left → IsFollowed rs (items ++ item ∷ []) (exchange_of most (then_at item))
    by_left u item back [] e parts w = let none : ⊥ = cc in absurd none
    by_left u item back (m ∷ rest) e parts w =
        let same : Whole m ≡ item = cc in
        let s = steps own_a own_b a b files good others x.limit x.past (limit_after u.reports) (phase_after u.reports) x.state x.begun u.last u.so_far m rest w in
        subst (λ (i : Item). IsFollowed rs (items ++ i ∷ []) (exchange_of most (then_at i))) same (by_leads u m rest parts (then_at (Whole m)) s.added s.adds s.leads)

    -- the item is the next of those that the requests ask
    pub follows-served : (item : Item) (back : List Item) → items ++ item ∷ back ≡ map Whole (Asked own_a rs) → IsFollowed rs items x → IsFollowed rs (items ++ item ∷ []) (exchange_of most (then_at item))
    follows-served item back split (settled s) =
        let more : item ∷ back ≡ [] = append_cancel_left items (item ∷ back) [] (split ∙ sym s.all ∙ sym (append-nil items)) in
        let none : ⊥ = cc in absurd none
    follows-served item back split (underway u) =
        let before : List Message = Asked own_a u.before ++ u.served in
        let all_are : map Whole (Asked own_a rs) ≡ map Whole before ++ map Whole u.left =
        ap (λ (l : List Request). map Whole (Asked own_a l)) u.is
        ∙ ap (map Whole) (asked-more own_a u.before u.last ∙ ap (λ (l : List Message). Asked own_a u.before ++ l) u.parts ∙ sym (append_assoc (Asked own_a u.before) u.served u.left))
        ∙ map-append Whole before u.left in
        let next : item ∷ back ≡ map Whole u.left = append_cancel_left (map Whole before) (item ∷ back) (map Whole u.left) (ap (λ (l : List Item). l ++ item ∷ back) (sym u.items_are) ∙ split ∙ all_are) in
        by_left u item back u.left next u.parts u.awaits

  -- ---- What is due at the client.

  -- more answers are due to the last request
  abbrev AreDue : Due → Type 0
  AreDue (AnswersDue r so_far) = Unit {0}
  AreDue NothingDue = ⊥
  AreDue Wrong = ⊥

  due-before : (q : Request) (qs : List Request) (l y back : List Item) (done : Report) (heard later : Hearing) → Stays heard later y → later ≡ Reports done back → ((rest : List Item) → rest ++ y ≡ back → AreDue (due_after qs rest)) → AreDue (due_by q qs l heard)
  due-before q qs l y back done (Reports d rest) later s e on = on rest (same-rest d done (rest ++ y) back (sym s ∙ e))
  due-before q qs l y back done Waits later s e on = tt
  due-before q qs l y back done Unexpected later s e on = let none : ⊥ = cc (s, e) in absurd none

  due-last : (r : Request) (l y : List Item) (heard later : Hearing) → Stays heard later y → later ≡ Waits → AreDue (due_by r [] l heard)
  due-last r l y (Reports d rest) later s e = let none : ⊥ = cc (s, e) in absurd none
  due-last r l y Waits later s e = tt
  due-last r l y Unexpected later s e = let none : ⊥ = cc (s, e) in absurd none

  still-due : (rs : List Request) (r : Request) (earlier so_far : List Item) (reports : List Report) → AllHeard rs earlier reports → hear r so_far ≡ Waits → (l y : List Item) → l ++ y ≡ earlier ++ so_far → AreDue (due_after (rs ++ r ∷ []) l)
  still-due [] r earlier so_far reports h w l y e =
      subst AreDue (sym (due-due_by r [] l)) (due-last r l y (hear r l) (hear r (l ++ y)) (stays r l y) (ap (hear r) (e ∙ ap (λ (k : List Item). k ++ so_far) h.0) ∙ w))
  still-due (q ∷ rs) r earlier so_far reports h w l y e =
      let whole : hear q (l ++ y) ≡ Reports h.done (h.back ++ so_far) = hear-all q (l ++ y) h.front (h.back ++ so_far) h.done (e ∙ ap (λ (k : List Item). k ++ so_far) h.parts ∙ append_assoc h.front h.back so_far) h.heard in
      subst AreDue (sym (due-due_by q (rs ++ r ∷ []) l))
      (due-before q (rs ++ r ∷ []) l y (h.back ++ so_far) h.done (hear q l) (hear q (l ++ y)) (stays q l y) whole (λ rest f. still-due rs r h.back so_far h.later h.rest w rest y f))

  -- after a front of the answers more are due to a request that is under way
  more-due : (rs : List Request) (items : List Item) (x : Exchange) (u : IsUnderway rs items x) (l y : List Item) → l ++ y ≡ map Whole (answers_in x.past) → AreDue (due_after rs l)
  more-due rs items x u l y e =
      subst (λ (k : List Request). AreDue (due_after k l)) (sym u.is)
      (still-due u.before u.last (map Whole u.earlier) (map Whole u.so_far) u.reports u.heard
      (waits-so-far own_a own_b (phase_after u.reports) (limit_after u.reports) u.last x.state x.limit x.begun u.so_far u.left u.awaits) l y
      (e ∙ ap (map Whole) u.answers ∙ map-append Whole u.earlier u.so_far))

  -- ---- One request more is asked.

  none-left : (rs : List Request) (answers : List Item) (reports : List Report) → AllHeard rs answers reports → (front back : List Item) → front ++ back ≡ answers → length (Told rs front) ≡ length rs → back ≡ []
  none-left rs answers reports h front [] e told = refl
  none-left rs answers reports h front (answer ∷ back) e told = absurd (expected rs answers reports h front back answer e (is_unexpected-then rs front answer told))

  pub follows-asked : (rs : List Request) (items : List Item) (x : Exchange) (r : Request) (front back : List Item) → front ++ back ≡ map Whole (answers_in x.past) → IsAdmissible own_a rs front r → IsFollowed rs items x → IsFollowed (rs ++ r ∷ []) items x
  follows-asked rs items x r front back e may (settled s) =
      let none : back ≡ [] = none-left rs (map Whole (answers_in x.past)) s.reports s.heard front back e (each_told rs front may.0) in
      let all : front ≡ map Whole (answers_in x.past) = sym (append-nil front) ∙ ap (λ (l : List Item). front ++ l) (sym none) ∙ e in
      let told : Told rs front ≡ s.reports = ap (Told rs) all ∙ told-heard rs (map Whole (answers_in x.past)) s.reports s.heard in
      let fits : phase_fits (phase_after s.reports) r ≡ true = ap (λ (l : List Report). phase_fits (phase_after l) r) (sym told) ∙ fits-where r (phase_after (Told rs front)) may.1 in
      underway
      (record {
        before = rs;
        last = r;
        is = refl;
        reports = s.reports;
        earlier = answers_in x.past;
        so_far = [];
        served = [];
        left = messages_of own_a r;
        heard = s.heard;
        answers = sym (append-nil (answers_in x.past));
        items_are = s.all ∙ ap (map Whole) (sym (append-nil (Asked own_a rs)));
        parts = refl;
        awaits = at_start (record { none = refl; all = refl; whole = s.whole; fits = fits; agree = s.agree });
      })
  follows-asked rs items x r front back e may (underway u) = absurd (subst AreDue may.0 (more-due rs items x u front back e))

  -- ---- The next answer.

  pub follows-expected : (rs : List Request) (items : List Item) (x : Exchange) → IsFollowed rs items x → (front back : List Item) (answer : Item) → front ++ answer ∷ back ≡ map Whole (answers_in x.past) → is_unexpected rs front answer ≢ true
  follows-expected rs items x (settled s) front back answer e = expected rs (map Whole (answers_in x.past)) s.reports s.heard front back answer e
  follows-expected rs items x (underway u) front back answer e =
      let due = more-due rs items x u (front ++ answer ∷ []) back (append_assoc front (answer ∷ []) back ∙ e) in
      λ wrong. absurd (subst AreDue (wrong-is (due_after rs (front ++ answer ∷ [])) (sym (unexpected-is rs front answer) ∙ wrong)) due)
