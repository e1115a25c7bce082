-- Asking a request is a step of the machine.
use Rattle.std.proofs.Common.{◌≡◌, ◌≢◌, ℕ, ◌≤◌, arith, refl, sym, ◌∙◌, subst, ap, true, List, [], ◌∷◌, ◌++◌, length, take, drop, map}
use Rattle.std.specs.Prelude.{Result, Ok, Err, IfOk, IfErr, OnOk}
use Rattle.std.proofs.lemmas.List.{drop-append-le, length-append, length-map, take-append-le}
use Rattle.std.proofs.lemmas.List.Elements.{All-cons}
use Rattle.dap_msg.specs.Canon.{canon}
use Rattle.dap_msg.specs.declared.message.Message.{Message}
use Rattle.dap_msg.specs.declared.items.Item.{Item}
use Rattle.dap_msg.specs.declared.items.Item.TheVariants.{Whole}
use Rattle.dap_msg.specs.Blocked.{NspMessage, blocked_bytes, Blocked, all_joined, messages_in, AllFit}
use Rattle.dap_msg.specs.Inner.Blocked.{AllWithin}
use Rattle.dap_msg.proofs.ForCallers.{messages_in-Blocked, within_limit}
use Rattle.dap_msg.specs.BothEnds.{plain_identity}
use Rattle.dap_msg.specs.declared.message.Configuration.{Configuration}
use Rattle.dap_accessed.specs.Setup.{plain_setup}
use Rattle.dap_accessed.specs.Standing as at
use Rattle.dap_accessed.specs.Standing.{ServerState}
use Rattle.dap_world.specs.Plain.{stands_after, Asked, messages_of, IsAdmissible, IsRefused}
use Rattle.dap_accessing.specs.Present as accessing
use Rattle.dap_accessing.specs.Asked as asked_by
use Rattle.dap_accessing.specs.Phase as of_any
use Rattle.dap_accessing.specs.Told.{Told}
use Rattle.dap_accessing.specs.Phase.{IsNoneDue, phase_after, limit_after}
use Rattle.dap_accessing.specs.Phases.{phase_fits}
use Rattle.dap_accessing.specs.declared.phase.Phase.{Phase}
use Rattle.dap_accessing.specs.declared.phase.Phase.TheVariants.{Fresh, Ready, Opened, Connected, Stopped}
use Rattle.dap_accessing.specs.Request.{Request}
use Rattle.dap_accessing.specs.declared.request.Request.TheVariants as request
use Rattle.dap_accessing.specs.declared.report.Report.{Report}
use Rattle.dap_accessing.specs.declared.fault.AskFault.{AskFault}
use Rattle.dap_accessing.specs.declared.fault.AskFault.TheVariants as ask_fault
use Rattle.dap_accessing.specs.Calls.{AskRefused}
use Rattle.dap_accessing.proofs.ForCallers.{asked_one, fits-where}
use Rattle.dap_world.specs.Inner.Within.{AreWithin}
use Rattle.dap_world.specs.Agreement.{AreAdmissible, IsBufsiz, request_answers, items_of, reports_of}
use Rattle.dap_end.specs.Agreement.{AgreeAt}
use Rattle.dap_world.specs.Inner.Agreement.{NextWithin}
use Rattle.dap_accessed.specs.Served.{AllAtMost}
use Rattle.dap_events.specs.declared.event.Event.TheVariants as event
use Rattle.dap_events.specs.declared.event.Step.{Step}
use Rattle.dap_events.specs.declared.event.Step.TheVariants as step
use Rattle.dap_events.specs.declared.event.WorldFault.{WorldFault}
use Rattle.dap_events.specs.declared.event.WorldFault.TheVariants as fault
use Rattle.dap_world.specs.Machine.{State, sent_by, served_by_b, answers_read, asking as asking_of, world_after_request, reports_by_a, Steps, RefusesEvent}
use Rattle.dap_world.specs.Runs.{ComesTo}
use Rattle.dap_world.specs.Inner.Worlds.{IsWorld}
use Rattle.dap_end.specs.Ports.{PortValue}
use Rattle.dap_end.specs.Asking.{AskedOne, HasAsked}
use Rattle.dap_end.specs.Done.{AskingValue}
use Rattle.dap_end.specs.Histories.{asked_one as one_asked}
use Rattle.dap_end.proofs.ForCallers.{asked_history, sendable-fit}
use Rattle.dap_world.proofs.Plain.{Asked-more}
use Rattle.dap_world.specs.Inner.Sides.{AreWithinLimit, AskFaultOf, AskedSo, side_of}
use Rattle.dap_world.specs.Inner.Parts.{Parts, AreParts, IsAskedAll, IsServedAll, IsCarried, asked_messages, answers, asking_end, serving_end, served_items, answer_packets, asked_packets, end_state, state_of}
use Rattle.dap_world.proofs.Steps.Counting.{counted}
use Rattle.dap_world.proofs.Headline.Blocks.{asked-more}
use Rattle.dap_world.proofs.Steps.Growing.{told_more, handed_same}
use Rattle.dap_world.proofs.Headline.Kept.{kept-step, all-answers, served-front, served_count}
use Rattle.dap_world.proofs.Headline.Agreeing.{both-agree}
use Rattle.dap_world.proofs.Headline.Within.{messages-within}
use Rattle.dap_world.proofs.Headline.Blocking.{blocked-within, within-one, within-front, within-back}
use Rattle.dap_world.proofs.Steps.Wrote.{AreThen, as_client, asking_parts, client_is}

-- ---- The limit that A knows is B's buffer, where more than one message could be joined.

fresh-blocked : (own_a limit own_b : ℕ) (r : Request) → phase_fits Fresh r ≡ true → Blocked limit (messages_of own_a r) ≡ Blocked own_b (messages_of own_a r)
fresh-blocked own_a limit own_b request.Hello e = refl
fresh-blocked own_a limit own_b r e = cc

pub same-blocked : (own_a own_b : ℕ) (phase : Phase) (state : ServerState) (limit_b limit_a : ℕ) (r : Request) → AgreeAt (plain_identity own_a) (plain_setup own_b) phase state limit_b limit_a → phase_fits phase r ≡ true
    → Blocked limit_a (messages_of own_a r) ≡ Blocked own_b (messages_of own_a r)
same-blocked own_a own_b Fresh state limit_b limit_a r h e = fresh-blocked own_a limit_a own_b r e
same-blocked own_a own_b Ready at.Ready limit_b limit_a r h e = ap (λ (l : ℕ). Blocked l (messages_of own_a r)) h.1
same-blocked own_a own_b Opened (at.Opened o) limit_b limit_a r h e = ap (λ (l : ℕ). Blocked l (messages_of own_a r)) h.1
same-blocked own_a own_b Connected (at.Connected o t) limit_b limit_a r h e = ap (λ (l : ℕ). Blocked l (messages_of own_a r)) h.1
same-blocked own_a own_b Stopped (at.Stopped o t) limit_b limit_a r h e = ap (λ (l : ℕ). Blocked l (messages_of own_a r)) h.1
same-blocked own_a own_b Ready state limit_b limit_a r h e = absurd h
same-blocked own_a own_b Opened state limit_b limit_a r h e = absurd h
same-blocked own_a own_b Connected state limit_b limit_a r h e = absurd h
same-blocked own_a own_b Stopped state limit_b limit_a r h e = absurd h

-- what is asked is blocked by B's buffer
asking_is : (s : State) (r : Request) → IsWorld s → IsAdmissible s.own_a s.requests (answers_read s) r → asking_of s r ≡ Blocked s.own_b (messages_of s.own_a r)
unfolding reports_by_a
asking_is s r h m =
    let all = all-answers s r h m in
    let agree = both-agree s.own_a s.own_b h.own_a h.own_b s.requests h.admissible in
    let standing = (stands_after s.own_b [] (items_of s.own_a s.requests)).standing in
    let reports = reports_of s.own_a s.own_b s.requests in
    let same : reports_by_a s ≡ reports = ap (Told s.requests) all in
    ap (λ (l : List Report). Blocked (limit_after l) (messages_of s.own_a r)) same
    ∙ same-blocked s.own_a s.own_b (phase_after reports) standing.state standing.scene.limit (limit_after reports) r agree.states (ap (λ (l : List Report). phase_fits (phase_after l) r) (sym same) ∙ fits-where r (phase_after (reports_by_a s)) m.1)

-- ---- None is too long.

short-packets : (limit most : ℕ) (packets : List NspMessage) → limit ≤ most → AllWithin limit packets → AreWithin limit (messages_in packets) → AreWithinLimit most (all_joined packets)
short-packets limit most [] le h all = λ k d lt. absurd (omega arith)
short-packets limit most (p ∷ packets) le h all =
    let one = within-one limit p h.0 (within-front limit p (messages_in packets) all) in
    All-cons (λ m. length m ≤ most) (blocked_bytes p) (all_joined packets) (omega (arith, one, le)) (short-packets limit most packets le h.1 (within-back limit p (messages_in packets) all))

-- the NSP messages of one request more that is admissible
pub request-blocked : (own_a own_b : ℕ) → IsBufsiz own_a → IsBufsiz own_b → (rs : List Request) → AreAdmissible own_a own_b [] rs → NextWithin own_a own_b rs
request-blocked own_a own_b a b rs all = λ r m.
    let agree = both-agree own_a own_b a b rs all in
    let standing = (stands_after own_b [] (items_of own_a rs)).standing in
    let reports = reports_of own_a own_b rs in
    subst (λ (l : List NspMessage). AllAtMost own_b (all_joined l)) (sym (same-blocked own_a own_b (phase_after reports) standing.state standing.scene.limit (limit_after reports) r agree.states (fits-where r (phase_after reports) m.1)))
    (blocked-within own_b own_b (messages_of own_a r) (omega arith) (messages-within own_a own_b a b rs all r m))

-- ---- No report comes of a request alone.

same_told : (rs : List Request) (answers : List Item) (v : accessing.ClientState) (r : Request) → accessing.ClientAfter rs answers v → IsNoneDue rs answers → Told (rs ++ r ∷ []) answers ≡ Told rs answers
same_told rs answers v r stands none = (asked_one rs answers r none).told

-- ---- The step.

asks_one : (p : Parts) (r : Request) → IsAdmissible p.accessing.own p.requests (answers_read (state_of p)) r → Steps (state_of p) (event.Ask r) (step.Asked (length (asking_of (state_of p) r))) (world_after_request (state_of p) r)
unfolding Steps
asks_one p r m = (m, refl, refl)

-- what B served is the same
served_same : (p : Parts) (r : Request) → AreParts p → map Whole (take p.served (Asked p.accessing.own (p.requests ++ r ∷ []))) ≡ served_items p
served_same p r h =
    let front = served-front (state_of p) h.world in
    let taken = served_count (state_of p) h.world in
    let long = length-append (served_by_b (state_of p)) front.0 in
    let all = ap length front.1 in
    ap (λ (l : List Message). map Whole (take p.served l)) (Asked-more p.accessing.own p.requests r)
    ∙ ap (map Whole) (take-append-le p.served (Asked p.accessing.own p.requests) (messages_of p.accessing.own r) (omega (arith, taken, long, all)))

module _ (p : Parts) (h : AreParts p) (r : Request) (m : IsAdmissible p.accessing.own p.requests (answers_read (state_of p)) r) where
  abbrev block : List NspMessage
  block = Blocked p.accessed.own (messages_of p.accessing.own r)

  abbrev q_of : List (List ℕ) → accessing.ClientState → Parts
  q_of outbox after = record p { a = record p.a { outbox = outbox }; accessing = as_client p after; requests = p.requests ++ r ∷ [] }

  answers_same : answer_packets p.accessed.own [] (map Whole (take p.served (Asked p.accessing.own (p.requests ++ r ∷ [])))) ≡ answers p
  answers_same = ap (answer_packets p.accessed.own []) (served_same p r h)

  state_asked : (outbox : List (List ℕ)) (after : accessing.ClientState) → state_of (q_of outbox after) ≡ world_after_request (state_of p) r
  state_asked outbox after =
      let s = state_of p in
      let n = counted p.a.posted h.from_a.handed p.a.outbox (asked_messages p) h.from_a.posted h.from_a.bytes in
      ap (λ (l : List NspMessage). record s { requests = p.requests ++ r ∷ []; a = end_state p.a (asked_packets p.accessing.own p.accessed.own (p.requests ++ r ∷ [])); b = end_state p.b l }) answers_same
      ∙ ap (λ (l : List NspMessage). record s { requests = p.requests ++ r ∷ []; a = end_state p.a l }) (asked-more p.accessing.own p.accessed.own p.requests r)
      ∙ ap (λ (l : List NspMessage). record s { requests = p.requests ++ r ∷ []; a = record s.a { waiting = drop p.a.posted (asked_messages p ++ block); handed = l } }) (handed_same p.a p.b (asked_messages p) block p.served h.from_a)
      ∙ ap (λ (l : List NspMessage). record s { requests = p.requests ++ r ∷ []; a = record s.a { waiting = l } })
      (drop-append-le p.a.posted (asked_messages p) block (omega arith) ∙ ap (λ (l : List NspMessage). s.a.waiting ++ l) (sym (asking_is s r h.world m)))

  parts_asked : (more : List (List ℕ)) (after : accessing.ClientState) → more ≡ all_joined (Blocked p.accessed.own (messages_of p.accessing.own r))
      → IsAskedAll (asking_end (q_of (p.a.outbox ++ more) after)) (p.requests ++ r ∷ []) (answers_read (state_of p)) → AreParts (q_of (p.a.outbox ++ more) after)
  unfolding reports_by_a
  parts_asked more after more_is asking =
      let s = state_of p in
      let outbox = p.a.outbox ++ more in
      let state = state_asked outbox after in
      let world = kept-step s (world_after_request s r) (event.Ask r) (step.Asked (length (asking_of s r))) (asks_one p r m) h.world in
      let all = messages_in-Blocked p.accessed.own (messages_of p.accessing.own r) in
      let admissible : IsAdmissible p.accessing.own p.requests (map Whole (request_answers p.accessing.own p.accessed.own p.requests)) r =
      subst (λ (l : List Item). IsAdmissible p.accessing.own p.requests l r) (all-answers s r h.world m) m in
      let within = messages-within p.accessing.own p.accessed.own h.world.own_a h.world.own_b p.requests h.world.admissible r admissible in
      let short : AreWithinLimit p.a.link.setup.max_message more =
      subst (AreWithinLimit p.a.link.setup.max_message) (sym more_is)
      (short-packets p.accessed.own p.a.link.setup.max_message block (omega (arith, h.limit)) (within_limit p.accessed.own (messages_of p.accessing.own r)) (subst (AreWithin p.accessed.own) (sym all) within)) in
      let fit : AllFit (messages_in block) = subst AllFit (sym all) (sendable-fit _ (messages_of p.accessing.own r) m.2) in
      record {
        world = subst IsWorld (sym state) world;
        plain_a = refl;
        plain_b = h.plain_b;
        alike = h.alike;
        limit = h.limit;
        most = h.most;
        from_a = subst (λ (l : List NspMessage). IsCarried (record p.a { outbox = outbox }) p.b l p.served) (sym (asked-more p.accessing.own p.accessed.own p.requests r))
            (told_more p.a p.b (asked_messages p) block p.served p.a.link.coming.inbox p.a.offset outbox more h.from_a refl more_is fit short);
        from_b = subst (λ (l : List NspMessage). IsCarried p.b (record p.a { outbox = outbox }) l p.read) (sym answers_same) h.from_b;
        sent_is = h.sent_is ∙ ap (λ (x : State). map canon (sent_by x.a)) (sym state);
        reports_is = h.reports_is ∙ sym (same_told p.requests (answers_read s) p.accessing r h.asking.1.asking m.0) ∙ ap reports_by_a (sym state);
        asking = subst (λ (x : State). IsAskedAll (asking_end (q_of outbox after)) (p.requests ++ r ∷ []) (answers_read x)) (sym state) asking;
        serving = subst (λ (x : State). IsServedAll (serving_end p) (map Whole (served_by_b x))) (sym state) h.serving;
      }

-- A is a plain client
admissible_so : (p : Parts) (r : Request) → AreParts p → of_any.IsAdmissible p.accessing.identity p.requests (answers_read (state_of p)) r → IsAdmissible p.accessing.own p.requests (answers_read (state_of p)) r
admissible_so p r h m = subst (λ (own : Configuration). of_any.IsAdmissible own p.requests (answers_read (state_of p)) r) h.plain_a m

refused_so : (p : Parts) (r : Request) (f : AskFault) → AreParts p → of_any.IsRefused p.accessing.identity p.requests (answers_read (state_of p)) r f → IsRefused p.accessing.own p.requests (answers_read (state_of p)) r f
refused_so p r f h m = subst (λ (own : Configuration). of_any.IsRefused own p.requests (answers_read (state_of p)) r f) h.plain_a m

refused_by : (p : Parts) (r : Request) (f : AskFault) → AreParts p → f ≢ ask_fault.NoMemory → AskRefused r p.accessing f → RefusesEvent (state_of p) (event.Ask r) (fault.Ask f)
unfolding RefusesEvent
refused_by p r ask_fault.Failed h f refused = let works = h.asking.1.asking.works in absurd cc
refused_by p r ask_fault.Busy h f refused = refused_so p r ask_fault.Busy h (refused.1 p.requests (answers_read (state_of p)) h.asking.1.asking)
refused_by p r ask_fault.WrongPhase h f refused = refused_so p r ask_fault.WrongPhase h (refused.1 p.requests (answers_read (state_of p)) h.asking.1.asking)
refused_by p r ask_fault.TooLarge h f refused = refused_so p r ask_fault.TooLarge h (refused.1 p.requests (answers_read (state_of p)) h.asking.1.asking)
refused_by p r ask_fault.NoMemory h f refused = absurd (f refl)

refused : (p : Parts) (r : Request) (f : WorldFault) → AreParts p → AskFaultOf r p.accessing f → ComesTo (state_of p) (event.Ask r) (Err f) (state_of p)
unfolding Steps RefusesEvent
refused p r (fault.Ask f) h why = (refused_by p r f h why.0 why.1, refl)
refused p r fault.NoMemory h may = ((_, _, asks_one p r (admissible_so p r h (may p.requests (answers_read (state_of p)) h.asking.1.asking)), tt), refl)
refused p r fault.NoSuchPacket h never = absurd never
refused p r fault.Stale h never = absurd never
refused p r fault.NothingToDo h never = absurd never
refused p r fault.Exhausted h never = absurd never
refused p r fault.BadSetup h never = absurd never

asked_step : (p : Parts) (r : Request) (v : AskingValue) (n : ℕ) (requests : List Request) → AreParts p → AskedOne r (asking_end p) v n → requests ≡ p.requests ++ r ∷ []
    → AreThen p (event.Ask r) (record (asking_parts p v p.a.posted p.a.wire) { requests = requests }) (Ok (step.Asked n))
unfolding Steps RefusesEvent reports_by_a
asked_step p r v n requests h o told =
    let read = answers_read (state_of p) in
    let stood = h.asking.1.asking in
    let m = admissible_so p r h (o.asks.admissible p.requests read stood) in
    let outbox = p.a.outbox ++ o.messages in
    let spelled : o.messages ≡ all_joined (asking_of (state_of p) r) = o.asks.spelled ∙ ap (λ (own : Configuration). all_joined (Blocked o.asks.limit (asked_by.messages_of own r))) h.plain_a ∙ ap (λ (l : ℕ). all_joined (Blocked l (messages_of p.accessing.own r))) (o.asks.is_limit p.requests read stood) in
    let more_is : o.messages ≡ all_joined (Blocked p.accessed.own (messages_of p.accessing.own r)) = spelled ∙ ap all_joined (asking_is (state_of p) r h.world m) in
    let own : v.present ≡ as_client p v.present = client_is p v h o.own o.identity in
    let q = q_of p h r m outbox v.present in
    let past = record h.asking.0 { requests = p.requests; answers = read } in
    let now = record h.asking.0 { requests = p.requests ++ r ∷ []; asked = h.asking.0.asked ++ Blocked (limit_after (Told p.requests read)) (messages_of p.accessing.own r); answers = read } in
    let asking : IsAskedAll (asking_end q) (p.requests ++ r ∷ []) read = (
      now,
      subst (λ (port : PortValue). HasAsked now (record { port = port; present = as_client p v.present })) o.port
          (subst (λ (y : accessing.ClientState). HasAsked now (record { port = v.port; present = y })) own
          (subst (λ (k : Configuration). HasAsked (one_asked past k r) v) h.plain_a (asked_history r (asking_end p) v n o past h.asking.1))),
    ) in
    let parts : AreParts q = parts_asked p h r m o.messages v.present more_is asking in
    let count : length (asking_of (state_of p) r) ≡ n = sym (length-map (asking_of (state_of p) r) blocked_bytes) ∙ ap length (sym spelled) ∙ sym o.count in
    let went : Steps (state_of p) (event.Ask r) (step.Asked n) (state_of q) =
    subst (λ (y : State). Steps (state_of p) (event.Ask r) (step.Asked n) y) (sym (state_asked p h r m outbox v.present)) (subst (λ (k : ℕ). Steps (state_of p) (event.Ask r) (step.Asked k) (world_after_request (state_of p) r)) count (asks_one p r m)) in
    subst (λ (l : List Request). AreThen p (event.Ask r) (record (asking_parts p v p.a.posted p.a.wire) { requests = l }) (Ok (step.Asked n))) (sym told)
    (subst (λ (port : PortValue). AreThen p (event.Ask r) (record p { a = side_of port p.a.posted p.a.wire; accessing = v.present; requests = p.requests ++ r ∷ [] }) (Ok (step.Asked n))) (sym o.port)
    (subst (λ (y : accessing.ClientState). AreThen p (event.Ask r) (record p { a = record p.a { outbox = outbox }; accessing = y; requests = p.requests ++ r ∷ [] }) (Ok (step.Asked n))) (sym own) (parts, went)))

pub asked_done : (p : Parts) (r : Request) (v : AskingValue) (requests : List Request) (result : Result Step WorldFault) → AreParts p → IfOk result (λ answer. AskedSo r (asking_end p) v answer)
    → OnOk result (requests ≡ p.requests ++ r ∷ []) → IfErr result (λ f. (v ≡ asking_end p) × (requests ≡ p.requests) × AskFaultOf r p.accessing f)
    → AreThen p (event.Ask r) (record (asking_parts p v p.a.posted p.a.wire) { requests = requests }) result
asked_done p r v requests (Ok answer) h ok told err =
    subst (λ (a : Step). AreThen p (event.Ask r) (record (asking_parts p v p.a.posted p.a.wire) { requests = requests }) (Ok a)) (sym ok.1) (asked_step p r v ok.0 requests h ok.2 told)
asked_done p r v requests (Err f) h ok told err =
    let none : AreThen p (event.Ask r) p (Err f) = (h, refused p r f h err.2) in
    rw (err.0, err.1) none
