-- What a list of an asking end's calls leaves.
use Rattle.std.proofs.Common.{◌≡◌, ℕ, ◌+◌, ◌<◌, refl, sym, ◌∙◌, subst, ap, append_assoc, false, List, [], ◌∷◌, ◌++◌, length, inl, inr}
use Rattle.std.specs.Prelude.{◌⊎◌, Option}
use Rattle.std.proofs.lemmas.List.{append-nil}
use Rattle.nsp_link.specs.Link.{LinkValue, Stands}
use Rattle.dap_accessing.specs.Request.{Request}
use Rattle.dap_accessing.specs.declared.report.Report.{Report}
use Rattle.dap_accessing.specs.Told.{Told}
use Rattle.dap_end.specs.Ports.{HandsOver, PortValue}
use Rattle.dap_end.specs.Going.{AreFrontOf}
use Rattle.dap_end.specs.Writing.{WroteMore}
use Rattle.dap_end.specs.Moved.{sent_more}
use Rattle.dap_end.specs.Asking.{HasAsked, AskedOne}
use Rattle.dap_end.specs.Done.{AskingValue, ClientHistory, nothing_asked}
use Rattle.dap_end.specs.Runs.{RunsBy}
use Rattle.dap_end.specs.Headline.{WrittenPacket, AreWrittenOf, IsFromPeer}
use Rattle.dap_end.specs.Calls.{numbered_packets, WroteOne, EndEvent, Came, GoesOn, Repeats}
use Rattle.dap_end.specs.Calls.{AskingEvent, Asks, By, HeardMore, AskingStepped, AskingEventRuns, requests_in}
use Rattle.dap_end.specs.Histories.{asked_one}
use Rattle.dap_end.proofs.Taking.{grown}
use Rattle.dap_end.proofs.Asked.{ReadMore, asked_history, handed_is, handed_history, still_received, still_sent, read_grows}
use Rattle.dap_end.proofs.Packets.{all_written, still_written, written_on, numbered_written, one_written}
use Rattle.dap_end.proofs.Running.{StandsThen, then_stands, sent_link, stepped_by}
use Rattle.dap_end.proofs.Fronts.{served_prefix}

-- what the end did: these requests were asked, these reports told, and these packets written
pub record Asked_So (requests : List Request) (reports : List Report) (wrote : List WrittenPacket) (v : AskingValue) : Type 0 where
  pub past : ClientHistory
  pub is : HasAsked past v
  pub asked : past.requests ≡ requests
  pub told : reports ≡ Told past.requests past.answers
  pub packets : AreWrittenOf v.port.link past.handed wrote

-- the requests of one event
abbrev pub new_requests : AskingEvent → List Request
new_requests event = requests_in (event ∷ [])

-- nothing was told or written
same_so : (requests : List Request) (reports after : List Report) (wrote all ws : List WrittenPacket) (v : AskingValue) → after ≡ reports → ws ≡ [] → all ≡ wrote ++ ws → Asked_So requests reports wrote v → Asked_So requests after all v
same_so requests reports after wrote all ws v quiet none is t =
    subst (λ (l : List Report). Asked_So requests l all v) (sym quiet)
    (subst (λ (l : List WrittenPacket). Asked_So requests reports l v) (sym (is ∙ ap (λ (l : List WrittenPacket). wrote ++ l) none ∙ append-nil wrote)) t)

one_so : (requests : List Request) (reports after : List Report) (wrote all ws : List WrittenPacket) (v new : AskingValue) (k : Option ℕ) (w : WrittenPacket) → WroteOne v.port.link k w → new ≡ v → after ≡ reports → ws ≡ w ∷ [] → all ≡ wrote ++ ws → Asked_So requests reports wrote v
    → Asked_So requests after all new
one_so requests reports after wrote all ws v new k w one same quiet is e t =
    subst (λ (x : AskingValue). Asked_So requests after all x) (sym same)
    (subst (λ (l : List Report). Asked_So requests l all v) (sym quiet)
    (subst (λ (l : List WrittenPacket). Asked_So requests reports l v) (sym (e ∙ ap (λ (l : List WrittenPacket). wrote ++ l) is))
    (record {
      past = t.past;
      is = t.is;
      asked = t.asked;
      told = t.told;
      packets = all_written v.port.link t.past.handed wrote (w ∷ []) t.packets (one_written v.port.link t.past.handed k w t.is.sends one, tt);
    })))

heard_so : (requests : List Request) (reports more : List Report) (wrote : List WrittenPacket) (old new : AskingValue) → ReadMore old new more → Asked_So requests reports wrote old → Asked_So requests (reports ++ more) wrote new
heard_so requests reports more wrote old new m t =
    let g = m.past t.past t.is in
    record {
      past = g.0;
      is = g.1.is;
      asked = g.1.requests ∙ t.asked;
      told = ap (λ (l : List Report). l ++ more) t.told ∙ sym g.1.told ∙ ap (λ (l : List Request). Told l g.0.answers) (sym g.1.requests);
      packets = subst (λ (l : LinkValue). AreWrittenOf l g.0.handed wrote) (sym m.link) (subst (λ (h : List (List ℕ)). AreWrittenOf old.port.link h wrote) (sym g.1.handed) t.packets);
    }

-- all that waited was passed on, or none
abbrev pub HandedOver : AskingValue → AskingValue → Type 0
HandedOver old new = (new ≡ old) ⊎ ((n : ℕ) × HandsOver old new n)

handed_so : (requests : List Request) (reports : List Report) (wrote : List WrittenPacket) (old new : AskingValue) → HandedOver old new → Asked_So requests reports wrote old → Asked_So requests reports wrote new
handed_so requests reports wrote old new (inl same) t = subst (Asked_So requests reports wrote) (sym same) t
handed_so requests reports wrote old new (inr h) t =
    record {
      past = record t.past { handed = t.past.handed ++ old.port.outbox };
      is = handed_history old new h.0 h.1 t.past t.is;
      asked = t.asked;
      told = t.told;
      packets =
          subst (λ (v : AskingValue). AreWrittenOf v.port.link (t.past.handed ++ old.port.outbox) wrote) (sym (handed_is old new h.0 h.1))
          (still_written old.port.link t.past.handed old.port.outbox wrote t.packets);
    }

sent_so : (requests : List Request) (reports : List Report) (wrote ws : List WrittenPacket) (old new : AskingValue) (packets : List (List ℕ)) → WroteMore old.port new.port packets → new ≡ record old { port = new.port }
    → ws ≡ numbered_packets (old.port.link.sent + 1) old.port.link.coming.received packets → Asked_So requests reports wrote old → Asked_So requests reports (wrote ++ ws) new
sent_so requests reports wrote ws old new packets w e is t =
    let after : AreWrittenOf old.port.link t.past.handed ws =
    subst (AreWrittenOf old.port.link t.past.handed) (sym is) (numbered_written old.port.link t.past.handed (old.port.link.sent + 1) packets t.is.sends w.writes) in
    record {
      past = t.past;
      is = subst (HasAsked t.past) (sym e) (still_sent old new.port (length packets) w.sent t.past t.is);
      asked = t.asked;
      told = t.told;
      packets = subst (λ (l : LinkValue). AreWrittenOf l t.past.handed (wrote ++ ws)) (sym (sent_link old.port new.port (length packets) w.sent)) (all_written old.port.link t.past.handed wrote ws t.packets after);
    }

-- the end, and the reports and packets so far
abbrev SoFar : Type 0
SoFar = AskingValue × List Report × List WrittenPacket

-- what happens to either end
end_so : (comes : LinkValue → List ℕ → Type 0) (requests : List Request) (old new : SoFar) (event : EndEvent) (ws : List WrittenPacket) → AskingStepped comes old (By event) ws new → Asked_So requests old.1 old.2 old.0 → Asked_So requests new.1 new.2 new.0
end_so comes requests (old, reports, wrote) (new, after, all) (Came bytes) ws (s, e) t =
    let g = grown old.port.link s.1 bytes s.0 s.2 in
    same_so requests reports after wrote all ws new s.5 s.4 e
    (subst (Asked_So requests reports wrote) (sym s.3)
    (record { past = t.past; is = still_received old s.1 g s.2.sends t.past t.is; asked = t.asked; told = t.told; packets = written_on old.port.link s.1 g t.past.handed wrote t.packets }))
end_so comes requests (old, reports, wrote) (new, after, all) GoesOn ws (s, e) t =
    let (heard, read, over) = s.2 in
    let told = subst (λ (l : List Report). Asked_So requests l wrote heard) (sym read.1) (heard_so requests reports read.0 wrote old heard (read_grows old heard read.0 read.2) t) in
    subst (λ (l : List WrittenPacket). Asked_So requests after l new) (sym e) (sent_so requests after wrote ws s.0 new s.1 s.3 s.4 s.5 (handed_so requests after wrote heard s.0 over told))
end_so comes requests (old, reports, wrote) (new, after, all) (Repeats k) ws (s, e) t = one_so requests reports after wrote all ws old new _ s.0 s.2 s.3 s.5 s.4 e t

step_so : (comes : LinkValue → List ℕ → Type 0) (requests : List Request) (old new : SoFar) (event : AskingEvent) (ws : List WrittenPacket) → AskingStepped comes old event ws new → Asked_So requests old.1 old.2 old.0 → Asked_So (requests ++ new_requests event) new.1 new.2 new.0
step_so comes requests (old, reports, wrote) (new, after, all) (Asks request) ws s t =
    let a = s.1 in
    record {
      past = asked_one t.past old.present.identity request;
      is = asked_history request old new s.0 a t.past t.is;
      asked = ap (λ (l : List Request). l ++ request ∷ []) t.asked;
      told = s.3 ∙ t.told ∙ sym (a.asks.told t.past.requests t.past.answers t.is.asking);
      packets = subst (λ (p : PortValue). AreWrittenOf p.link t.past.handed all) (sym a.port) (subst (AreWrittenOf old.port.link t.past.handed) (sym s.4) t.packets);
    }
step_so comes requests old new (By event) ws s t = subst (λ (l : List Request). Asked_So l new.1 new.2 new.0) (sym (append-nil requests)) (end_so comes requests old new event ws s t)

pub requests_of : (event : AskingEvent) (events : List AskingEvent) → new_requests event ++ requests_in events ≡ requests_in (event ∷ events)
requests_of (Asks request) events = refl
requests_of (By event) events = refl

run_so : (comes : LinkValue → List ℕ → Type 0) (events : List AskingEvent) (requests : List Request) (old new : SoFar) → RunsBy (AskingStepped comes) old events new → Asked_So requests old.1 old.2 old.0 → Asked_So (requests ++ requests_in events) new.1 new.2 new.0
run_so comes [] requests old new r t =
    subst (λ (x : SoFar). Asked_So (requests ++ []) x.1 x.2 x.0) (sym r) (subst (λ (l : List Request). Asked_So l old.1 old.2 old.0) (sym (append-nil requests)) t)
run_so comes (event ∷ events) requests old new (mid, more, s, r) t =
    subst (λ (l : List Request). Asked_So l new.1 new.2 new.0) (append_assoc requests (new_requests event) (requests_in events) ∙ ap (λ (l : List Request). requests ++ l) (requests_of event events))
    (run_so comes events (requests ++ new_requests event) mid new r (step_so comes requests old mid event more s t))

pub asked_nothing : (v : AskingValue) → HasAsked nothing_asked v → Asked_So [] [] [] v
asked_nothing v h = record { past = nothing_asked; is = h; asked = refl; told = refl; packets = tt }

pub run_promises : (comes : LinkValue → List ℕ → Type 0) (events : List AskingEvent) (old new : AskingValue) (reports : List Report) (wrote : List WrittenPacket) → HasAsked nothing_asked old → AskingEventRuns comes old events new reports wrote
    → (past : ClientHistory) × HasAsked past new × (past.requests ≡ requests_in events) × (reports ≡ Told past.requests past.answers) × AreWrittenOf new.port.link past.handed wrote
run_promises comes events old new reports wrote h r =
    let t = run_so comes events [] (old, [], []) (new, reports, wrote) r (asked_nothing old h) in
    (t.past, t.is, t.asked, t.told, t.packets)

-- ---- From a peer.

record Listens (size : ℕ) (messages : List (List ℕ)) (v : AskingValue) : Type 0 where
  past : ClientHistory
  is : HasAsked past v
  stands : StandsThen v.port.link size messages past.given

handed_stands : (v : AskingValue) (size : ℕ) (messages given : List (List ℕ)) (new : AskingValue) (n : ℕ) → HandsOver v new n → StandsThen v.port.link size messages given → StandsThen new.port.link size messages given
handed_stands v size messages given new n h s =
    subst (λ (w : AskingValue). StandsThen w.port.link size messages given) (sym (handed_is v new n h)) (record { taken = s.0.taken; held = s.0.held }, s.1)

asked_stands : (v : AskingValue) (size : ℕ) (messages given : List (List ℕ)) (new : AskingValue) (request : Request) (n : ℕ) → AskedOne request v new n → StandsThen v.port.link size messages given → StandsThen new.port.link size messages given
asked_stands v size messages given new request n a s = subst (λ p. StandsThen p.link size messages given) (sym a.port) s

handed_listens : (size : ℕ) (messages : List (List ℕ)) (old new : AskingValue) → HandedOver old new → Listens size messages old → Listens size messages new
handed_listens size messages old new (inl same) t = subst (Listens size messages) (sym same) t
handed_listens size messages old new (inr h) t =
    record { past = record t.past { handed = t.past.handed ++ old.port.outbox }; is = handed_history old new h.0 h.1 t.past t.is; stands = handed_stands old size messages t.past.given new h.0 h.1 t.stands }

sent_listens : (size : ℕ) (messages : List (List ℕ)) (old new : AskingValue) (packets : List (List ℕ)) → WroteMore old.port new.port packets → new ≡ record old { port = new.port } → Listens size messages old → Listens size messages new
sent_listens size messages old new packets w e t =
    let here : Listens size messages (record old { port = sent_more old.port (length packets) }) =
    record { past = t.past; is = still_sent old (sent_more old.port (length packets)) (length packets) refl t.past t.is; stands = (record { taken = t.stands.0.taken; held = t.stands.0.held }, t.stands.1) } in
    subst (Listens size messages) (sym (e ∙ ap (λ (p : PortValue). record old { port = p }) w.sent)) here

step_listens : (size : ℕ) (messages : List (List ℕ)) (old new : SoFar) (event : AskingEvent) (ws : List WrittenPacket) → AskingStepped (IsFromPeer size messages) old event ws new → Listens size messages old.0 → Listens size messages new.0
step_listens size messages (old, _, _) (new, _, _) (By (Came bytes)) ws (s, e) t =
    let g = grown old.port.link s.1 bytes s.0 s.2 in
    subst (Listens size messages) (sym s.3)
    (record { past = t.past; is = still_received old s.1 g s.2.sends t.past t.is; stands = then_stands old.port.link s.1 size messages t.past.given bytes s.0 s.6 t.stands s.2 })
step_listens size messages (old, _, _) (new, _, _) (Asks request) ws s t =
    record { past = asked_one t.past old.present.identity request; is = asked_history request old new s.0 s.1 t.past t.is; stands = asked_stands old size messages t.past.given new request s.0 s.1 t.stands }
step_listens size messages (old, _, _) (new, _, _) (By GoesOn) ws (s, e) t =
    let (heard, read, over) = s.2 in
    let m = read_grows old heard read.0 read.2 in
    let g = m.past t.past t.is in
    let works : heard.port.link.failed ≡ false = ap (λ (l : LinkValue). l.failed) m.link ∙ t.stands.1 in
    let here : Listens size messages heard = record { past = g.0; is = g.1.is; stands = (g.1.stands size messages t.stands.0, works) } in
    sent_listens size messages s.0 new s.1 s.3 s.4 (handed_listens size messages heard s.0 over here)
step_listens size messages (old, _, _) (new, _, _) (By (Repeats k)) ws (s, e) t = subst (Listens size messages) (sym s.3) t

-- what comes in one way comes in another
pub runs_where : (here there : LinkValue → List ℕ → Type 0) → ((v : LinkValue) (bytes : List ℕ) → here v bytes → there v bytes) → (events : List AskingEvent) (old new : SoFar) → RunsBy (AskingStepped here) old events new → RunsBy (AskingStepped there) old events new
runs_where here there comes [] old new r = r
runs_where here there comes (Asks request ∷ events) old new r = (r.0, r.1, r.2, runs_where here there comes events r.0 new r.3)
runs_where here there comes (By event ∷ events) old new r =
    let step = stepped_by (r.0.1 ≡ old.1) (HeardMore old.1 r.0.1) here there old.0 r.0.0 event r.1 comes r.2.0 in
    (r.0, r.1, (step, r.2.1), runs_where here there comes events r.0 new r.3)

run_listens : (size : ℕ) (messages : List (List ℕ)) (events : List AskingEvent) (old new : SoFar) → RunsBy (AskingStepped (IsFromPeer size messages)) old events new → Listens size messages old.0 → Listens size messages new.0
run_listens size messages [] old new r h = subst (λ (x : SoFar). Listens size messages x.0) (sym r) h
run_listens size messages (event ∷ events) old new r h = run_listens size messages events r.0 new r.3 (step_listens size messages old r.0 event r.1 r.2 h)

pub run_hears : (size : ℕ) (messages : List (List ℕ)) (events : List AskingEvent) (old new : AskingValue) (reports : List Report) (wrote : List WrittenPacket) → 0 < size → HasAsked nothing_asked old → Stands old.port.link size messages [] → old.port.link.failed ≡ false
    → AskingEventRuns (IsFromPeer size messages) old events new reports wrote → (past : ClientHistory) × HasAsked past new × AreFrontOf messages past.answers
run_hears size messages events old new reports wrote pos h stands works r =
    let t = run_listens size messages events (old, [], []) (new, reports, wrote) r (record { past = nothing_asked; is = h; stands = (stands, works) }) in
    (t.past, t.is, served_prefix new.port.link size messages t.past.given new.port.offset t.past.answers pos t.stands.0 t.is.gone)

pub run_stands : (size : ℕ) (messages : List (List ℕ)) (events : List AskingEvent) (old new : AskingValue) (reports : List Report) (wrote : List WrittenPacket) → HasAsked nothing_asked old → StandsThen old.port.link size messages []
    → AskingEventRuns (IsFromPeer size messages) old events new reports wrote → (given : List (List ℕ)) × StandsThen new.port.link size messages given
run_stands size messages events old new reports wrote h s r =
    let t = run_listens size messages events (old, [], []) (new, reports, wrote) r (record { past = nothing_asked; is = h; stands = s }) in (t.past.given, t.stands)
