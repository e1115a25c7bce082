-- What a list of a serving end's calls leaves.
use Rattle.std.proofs.Common.{◌≡◌, ℕ, ◌+◌, ◌<◌, arith, refl, sym, ◌∙◌, subst, ap, append_assoc, false, List, [], ◌∷◌, ◌++◌, length, inl, inr}
use Rattle.std.specs.Prelude.{◌⊎◌, max, ◌-◌, Option, Some, None, Result, Ok, Err}
use Rattle.std.proofs.lemmas.List.{append-nil}
use Rattle.dap_accessed.specs.declared.setup.ServerSetup.{ServerSetup}
use Rattle.dap_msg.specs.declared.items.Item.{Item}
use Rattle.dap_msg.specs.declared.message.Message.{Message}
use Rattle.dap_msg.specs.Blocked.{NspMessage, Blocked, messages_in}
use Rattle.dap_msg.proofs.ForCallers.{messages_in-Blocked}
use Rattle.nsp_link.specs.declared.link.Got.{Got}
use Rattle.nsp_link.specs.declared.fault.LinkFault.{LinkFault}
use Rattle.nsp_link.specs.declared.fault.LinkFault.TheVariants as fault
use Rattle.nsp_link.specs.Due.{MayRefuse}
use Rattle.nsp_link.proofs.ForCallers.{came_due}
use Rattle.nsp_link.specs.Link.{LinkValue, Stands, IsSpelling, with_inbox}
use Rattle.nsp_link.specs.Sending.{WritesSent, ack_packet_of}
use Rattle.dap_accessed.specs.Standing.{Files}
use Rattle.dap_accessed.specs.Groups.{Answers, answers_added, limit_for}
use Rattle.dap_accessed.proofs.ForCallers.{Answers-more}
use Rattle.dap_end.specs.declared.fault.EndFault.{EndFault}
use Rattle.dap_end.specs.declared.fault.TakeFault.{TakeFault}
use Rattle.dap_end.specs.Ports.{EndValue, HandsOver, PortValue}
use Rattle.nsp_link.specs.Receiving.{Receives}
use Rattle.dap_end.specs.Going.{AreFrontOf}
use Rattle.dap_end.specs.Writing.{WroteMore}
use Rattle.dap_end.specs.Moved.{sent_more}
use Rattle.dap_end.specs.Serving.{IsAfter, ServedOne}
use Rattle.dap_end.specs.Done.{ServingValue, ServerHistory, answers_to, nothing_yet}
use Rattle.dap_end.specs.Turns.{DidAll, WentOn, TookIn, TakesPacket}
use Rattle.dap_end.specs.Taking.{serves}
use Rattle.dap_end.specs.Calls.{WorkedOn, nothing_done}
use Rattle.dap_end.specs.Runs.{RunsBy}
use Rattle.dap_end.specs.Headline.{WrittenPacket, written_bytes, AreWrittenOf, IsFromPeer}
use Rattle.dap_end.specs.Calls.{numbered_packets, WroteOne, EndEvent, Came, GoesOn, Repeats, EndStepped, ServingStepped, EventRuns, RunsAs}
use Rattle.dap_end.proofs.Taking.{grown}
use Rattle.dap_end.proofs.Afterwards.{after_received}
use Rattle.dap_end.proofs.Fronts.{served_prefix}
use Rattle.dap_end.proofs.Packets.{all_written, still_written, written_on, numbered_written, one_written}
use Rattle.dap_end.proofs.Proceeding.{still_sent, worked_grew, one_served, one_posted, all_worked}
use Rattle.dap_end.specs.Inner.ServingView.{with_port}
use Rattle.dap_end.proofs.Stepping as stepping

-- ---- The answers.

pub in_append : (xs ys : List NspMessage) → messages_in (xs ++ ys) ≡ messages_in xs ++ messages_in ys
in_append [] ys = refl
in_append (x ∷ xs) ys = ap (λ (l : List Message). x ++ l) (in_append xs ys) ∙ sym (append_assoc x (messages_in xs) (messages_in ys))

pub answers_from : (own : ServerSetup) (first : Files) (before items : List Item) → Answers own first before ++ messages_in (answers_to own first before items) ≡ Answers own first (before ++ items)
answers_from own first before [] = append-nil (Answers own first before) ∙ ap (Answers own first) (sym (append-nil before))
answers_from own first before (item ∷ items) =
    let block = Blocked (limit_for own first before) (answers_added own first before item) in
    let rest = answers_to own first (before ++ item ∷ []) items in
    ap (λ (l : List Message). Answers own first before ++ l) (in_append block rest ∙ ap (λ (l : List Message). l ++ messages_in rest) (messages_in-Blocked (limit_for own first before) (answers_added own first before item)))
    ∙ sym (append_assoc (Answers own first before) (answers_added own first before item) (messages_in rest))
    ∙ ap (λ (l : List Message). l ++ messages_in rest) (sym (Answers-more own first before item))
    ∙ answers_from own first (before ++ item ∷ []) items
    ∙ ap (Answers own first) (append_assoc before (item ∷ []) items)

-- ---- Whatever comes.

-- what the end did, with the files that it had at first, and the packets that it wrote
pub record Did (first : Files) (v : ServingValue) (wrote : List WrittenPacket) : Type 0 where
  pub past : ServerHistory
  pub is : IsAfter past v
  pub had : past.first ≡ first
  pub packets : AreWrittenOf v.port.link past.handed wrote

no_more : (first : Files) (v : ServingValue) (wrote ws : List WrittenPacket) → ws ≡ [] → Did first v wrote → Did first v (wrote ++ ws)
no_more first v wrote ws none d = subst (Did first v) (sym (ap (λ (l : List WrittenPacket). wrote ++ l) none ∙ append-nil wrote)) d

one_more : (first : Files) (v new : ServingValue) (wrote ws : List WrittenPacket) (k : Option ℕ) (w : WrittenPacket) → WroteOne v.port.link k w → new ≡ v → ws ≡ w ∷ [] → Did first v wrote → Did first new (wrote ++ ws)
one_more first v new wrote ws k w one same is d =
    subst (λ (x : ServingValue). Did first x (wrote ++ ws)) (sym same)
    (subst (λ (l : List WrittenPacket). Did first v (wrote ++ l)) (sym is)
    (record {
      past = d.past;
      is = d.is;
      had = d.had;
      packets = all_written v.port.link d.past.handed wrote (w ∷ []) d.packets (one_written v.port.link d.past.handed k w d.is.sends one, tt);
    }))

-- written by the port, and the end did more before
pub went_written : (old served new : LinkValue) (handed more now : List (List ℕ)) (wrote ws : List WrittenPacket) → served ≡ record (with_inbox old served.coming.inbox) { queue = served.queue } → now ≡ handed ++ more
    → new ≡ record served { sent = new.sent } → AreWrittenOf old handed wrote → AreWrittenOf served now ws → AreWrittenOf new now (wrote ++ ws)
went_written old served new handed more now wrote ws counts is sent before after =
    let one : AreWrittenOf served handed wrote = subst (λ (l : LinkValue). AreWrittenOf l handed wrote) (sym counts) before in
    let two : AreWrittenOf served now wrote = subst (λ (h : List (List ℕ)). AreWrittenOf served h wrote) (sym is) (still_written served handed more wrote one) in
    subst (λ (l : LinkValue). AreWrittenOf l now (wrote ++ ws)) (sym sent) (all_written served now wrote ws two after)

pub sent_link : (p new : PortValue) (n : ℕ) → new ≡ sent_more p n → new.link ≡ record p.link { sent = new.link.sent }
sent_link p new n e = subst (λ (q : PortValue). q.link ≡ record p.link { sent = q.link.sent }) (sym e) refl

went : (old served new : ServingValue) (packets : List (List ℕ)) (first : Files) (wrote ws : List WrittenPacket) → WorkedOn old served → WroteMore served.port new.port packets → new ≡ with_port served new.port
    → ws ≡ numbered_packets (served.port.link.sent + 1) served.port.link.coming.received packets → Did first old wrote → Did first new (wrote ++ ws)
went old served new packets first wrote ws on w e is d =
    let m = worked_grew old served on in
    let more = m.past d.past d.is in
    let now = more.0 in
    let here : IsAfter now new = subst (IsAfter now) (sym (e ∙ ap (with_port served) w.sent)) (still_sent served (length packets) now more.1.is) in
    let after : AreWrittenOf served.port.link now.handed ws = subst (AreWrittenOf served.port.link now.handed) (sym is) (numbered_written served.port.link now.handed (served.port.link.sent + 1) packets more.1.is.sends w.writes) in
    record {
      past = now;
      is = here;
      had = more.1.first ∙ d.had;
      packets = went_written old.port.link served.port.link new.port.link d.past.handed more.1.handed.0 now.handed wrote ws m.link more.1.handed.1 (sent_link served.port new.port (length packets) w.sent) d.packets after;
    }

-- the end, and the packets so far
abbrev Wrote : Type 0
Wrote = ServingValue × List WrittenPacket

-- an event of the end alone
abbrev Stepping : (comes : LinkValue → List ℕ → Type 0) → ServingValue → EndEvent → ServingValue → List WrittenPacket → Type 0
Stepping comes old event new ws = EndStepped (Unit {0}) WorkedOn comes old event new ws

step_end : (comes : LinkValue → List ℕ → Type 0) (old new : ServingValue) (event : EndEvent) (first : Files) (wrote ws : List WrittenPacket) → Stepping comes old event new ws → Did first old wrote → Did first new (wrote ++ ws)
step_end comes old new (Came bytes) first wrote ws t d =
    let g = grown old.port.link t.1 bytes t.0 t.2 in
    no_more first new wrote ws t.4
    (subst (λ (v : ServingValue). Did first v wrote) (sym t.3)
    (record { past = d.past; is = after_received d.past old t.1 g t.2.sends d.is; had = d.had; packets = written_on old.port.link t.1 g d.past.handed wrote d.packets }))
step_end comes old new GoesOn first wrote ws t d = went old t.0 new t.1 first wrote ws t.2 t.3 t.4 t.5 d
step_end comes old new (Repeats k) first wrote ws t d = one_more first old new wrote ws _ t.0 t.2 t.3 t.4 d

step : (comes : LinkValue → List ℕ → Type 0) (old new : Wrote) (event : EndEvent) (first : Files) (ws : List WrittenPacket) → ServingStepped comes old event ws new → Did first old.0 old.1 → Did first new.0 new.1
step comes (old, wrote) (new, all) event first ws (t, e) d = subst (Did first new) (sym e) (step_end comes old new event first wrote ws t d)

pub run : (comes : LinkValue → List ℕ → Type 0) (events : List EndEvent) (old new : Wrote) (first : Files) → RunsBy (ServingStepped comes) old events new → Did first old.0 old.1 → Did first new.0 new.1
run comes [] old new first r d = subst (λ (x : Wrote). Did first x.0 x.1) (sym r) d
run comes (event ∷ events) old new first r d = run comes events r.0 new first r.3 (step comes old r.0 event first r.1 r.2 d)

pub did_nothing : (first : Files) (v : ServingValue) → IsAfter (nothing_yet first) v → Did first v []
did_nothing first v h = record { past = nothing_yet first; is = h; had = refl; packets = tt }

-- ---- From a peer.

-- and its link runs, and has the front of what the peer sends
record Hears (size : ℕ) (messages : List (List ℕ)) (first : Files) (v : ServingValue) : Type 0 where
  past : ServerHistory
  is : IsAfter past v
  had : past.first ≡ first
  stands : Stands v.port.link size messages past.given
  works : v.port.link.failed ≡ false

-- the link after a packet of the peer
abbrev pub StandsThen : LinkValue → ℕ → List (List ℕ) → List (List ℕ) → Type 0
StandsThen link size messages given = Stands link size messages given × (link.failed ≡ false)

pub then_stands : (old link : LinkValue) (size : ℕ) (messages given : List (List ℕ)) (bytes : List ℕ) (r : Result Got LinkFault) → IsFromPeer size messages old bytes → StandsThen old size messages given → Receives old link bytes r
    → StandsThen link size messages given
then_stands old link size messages given bytes (Ok got) f s h =
    let told = came_due old link bytes (Ok got) size messages given f.0 f.1 f.2 h f.3 (s.1, s.0, f.4) in (told.2, told.1.failed ∙ s.1)
then_stands old link size messages given bytes (Err e) f s h =
    let told = came_due old link bytes (Err e) size messages given f.0 f.1 f.2 h f.3 (s.1, s.0, f.4) in
    subst (λ (l : LinkValue). StandsThen l size messages given) (sym told.1) s

-- A packet comes from a peer whose size is above 0. So of one whose size is 0 none comes, and it may have any size.
abbrev pub some_size : ℕ → ℕ
some_size size = max 1 size

pub some_peer : (size : ℕ) (messages : List (List ℕ)) (v : LinkValue) (bytes : List ℕ) → IsFromPeer size messages v bytes → IsFromPeer (some_size size) messages v bytes
some_peer size messages v bytes f =
    let same : size ≡ some_size size = omega (arith, f.4.positive) in
    subst (λ (n : ℕ). IsFromPeer n messages v bytes) same f

pub stepped_by : {P : Type 0} (quiet : Type 0) (does : EndValue P → EndValue P → Type 0) (here there : LinkValue → List ℕ → Type 0) (old new : EndValue P) (event : EndEvent) (ws : List WrittenPacket) → ((v : LinkValue) (bytes : List ℕ) → here v bytes → there v bytes)
    → EndStepped quiet does here old event new ws → EndStepped quiet does there old event new ws
stepped_by quiet does here there old new (Came bytes) ws comes t = (t.0, t.1, t.2, t.3, t.4, t.5, comes old.port.link bytes t.6)
stepped_by quiet does here there old new GoesOn ws comes t = t
stepped_by quiet does here there old new (Repeats k) ws comes t = t

-- what comes in one way comes in another
pub runs_where : (here there : LinkValue → List ℕ → Type 0) → ((v : LinkValue) (bytes : List ℕ) → here v bytes → there v bytes) → (events : List EndEvent) (old new : Wrote) → RunsBy (ServingStepped here) old events new → RunsBy (ServingStepped there) old events new
runs_where here there comes [] old new r = r
runs_where here there comes (event ∷ events) old new r =
    (r.0, r.1, (stepped_by (Unit {0}) WorkedOn here there old.0 r.0.0 event r.1 comes r.2.0, r.2.1), runs_where here there comes events r.0 new r.3)

went_hears : (old served new : ServingValue) (sent size : ℕ) (messages : List (List ℕ)) (first : Files) → WorkedOn old served → new ≡ with_port served (sent_more served.port sent) → Hears size messages first old
    → Hears size messages first new
went_hears old served new sent size messages first on e h =
    let m = worked_grew old served on in
    let more = m.past h.past h.is in
    let stands = more.1.stands size messages h.stands in
    let works : served.port.link.failed ≡ false = ap (λ (l : LinkValue). l.failed) m.link ∙ h.works in
    subst (Hears size messages first) (sym e)
    (record {
      past = more.0;
      is = still_sent served sent more.0 more.1.is;
      had = more.1.first ∙ h.had;
      stands = record { taken = stands.taken; held = stands.held };
      works = works;
    })

step_hears : (old new : ServingValue) (event : EndEvent) (ws : List WrittenPacket) (size : ℕ) (messages : List (List ℕ)) (first : Files) → Stepping (IsFromPeer size messages) old event new ws → Hears size messages first old → Hears size messages first new
step_hears old new (Came bytes) ws size messages first t h =
    let g = grown old.port.link t.1 bytes t.0 t.2 in
    let s = then_stands old.port.link t.1 size messages h.past.given bytes t.0 t.6 (h.stands, h.works) t.2 in
    subst (Hears size messages first) (sym t.3)
    (record { past = h.past; is = after_received h.past old t.1 g t.2.sends h.is; had = h.had; stands = s.0; works = s.1 })
step_hears old new GoesOn ws size messages first t h = went_hears old t.0 new (length t.1) size messages first t.2 (t.4 ∙ ap (with_port t.0) t.3.sent) h
step_hears old new (Repeats k) ws size messages first t h = subst (Hears size messages first) (sym t.3) h

run_hears : (events : List EndEvent) (old new : Wrote) (size : ℕ) (messages : List (List ℕ)) (first : Files) → RunsBy (ServingStepped (IsFromPeer size messages)) old events new → Hears size messages first old.0 → Hears size messages first new.0
run_hears [] old new size messages first r h = subst (λ (x : Wrote). Hears size messages first x.0) (sym r) h
run_hears (event ∷ events) old new size messages first r h = run_hears events r.0 new size messages first r.3 (step_hears old.0 r.0.0 event r.1 size messages first r.2.0 h)

pub run_from : (events : List EndEvent) (old new : ServingValue) (wrote : List WrittenPacket) (size : ℕ) (messages : List (List ℕ)) (past : ServerHistory) → 0 < size → IsAfter past old → Stands old.port.link size messages past.given → old.port.link.failed ≡ false
    → EventRuns (IsFromPeer size messages) old events new wrote → (now : ServerHistory) × IsAfter now new × (now.first ≡ past.first) × AreFrontOf messages now.items
run_from events old new wrote size messages past pos is stands works r =
    let h = run_hears events (old, []) (new, wrote) size messages past.first r (record { past = past; is = is; had = refl; stands = stands; works = works }) in
    (h.past, h.is, h.had, served_prefix new.port.link size messages h.past.given new.port.offset h.past.items pos h.stands h.is.gone)

-- so the link stands where it should
pub run_stands : (events : List EndEvent) (old new : ServingValue) (wrote : List WrittenPacket) (size : ℕ) (messages : List (List ℕ)) (past : ServerHistory) → IsAfter past old → StandsThen old.port.link size messages past.given
    → EventRuns (IsFromPeer size messages) old events new wrote → (given : List (List ℕ)) × StandsThen new.port.link size messages given
run_stands events old new wrote size messages past is s r =
    let h = run_hears events (old, []) (new, wrote) size messages past.first r (record { past = past; is = is; had = refl; stands = s.0; works = s.1 }) in (h.past.given, (h.stands, h.works))

two_reasons : (v : LinkValue) (k : Option ℕ) (e : LinkFault) → MayRefuse v k e → (e ≡ fault.NoMemory) ⊎ (e ≡ fault.Exhausted)
two_reasons v None e h = absurd h
two_reasons v (Some k) e (inl h) = inl h.0
two_reasons v (Some k) e (inr h) = inr h.0

-- and the next packet of the peer is refused for these two reasons alone
pub refused_due : (old new : LinkValue) (size : ℕ) (messages given : List (List ℕ)) (bytes : List ℕ) (e : LinkFault) → StandsThen old size messages given → IsFromPeer size messages old bytes → Receives old new bytes (Err e)
    → ((e ≡ fault.NoMemory) ⊎ (e ≡ fault.Exhausted)) × (new ≡ old)
refused_due old new size messages given bytes e s f h =
    let due = h.due size messages given f.0 f.1 f.2 f.3 (s.1, s.0, f.4) in (two_reasons old f.1 e due.0, due.1)

-- ---- Calls are runs.

-- it may do nothing
none : (v : ServingValue) → WorkedOn v v
none v = nothing_done

-- with packets that were there before
pub shifted : (comes : LinkValue → List ℕ → Type 0) (events : List EndEvent) (front : List WrittenPacket) (old new : Wrote) → RunsBy (ServingStepped comes) old events new → RunsBy (ServingStepped comes) (old.0, front ++ old.1) events (new.0, front ++ new.1)
shifted comes events front old new r = stepping.shifted WorkedOn none comes events front old new r

module _ (comes : LinkValue → List ℕ → Type 0) where
  pub no_call : (v : ServingValue) → RunsAs comes v v []
  no_call v = ([], refl)

  pub more_calls : (old mid new : ServingValue) (ws more : List WrittenPacket) → RunsAs comes old mid ws → RunsAs comes mid new more → RunsAs comes old new (ws ++ more)
  more_calls old mid new ws more r q = stepping.more_calls WorkedOn none comes old mid new ws more r q

  pub serving_is : (old new : ServingValue) (n : ℕ) → ServedOne old new n → RunsAs comes old new []
  serving_is old new n s = stepping.doing_is WorkedOn none comes old new (one_served old new n s)

  pub serving_all_is : (most : ℕ) (old new : ServingValue) (r : Result (Unit {0}) EndFault) → DidAll (serves most) old new r → RunsAs comes old new []
  serving_all_is most old new r s = stepping.all_is WorkedOn none comes (serves most) (all_worked most) old new r s

  pub posting_is : (old new : ServingValue) (n : ℕ) → HandsOver old new n → RunsAs comes old new []
  posting_is old new n p = stepping.doing_is WorkedOn none comes old new (one_posted old new n p)

  pub writing_is : (old new : ServingValue) (bytes : List ℕ) → new ≡ with_port old new.port → WroteMore old.port new.port (bytes ∷ [])
      → RunsAs comes old new (record { bytes = bytes; segment = Some (old.port.link.sent + 1); acks = old.port.link.coming.received } ∷ [])
  writing_is old new bytes rest w = stepping.writing_is WorkedOn none comes old new bytes rest w

  pub again_is : (v : ServingValue) (i : ℕ) (bytes : List ℕ) → i < v.port.link.sent - v.port.link.acked → WritesSent v.port.link (Some (v.port.link.acked + 1 + i)) bytes
      → RunsAs comes v v (record { bytes = bytes; segment = Some (v.port.link.acked + 1 + i); acks = v.port.link.coming.received } ∷ [])
  again_is v i bytes lt w = stepping.again_is WorkedOn none comes v i bytes lt w

  pub ack_is : (v : ServingValue) (bytes : List ℕ) → IsSpelling (ack_packet_of v.port.link) bytes → RunsAs comes v v (record { bytes = bytes; segment = None; acks = v.port.link.coming.received } ∷ [])
  ack_is v bytes s = stepping.ack_is WorkedOn none comes v bytes s

  pub receiving_is : (old new : ServingValue) (bytes : List ℕ) (r : Result Got LinkFault) → comes old.port.link bytes → TookIn old new bytes r → RunsAs comes old new []
  receiving_is old new bytes r h t = stepping.receiving_is WorkedOn none comes old new bytes r h t

  -- a run whose packets stand after those that were there
  abbrev pub AreCalls : ServingValue → ServingValue → (out all : List (List ℕ)) → Type 0
  AreCalls old new out all = (wrote : List WrittenPacket) × RunsAs comes old new wrote × (all ≡ out ++ written_bytes wrote)

  pub going_on_is : (most : ℕ) (old new : ServingValue) (out all : List (List ℕ)) (r : Result (Unit {0}) EndFault) → WentOn (serves most) old new out all r → AreCalls old new out all
  going_on_is most old new out all r w = stepping.going_on_is WorkedOn none comes (serves most) (all_worked most) old new out all r w

  pub taken_is : (most : ℕ) (old new : ServingValue) (bytes : List ℕ) (out all : List (List ℕ)) (r : Result Got TakeFault) → comes old.port.link bytes → TakesPacket (serves most) old new bytes out all r → AreCalls old new out all
  taken_is most old new bytes out all r h t = stepping.taken_is WorkedOn none comes (serves most) (all_worked most) old new bytes out all r h t
