-- A packet that an end writes is a step of the machine.
use Rattle.std.proofs.Common.{◌≡◌, ℕ, ◌+◌, ◌-◌, ◌≤◌, ◌<◌, arith, refl, sym, ◌∙◌, subst, ap, List, [], ◌∷◌, ◌++◌, length, false, true≢false, IsTrue}
use Rattle.std.specs.Prelude.{Option, Some, None, Result, Ok, Err, IfOk, IfErr, OnOk}
use Rattle.std.proofs.lemmas.List.{length-map, map-append}
use Rattle.nsp_link.specs.Link as link
use Rattle.nsp_link.specs.Link.{Sends, Writes}
use Rattle.nsp_link.specs.Cutting.{cut}
use Rattle.nsp_link.proofs.ForCallers.{may_send_by, may_send_parts}
use Rattle.dap_events.specs.declared.event.End.{End}
use Rattle.dap_events.specs.declared.event.End.TheVariants.{A, B}
use Rattle.dap_events.specs.declared.event.Event.{Event}
use Rattle.dap_events.specs.declared.event.Event.TheVariants as event
use Rattle.dap_events.specs.declared.event.Step.{Step}
use Rattle.dap_events.specs.declared.event.Step.TheVariants as step
use Rattle.dap_events.specs.declared.event.WorldFault.{WorldFault}
use Rattle.dap_events.specs.declared.event.WorldFault.TheVariants as fault
use Rattle.dap_world.specs.Machine.{reports_by_a, State, EndState, Sending, end_of, with_end, wrote, MayEmit, segments_of, Steps, RefusesEvent}
use Rattle.dap_world.specs.Runs.{ComesTo}
use Rattle.dap_world.specs.Inner.Worlds.{IsWorld}
use Rattle.dap_msg.specs.BothEnds.{plain_identity}
use Rattle.dap_msg.specs.declared.message.Configuration.{Configuration}
use Rattle.dap_accessed.specs.declared.setup.ServerSetup.{ServerSetup}
use Rattle.dap_accessed.specs.Setup.{plain_setup}
use Rattle.dap_accessed.specs.Present as accessed
use Rattle.dap_accessing.specs.Present as accessing
use Rattle.dap_end.specs.Ports.{PortValue}
use Rattle.dap_end.specs.Moved.{sent_more}
use Rattle.dap_end.specs.Asking.{HasAsked}
use Rattle.dap_end.specs.Done.{AskingValue}
use Rattle.dap_end.specs.Serving.{IsAfter}
use Rattle.dap_end.specs.Done.{ServingValue}
use Rattle.dap_world.specs.declared.side.Wired.{Wired}
use Rattle.dap_world.specs.Wires.{sending_of}
use Rattle.dap_world.specs.Inner.Sides.{SideValue, port_of, side_of, WroteWired, EmitFault, ResendFault}
use Rattle.dap_world.specs.Inner.Parts.{Parts, AreParts, asked_messages, answers, asking_end, serving_end, end_state, state_of, side, with_side}
use Rattle.dap_msg.specs.Blocked.{NspMessage}
use Rattle.dap_world.proofs.Steps.Counting.{segments-handed, queued}
use Rattle.dap_world.proofs.Headline.Kept.{kept-step}
use Rattle.dap_world.proofs.Steps.Ways.{told_writes, told_sent, wrote_side}
use Rattle.dap_end.specs.Histories.{Still}

-- whatever the end was after, it is after that still
abbrev pub StaysAt : Parts → End → SideValue → Type 0
StaysAt p A s = Still HasAsked (asking_end p) (record { port = port_of s; present = p.accessing })
StaysAt p B s = Still IsAfter (serving_end p) (record { port = port_of s; present = p.accessed })

-- the machine wrote what the end wrote
wrote_is : (s : SideValue) (packets : List NspMessage) (sent : ℕ) (w : Wired) → w.acks ≡ s.link.coming.received → wrote (end_state s packets) sent w.segment ≡ end_state (wrote_side s sent w) packets
wrote_is s packets sent w acks =
    let e = end_state s packets in
    ap (λ (n : ℕ). record e { sent = sent; wire = e.wire ++ record { segment = w.segment; acks = n } ∷ [] }) (sym acks)
    ∙ ap (λ (l : List Sending). record e { sent = sent; wire = l }) (sym (map-append sending_of s.wire (w ∷ [])))

wrote_at : (p : Parts) (end : End) (sent : ℕ) (w : Wired) → w.acks ≡ (side p end).link.coming.received
    → with_end (state_of p) end (wrote (end_of (state_of p) end) sent w.segment) ≡ state_of (with_side p end (wrote_side (side p end) sent w))
wrote_at p A sent w acks = ap (λ (e : EndState). with_end (state_of p) A e) (wrote_is p.a (asked_messages p) sent w acks)
wrote_at p B sent w acks = ap (λ (e : EndState). with_end (state_of p) B e) (wrote_is p.b (answers p) sent w acks)

index_is : (p : Parts) (end : End) → length (end_of (state_of p) end).wire ≡ length (side p end).wire
index_is p A = length-map p.a.wire sending_of
index_is p B = length-map p.b.wire sending_of

-- the parts stay parts
parts_wrote : (p : Parts) (end : End) (sent : ℕ) (w : Wired) → AreParts p → ((messages : List (List ℕ)) → Sends (side p end).link messages → Writes (side p end).link messages w.segment w.acks w.packet.items)
    → StaysAt p end (wrote_side (side p end) sent w)
    → IsWorld (state_of (with_side p end (wrote_side (side p end) sent w))) → AreParts (with_side p end (wrote_side (side p end) sent w))
unfolding reports_by_a
parts_wrote p A sent w h carries still world =
    record {
      world = world;
      plain_a = h.plain_a;
      plain_b = h.plain_b;
      alike = h.alike;
      limit = h.limit;
      most = h.most;
      from_a = told_writes (asked_messages p) p.served p.a p.b h.from_a sent w (carries h.from_a.handed h.from_a.way.sends);
      from_b = told_sent (answers p) p.read p.b p.a h.from_b sent w;
      sent_is = h.sent_is;
      reports_is = h.reports_is;
      asking = (h.asking.0, still _ h.asking.1);
      serving = h.serving;
    }
parts_wrote p B sent w h carries still world =
    record {
      world = world;
      plain_a = h.plain_a;
      plain_b = h.plain_b;
      alike = h.alike;
      limit = h.limit;
      most = h.most;
      from_a = told_sent (asked_messages p) p.served p.a p.b h.from_a sent w;
      from_b = told_writes (answers p) p.read p.b p.a h.from_b sent w (carries h.from_b.handed h.from_b.way.sends);
      sent_is = h.sent_is;
      reports_is = h.reports_is;
      asking = h.asking;
      serving = (h.serving.0, still _ h.serving.1);
    }

-- what an event makes of parts whose one side moved
abbrev pub AreAfter : Parts → End → Event → SideValue → Result Step WorldFault → Type 0
AreAfter p end e s answer = AreParts (with_side p end s) × ComesTo (state_of p) e answer (state_of (with_side p end s))

-- an end is this now, and sent this
abbrev pub asking_parts : Parts → AskingValue → (posted : ℕ) → List Wired → Parts
asking_parts p v posted wire = record p { a = side_of v.port posted wire; accessing = v.present }

-- a plain client with the BUFSIZ of that of the parts, and such a server
abbrev pub as_client : Parts → accessing.ClientState → accessing.ClientState
as_client p v = record v { own = p.accessing.own; identity = plain_identity p.accessing.own }

abbrev pub as_server : Parts → accessed.Present → accessed.Present
as_server p v = record v { own = p.accessed.own; setup = plain_setup p.accessed.own }

abbrev pub serving_parts : Parts → ServingValue → (posted : ℕ) → List Wired → Parts
serving_parts p v posted wire = record p { b = side_of v.port posted wire; accessed = v.present }

-- what a client keeps that is the plain one still
pub client_is : (p : Parts) (v : AskingValue) → AreParts p → v.present.own ≡ p.accessing.own → v.present.identity ≡ p.accessing.identity → v.present ≡ as_client p v.present
client_is p v h own identity =
    ap (λ (k : ℕ). record v.present { own = k }) own ∙ ap (λ (k : Configuration). record v.present { own = p.accessing.own; identity = k }) (identity ∙ h.plain_a)

pub server_is : (p : Parts) (v : ServingValue) → AreParts p → v.present.own ≡ p.accessed.own → v.present.setup ≡ p.accessed.setup → v.present ≡ as_server p v.present
server_is p v h own setup =
    ap (λ (k : ℕ). record v.present { own = k }) own ∙ ap (λ (k : ServerSetup). record v.present { own = p.accessed.own; setup = k }) (setup ∙ h.plain_b)

-- what an event makes of parts
abbrev pub AreThen : Parts → Event → Parts → Result Step WorldFault → Type 0
AreThen p e q answer = AreParts q × ComesTo (state_of p) e answer (state_of q)

-- only the port of an end moved, and its wire
pub at_a : (p : Parts) (e : Event) (v : AskingValue) (wire : List Wired) (r : Result Step WorldFault) → v ≡ record (asking_end p) { port = v.port } → Still HasAsked (asking_end p) v
    → (StaysAt p A (side_of v.port p.a.posted wire) → AreAfter p A e (side_of v.port p.a.posted wire) r) → AreThen p e (asking_parts p v p.a.posted wire) r
unfolding Steps RefusesEvent
at_a p e v wire r rest still after =
    subst (λ (x : accessing.ClientState). AreThen p e (record p { a = side_of v.port p.a.posted wire; accessing = x }) r) (sym (ap (λ (x : AskingValue). x.present) rest))
    (after (subst (λ (x : AskingValue). Still HasAsked (asking_end p) x) rest still))

pub at_b : (p : Parts) (e : Event) (v : ServingValue) (wire : List Wired) (r : Result Step WorldFault) → v ≡ record (serving_end p) { port = v.port } → Still IsAfter (serving_end p) v
    → (StaysAt p B (side_of v.port p.b.posted wire) → AreAfter p B e (side_of v.port p.b.posted wire) r) → AreThen p e (serving_parts p v p.b.posted wire) r
unfolding Steps RefusesEvent
at_b p e v wire r rest still after =
    subst (λ (x : accessed.Present). AreThen p e (record p { b = side_of v.port p.b.posted wire; accessed = x }) r) (sym (ap (λ (x : ServingValue). x.present) rest))
    (after (subst (λ (x : ServingValue). Still IsAfter (serving_end p) x) rest still))

same_side : (p : Parts) (end : End) → with_side p end (side p end) ≡ p
same_side p A = refl
same_side p B = refl

-- nothing moved
pub none_more : (p : Parts) (end : End) (e : Event) (s : SideValue) (f : WorldFault) → AreParts p → s ≡ side p end → ComesTo (state_of p) e (Err f) (state_of p) → AreAfter p end e s (Err f)
unfolding Steps RefusesEvent
none_more p end e s f h same went =
    subst (λ (x : SideValue). AreAfter p end e x (Err f)) (sym same)
    (subst (λ (q : Parts). AreParts q × ComesTo (state_of p) e (Err f) (state_of q)) (sym (same_side p end)) (h, went))

-- the end wrote a packet where the machine does
one_more : (p : Parts) (end : End) (e : Event) (sent : ℕ) (k : Option ℕ) (s : SideValue) (answer : Step) → AreParts p
    → s ≡ record (side p end) { link = record (side p end).link { sent = sent }; wire = s.wire } → WroteWired (side p end).link (side p end).wire s.wire k answer → StaysAt p end s
    → Steps (state_of p) e (step.Packet (length (end_of (state_of p) end).wire)) (with_end (state_of p) end (wrote (end_of (state_of p) end) sent k)) → AreAfter p end e s (Ok answer)
unfolding Steps RefusesEvent
one_more p end e sent k s answer h is w still steps =
    let new = wrote_side (side p end) sent w.wired in
    let same : s ≡ new = is ∙ ap (λ (l : List Wired). record (side p end) { link = record (side p end).link { sent = sent }; wire = l }) w.wire in
    let is_now : Option ℕ → State = λ k. with_end (state_of p) end (wrote (end_of (state_of p) end) sent k) in
    let wrote_so : is_now k ≡ state_of (with_side p end new) = ap is_now (sym w.segment) ∙ wrote_at p end sent w.wired w.acks in
    let went : Steps (state_of p) e answer (state_of (with_side p end new)) =
    subst (λ (x : State). Steps (state_of p) e answer x) wrote_so
    (subst (λ (x : Step). Steps (state_of p) e x (is_now k)) (ap (λ (n : ℕ). step.Packet n) (index_is p end) ∙ sym w.index) steps) in
    let carries : (messages : List (List ℕ)) → Sends (side p end).link messages → Writes (side p end).link messages w.wired.segment w.wired.acks w.wired.packet.items =
    λ messages sends. subst (λ (k : Option ℕ). Writes (side p end).link messages k w.wired.acks w.wired.packet.items) (sym w.segment)
    (subst (λ (n : ℕ). Writes (side p end).link messages k n w.wired.packet.items) (sym w.acks) (w.writes messages sends)) in
    subst (λ (x : SideValue). AreAfter p end e x (Ok answer)) (sym same)
    (parts_wrote p end sent w.wired h carries (subst (λ (x : SideValue). StaysAt p end x) same still) (kept-step (state_of p) (state_of (with_side p end new)) e answer went h.world), went)

-- the wire alone moved
still_there : (p : Parts) (end : End) (wire : List Wired) → StaysAt p end (record (side p end) { wire = wire })
still_there p A wire = λ past has. has
still_there p B wire = λ past is. is

same_wire : (p : Parts) (end : End) (wire : List Wired) → wire ≡ (side p end).wire → record (side p end) { wire = wire } ≡ side p end
same_wire p end wire same = ap (λ (l : List Wired). record (side p end) { wire = l }) same

-- ---- Emit.

-- the segments that the machine counts for an end
segments_there : (p : Parts) (end : End) → AreParts p → segments_of (state_of p).seg_size (end_of (state_of p) end).handed ≡ (side p end).link.acked + length (side p end).link.queue
segments_there p A h = segments-handed p.a.link.setup.seg_size p.a.posted h.from_a.handed p.a.outbox (asked_messages p) h.from_a.posted h.from_a.bytes ∙ sym (queued p.a.link h.from_a.handed h.from_a.way.sends)
segments_there p B h =
    segments-handed p.a.link.setup.seg_size p.b.posted h.from_b.handed p.b.outbox (answers p) h.from_b.posted h.from_b.bytes
    ∙ ap (λ n. length (cut n h.from_b.handed)) (sym h.alike.size)
    ∙ sym (queued p.b.link h.from_b.handed h.from_b.way.sends)

pub can : (p : Parts) (end : End) → AreParts p → IsTrue (link.may_send (side p end).link) → MayEmit (state_of p) end
can p A h m =
    let there = segments_there p A h in
    let may = may_send_parts p.a.link m in
    (omega (arith, there, may.0), omega (arith, may.1, h.world.from_a.counts.acked_taken, h.world.from_a.counts.taken_sent))
can p B h m =
    let there = segments_there p B h in
    let may = may_send_parts p.b.link m in
    (omega (arith, there, may.0), omega (arith, may.1, h.alike.window, h.world.from_b.counts.acked_taken, h.world.from_b.counts.taken_sent))

denied_by : (v : link.LinkValue) → link.may_send v ≡ false → v.sent < v.acked + length v.queue → v.sent < v.acked + v.setup.window → ⊥
denied_by v denied waits room = true≢false (sym (may_send_by v waits room) ∙ denied)

pub cannot : (p : Parts) (end : End) → AreParts p → (link.may_send (side p end).link ≡ false) → MayEmit (state_of p) end → ⊥
cannot p A h denied m =
    let there = segments_there p A h in
    denied_by p.a.link denied (omega (arith, there, m.0)) (omega (arith, m.1, h.world.from_a.counts.acked_taken, h.world.from_a.counts.taken_sent))
cannot p B h denied m =
    let there = segments_there p B h in
    denied_by p.b.link denied (omega (arith, there, m.0)) (omega (arith, m.1, h.alike.window, h.world.from_b.counts.acked_taken, h.world.from_b.counts.taken_sent))

same_sent : (p : Parts) (end : End) → (end_of (state_of p) end).sent ≡ (side p end).link.sent
same_sent p A = refl
same_sent p B = refl

emits : (p : Parts) (end : End) → MayEmit (state_of p) end
    → Steps (state_of p) (event.Emit end) (step.Packet (length (end_of (state_of p) end).wire)) (with_end (state_of p) end (wrote (end_of (state_of p) end) ((side p end).link.sent + 1) (Some ((side p end).link.sent + 1))))
unfolding Steps
emits p A m = (m, refl, refl)
emits p B m = (m, refl, refl)

emitted : (p : Parts) (end : End) (s : SideValue) (r : Result Step WorldFault) → AreParts p
    → OnOk r (s ≡ record (side p end) { link = record (side p end).link { sent = (side p end).link.sent + 1 }; wire = s.wire })
    → IfOk r (λ answer. IsTrue (link.may_send (side p end).link) × WroteWired (side p end).link (side p end).wire s.wire (Some ((side p end).link.sent + 1)) answer)
    → IfErr r (λ f. (s ≡ side p end) × EmitFault (side p end).link f) → StaysAt p end s → AreAfter p end (event.Emit end) s r
unfolding Steps RefusesEvent
emitted p end s (Ok answer) h is ok err still = one_more p end (event.Emit end) _ _ s answer h is ok.1 still (emits p end (can p end h ok.0))
emitted p end s (Err fault.NothingToDo) h is ok err still = none_more p end (event.Emit end) s fault.NothingToDo h err.0 (cannot p end h err.1, refl)
emitted p end s (Err fault.NoMemory) h is ok err still = none_more p end (event.Emit end) s fault.NoMemory h err.0 ((_, _, emits p end (can p end h err.1), tt), refl)
emitted p end s (Err fault.NoSuchPacket) h is ok err still = absurd err.1
emitted p end s (Err fault.Stale) h is ok err still = absurd err.1
emitted p end s (Err (fault.Ask f)) h is ok err still = absurd err.1
emitted p end s (Err fault.Exhausted) h is ok err still = absurd err.1
emitted p end s (Err fault.BadSetup) h is ok err still = absurd err.1

-- the side, by its port and its wire
sent_side : (s : SideValue) (port : PortValue) (wire : List Wired) (r : Result Step WorldFault) → OnOk r (port ≡ sent_more (port_of s) 1)
    → OnOk r (side_of port s.posted wire ≡ record s { link = record s.link { sent = s.link.sent + 1 }; wire = wire })
sent_side s port wire (Ok answer) is = ap (λ (x : PortValue). side_of x s.posted wire) is
sent_side s port wire (Err f) is = tt

unsent_side : (s : SideValue) (port : PortValue) (wire : List Wired) (r : Result Step WorldFault) → IfErr r (λ f. (port ≡ port_of s) × (wire ≡ s.wire) × EmitFault s.link f)
    → IfErr r (λ f. (side_of port s.posted wire ≡ s) × EmitFault s.link f)
unsent_side s port wire (Ok answer) err = tt
unsent_side s port wire (Err f) err =
    (ap (λ (x : PortValue). side_of x s.posted wire) err.0 ∙ ap (λ (l : List Wired). record s { wire = l }) err.1, err.2)

pub emitted_a : (p : Parts) (v : AskingValue) (wire : List Wired) (r : Result Step WorldFault) → AreParts p → v ≡ record (asking_end p) { port = v.port }
    → IfOk r (λ answer. IsTrue (link.may_send p.a.link) × WroteWired p.a.link p.a.wire wire (Some (p.a.link.sent + 1)) answer) → OnOk r (v.port ≡ sent_more (port_of p.a) 1)
    → IfErr r (λ f. (v.port ≡ port_of p.a) × (wire ≡ p.a.wire) × EmitFault p.a.link f) → Still HasAsked (asking_end p) v → AreThen p (event.Emit A) (asking_parts p v p.a.posted wire) r
emitted_a p v wire r h rest ok sent err still =
    at_a p (event.Emit A) v wire r rest still (emitted p A (side_of v.port p.a.posted wire) r h (sent_side p.a v.port wire r sent) ok (unsent_side p.a v.port wire r err))

pub emitted_b : (p : Parts) (v : ServingValue) (wire : List Wired) (r : Result Step WorldFault) → AreParts p → v ≡ record (serving_end p) { port = v.port }
    → IfOk r (λ answer. IsTrue (link.may_send p.b.link) × WroteWired p.b.link p.b.wire wire (Some (p.b.link.sent + 1)) answer) → OnOk r (v.port ≡ sent_more (port_of p.b) 1)
    → IfErr r (λ f. (v.port ≡ port_of p.b) × (wire ≡ p.b.wire) × EmitFault p.b.link f) → Still IsAfter (serving_end p) v → AreThen p (event.Emit B) (serving_parts p v p.b.posted wire) r
emitted_b p v wire r h rest ok sent err still =
    at_b p (event.Emit B) v wire r rest still (emitted p B (side_of v.port p.b.posted wire) r h (sent_side p.b v.port wire r sent) ok (unsent_side p.b v.port wire r err))

-- ---- Resend.

resends : (p : Parts) (end : End) (i : ℕ) → i < (side p end).link.sent - (side p end).link.acked
    → Steps (state_of p) (event.Resend end i) (step.Packet (length (end_of (state_of p) end).wire)) (with_end (state_of p) end (wrote (end_of (state_of p) end) (side p end).link.sent (Some ((side p end).link.acked + 1 + i))))
unfolding Steps
resends p A i lt = (lt, refl, refl)
resends p B i lt = (lt, refl, refl)

resends_not : (p : Parts) (end : End) (i : ℕ) → (side p end).link.sent - (side p end).link.acked ≤ i → RefusesEvent (state_of p) (event.Resend end i) fault.NothingToDo
unfolding RefusesEvent
resends_not p A i le = le
resends_not p B i le = le

pub resent : (p : Parts) (end : End) (i : ℕ) (wire : List Wired) (r : Result Step WorldFault) → AreParts p
    → IfOk r (λ answer. (i < (side p end).link.sent - (side p end).link.acked) × WroteWired (side p end).link (side p end).wire wire (Some ((side p end).link.acked + 1 + i)) answer)
    → IfErr r (λ f. (wire ≡ (side p end).wire) × ResendFault (side p end).link i f) → AreAfter p end (event.Resend end i) (record (side p end) { wire = wire }) r
unfolding Steps RefusesEvent
resent p end i wire (Ok answer) h ok err = one_more p end (event.Resend end i) (side p end).link.sent _ _ answer h refl ok.1 (still_there p end wire) (resends p end i ok.0)
resent p end i wire (Err fault.NothingToDo) h ok err = none_more p end (event.Resend end i) _ fault.NothingToDo h (same_wire p end wire err.0) (resends_not p end i err.1, refl)
resent p end i wire (Err fault.NoMemory) h ok err = none_more p end (event.Resend end i) _ fault.NoMemory h (same_wire p end wire err.0) ((_, _, resends p end i err.1, tt), refl)
resent p end i wire (Err fault.NoSuchPacket) h ok err = absurd err.1
resent p end i wire (Err fault.Stale) h ok err = absurd err.1
resent p end i wire (Err (fault.Ask f)) h ok err = absurd err.1
resent p end i wire (Err fault.Exhausted) h ok err = absurd err.1
resent p end i wire (Err fault.BadSetup) h ok err = absurd err.1

-- ---- Ack.

acks : (p : Parts) (end : End) → Steps (state_of p) (event.Ack end) (step.Packet (length (end_of (state_of p) end).wire)) (with_end (state_of p) end (wrote (end_of (state_of p) end) (side p end).link.sent None))
unfolding Steps
acks p A = (refl, refl)
acks p B = (refl, refl)

pub acked : (p : Parts) (end : End) (wire : List Wired) (r : Result Step WorldFault) → AreParts p
    → IfOk r (λ answer. WroteWired (side p end).link (side p end).wire wire None answer) → IfErr r (λ f. (wire ≡ (side p end).wire) × (f ≡ fault.NoMemory))
    → AreAfter p end (event.Ack end) (record (side p end) { wire = wire }) r
unfolding Steps RefusesEvent
acked p end wire (Ok answer) h ok err = one_more p end (event.Ack end) (side p end).link.sent None _ answer h refl ok (still_there p end wire) (acks p end)
acked p end wire (Err f) h ok err =
    subst (λ (g : WorldFault). AreAfter p end (event.Ack end) (record (side p end) { wire = wire }) (Err g)) (sym err.1)
    (none_more p end (event.Ack end) _ fault.NoMemory h (same_wire p end wire err.0) ((_, _, acks p end, tt), refl))

pub is_running : (p : Parts) (end : End) → AreParts p → (side p end).link.failed ≡ false
is_running p A h = h.from_a.way.running
is_running p B h = h.from_b.way.running
