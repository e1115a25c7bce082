-- Handing over all that waits is a step of the machine.
use Rattle.std.proofs.Common.{◌≡◌, ℕ, ◌+◌, ◌≤◌, ◌<◌, arith, refl, sym, ◌∙◌, subst, ap, List, [], ◌∷◌, ◌++◌, length, take, drop, map, inl, inr}
use Rattle.std.specs.Prelude.{Result, Ok, Err, IfOk, IfErr, OnOk, OnErr}
use Rattle.std.specs.List.{AllByRecursion}
use Rattle.std.proofs.lemmas.List.{length-append, map-append, take-append-drop, take_all, drop_all, take-take, length-drop, drop-map, append-nil, append_assoc}
use Rattle.std.proofs.lemmas.List.Elements.{All-append}
use Rattle.std.proofs.Math.Seq.{drop-append_seam}
use Rattle.dap_msg.specs.declared.message.Message.{Message}
use Rattle.dap_msg.specs.declared.items.Item.TheVariants.{Whole}
use Rattle.dap_msg.specs.Canon.{canon}
use Rattle.dap_msg.specs.Blocked.{NspMessage, blocked_bytes, all_joined, messages_in, AllFit}
use Rattle.dap_world.specs.Plain.{Answers}
use Rattle.dap_accessing.specs.Told.{Told}
use Rattle.nsp_link.specs.Cutting.{Piece, cut}
use Rattle.nsp_link.specs.Limits.{max_segments}
use Rattle.nsp_link.specs.Link.{LinkValue, Sends, Writes}
use Rattle.nsp_link.specs.Sending.{queued_link}
use Rattle.nsp_link.proofs.ForCallers.{writes_more, stands_more, sends_all, may_queue_parts}
use Rattle.dap_end.specs.Moved.{with_outbox_sent as port_posted}
use Rattle.dap_end.proofs.ForCallers.{handed_is, handed_history, posted_is as hands_over, posted_history, back_fit, in_append}
use Rattle.dap_end.specs.Asking.{HasAsked}
use Rattle.dap_end.specs.Ports.{HandsOver as HandedOver}
use Rattle.dap_end.specs.Done.{AskingValue, ClientHistory}
use Rattle.dap_end.specs.Serving.{IsAfter}
use Rattle.dap_end.specs.Done.{ServingValue, ServerHistory}
use Rattle.dap_events.specs.declared.event.End.{End}
use Rattle.dap_events.specs.declared.event.End.TheVariants.{A, B}
use Rattle.dap_events.specs.declared.event.Event.TheVariants as event
use Rattle.dap_events.specs.declared.event.Step.{Step}
use Rattle.dap_events.specs.declared.event.Step.TheVariants as step
use Rattle.dap_events.specs.declared.event.WorldFault.{WorldFault}
use Rattle.dap_events.specs.declared.event.WorldFault.TheVariants as fault
use Rattle.dap_world.specs.Machine.{reports_by_a, EndState, end_of, with_end, end_after_post, segments_of, Steps, RefusesEvent}
use Rattle.dap_world.specs.Runs.{ComesTo}
use Rattle.dap_world.specs.Inner.Worlds.{IsWorld}
use Rattle.dap_world.specs.declared.side.Wired.{Wired}
use Rattle.dap_world.specs.Inner.Sides.{SideValue, AreWithinLimit, PostFault, PostedSo, port_of, side_of}
use Rattle.dap_world.specs.Inner.Ways.{IsWay}
use Rattle.dap_world.specs.Inner.Parts.{Parts, AreParts, IsCarried, IsAmong, IsAskedAll, IsServedAll, asked_messages, answers, asking_end, serving_end, end_state, state_of, side}
use Rattle.dap_world.proofs.Steps.Counting.{segments_queued, segments-cut, all_segments, counted}
use Rattle.dap_world.specs.Inner.Splitting.{SplitsAll, SentAll}
use Rattle.dap_world.proofs.Steps.Packets.{served-stays}
use Rattle.dap_world.proofs.Headline.Blocks.{asked-full, full-drop}
use Rattle.dap_world.proofs.Headline.Kept.{kept-step}
use Rattle.dap_world.proofs.Steps.Ways.{still_way, told_with}
use Rattle.dap_world.proofs.Steps.Wrote.{AreThen, asking_parts, serving_parts}

-- ---- The ways.

more_writes : (v : LinkValue) (pieces : List Piece) (messages more : List (List ℕ)) (wire : List Wired)
    → AllByRecursion (λ w. Writes v messages w.segment w.acks w.packet.items) wire → AllByRecursion (λ w. Writes (queued_link v pieces) (messages ++ more) w.segment w.acks w.packet.items) wire
more_writes v pieces messages more [] h = tt
more_writes v pieces messages more (w ∷ wire) h =
    (writes_more v messages more w.segment w.acks w.packet.items h.0, more_writes v pieces messages more wire h.1)

abbrev pub new_side : SideValue → SideValue
new_side s = side_of (port_posted (port_of s)) (s.posted + length s.outbox) s.wire

way_posted : (s : SideValue) (to : LinkValue) (handed given : List (List ℕ)) → IsWay s to handed given → AreWithinLimit to.setup.max_message s.outbox → segments_queued s ≤ max_segments
    → IsWay (new_side s) to (handed ++ s.outbox) given
way_posted s to handed given way short room =
    record {
      size = way.size;
      running = way.running;
      listening = way.listening;
      there = way.there;
      back = way.back;
      sends = sends_all s.link handed s.outbox way.sends;
      stands = stands_more to s.link.setup.seg_size handed s.outbox given way.stands;
      short = All-append (λ m. length m ≤ to.setup.max_message) handed s.outbox way.short short;
      few = omega (arith, all_segments s handed way.sends, room);
      wire = more_writes s.link (cut s.link.setup.seg_size s.outbox) handed s.outbox s.wire way.wire;
    }

-- ---- The state.

posted_is : (s : SideValue) (packets : List NspMessage) → s.posted + length s.outbox ≡ length packets → end_after_post (end_state s packets) ≡ end_state (new_side s) packets
posted_is s packets n =
    let e = end_state s packets in
    ap (λ (l : List NspMessage). record e { waiting = []; handed = l }) (take-append-drop s.posted packets ∙ sym (take_all (s.posted + length s.outbox) packets (omega arith)))
    ∙ ap (λ (l : List NspMessage). record e { waiting = l; handed = take (s.posted + length s.outbox) packets }) (sym (drop_all (s.posted + length s.outbox) packets (omega arith)))

pub waits : (from to : SideValue) (packets : List NspMessage) (count : ℕ) → IsCarried from to packets count → length (drop from.posted packets) ≡ length from.outbox
waits from to packets count h =
    let n = counted from.posted h.handed from.outbox packets h.posted h.bytes in omega (arith, length-drop from.posted packets)

-- the bytes of what waits
pub waits-bytes : (from to : SideValue) (packets : List NspMessage) (count : ℕ) → IsCarried from to packets count → from.outbox ≡ all_joined (drop from.posted packets)
waits-bytes from to packets count h =
    sym (drop-append_seam h.handed from.outbox) ∙ ap (drop (length h.handed)) h.bytes ∙ drop-map blocked_bytes (length h.handed) packets ∙ ap (λ (n : ℕ). all_joined (drop n packets)) (sym h.posted)

segments_all : (size : ℕ) (s : SideValue) (handed : List (List ℕ)) (packets : List NspMessage) → size ≡ s.link.setup.seg_size → handed ++ s.outbox ≡ all_joined packets → Sends s.link handed
    → segments_of size (take s.posted packets ++ drop s.posted packets) ≡ segments_queued s
segments_all size s handed packets same e sends =
    ap (segments_of size) (take-append-drop s.posted packets) ∙ segments-cut size packets ∙ ap (λ (l : List (List ℕ)). length (cut size l)) (sym e)
    ∙ ap (λ n. length (cut n (handed ++ s.outbox))) same ∙ all_segments s handed sends

segments_are : (p : Parts) (end : End) → AreParts p → segments_of (state_of p).seg_size (end_after_post (end_of (state_of p) end)).handed ≡ segments_queued (side p end)
segments_are p A h = segments_all p.a.link.setup.seg_size p.a h.from_a.handed (asked_messages p) refl h.from_a.bytes h.from_a.way.sends
segments_are p B h = segments_all p.a.link.setup.seg_size p.b h.from_b.handed (answers p) (sym h.alike.size) h.from_b.bytes h.from_b.way.sends

waiting_is : (p : Parts) (end : End) → AreParts p → length (end_of (state_of p) end).waiting ≡ length (side p end).outbox
waiting_is p A h = waits p.a p.b (asked_messages p) p.served h.from_a
waiting_is p B h = waits p.b p.a (answers p) p.read h.from_b

pub no_length : {X : Type 0} (xs : List X) → length xs ≡ 0 → xs ≡ []
no_length [] e = refl
no_length (x ∷ xs) e = let no : ⊥ = omega arith in absurd no

-- ---- The parts.

abbrev pub posted_parts : Parts → End → List (List ℕ) → Parts
posted_parts p A more = record p { a = new_side p.a; sent = p.sent ++ more }
posted_parts p B more = record p { b = new_side p.b }

-- what is added to the messages sent
abbrev pub SentMore : Parts → End → List (List ℕ) → Type 0
SentMore p A more = SplitsAll p.a.outbox [] more
SentMore p B more = Unit {0}

state_posted : (p : Parts) (end : End) (more : List (List ℕ)) → AreParts p → with_end (state_of p) end (end_after_post (end_of (state_of p) end)) ≡ state_of (posted_parts p end more)
state_posted p A more h = ap (λ (e : EndState). with_end (state_of p) A e) (posted_is p.a (asked_messages p) (counted p.a.posted h.from_a.handed p.a.outbox (asked_messages p) h.from_a.posted h.from_a.bytes))
state_posted p B more h = ap (λ (e : EndState). with_end (state_of p) B e) (posted_is p.b (answers p) (counted p.b.posted h.from_b.handed p.b.outbox (answers p) h.from_b.posted h.from_b.bytes))

posts : (p : Parts) (end : End) (more : List (List ℕ)) → AreParts p → 0 < length (side p end).outbox → segments_queued (side p end) ≤ max_segments
    → Steps (state_of p) (event.Post end) (step.Posted (length (side p end).outbox)) (state_of (posted_parts p end more))
unfolding Steps
posts p end more h some room =
    let n = waiting_is p end h in
    let all = segments_are p end h in
    (omega arith, omega arith, ap (λ (k : ℕ). step.Posted k) (sym n), sym (state_posted p end more h))

-- messages that were handled among the first NSP messages, when more are passed on
among_more : (n m : ℕ) (packets : List NspMessage) (count offset : ℕ) (gone : List NspMessage) → n ≤ m → IsAmong (take n packets) count offset gone → IsAmong (take m packets) count offset gone
among_more n m packets count offset gone le h =
    let split : take m packets ≡ gone ++ (h.rest ++ drop n (take m packets)) =
    sym (take-append-drop n (take m packets)) ∙ ap (λ (l : List NspMessage). l ++ drop n (take m packets)) (shorter n m packets le ∙ h.split) ∙ append_assoc gone h.rest (drop n (take m packets)) in
    record {
      begun = h.begun;
      rest = h.rest ++ drop n (take m packets);
      split = split;
      handled = h.handled;
      offset_is = h.offset_is;
      stays = elim h.stays [
        | inl none ↦ inl none
        | inr some ↦ inr (some.0, some.1, some.2 ++ drop n (take m packets), ap (λ (l : List NspMessage). l ++ drop n (take m packets)) some.3)
      ];
    }
  where
    shorter : (n m : ℕ) (packets : List NspMessage) → n ≤ m → take n (take m packets) ≡ take n packets
    shorter n m packets le = take-take n m packets le

told_posted : (packets : List NspMessage) (count : ℕ) (from to : SideValue) → IsCarried from to packets count → AreWithinLimit to.link.setup.max_message from.outbox → segments_queued from ≤ max_segments
    → IsCarried (new_side from) to packets count
told_posted packets count from to h short room =
    record {
      handed = h.handed ++ from.outbox;
      posted = omega (arith, h.posted, length-append h.handed from.outbox);
      gone = h.gone;
      among = among_more from.posted (from.posted + length from.outbox) packets count to.offset h.gone (omega arith) h.among;
      way = way_posted from to.link h.handed (all_joined h.gone) h.way short room;
      bytes = append-nil (h.handed ++ from.outbox) ∙ h.bytes;
      fit = h.fit;
      short = λ k d lt. absurd (omega arith);
    }

told_queued : (packets : List NspMessage) (count : ℕ) (from to : SideValue) → IsCarried from to packets count → IsCarried from (new_side to) packets count
told_queued packets count from to h = told_with h (still_way from to.link (queued_link to.link (cut to.link.setup.seg_size to.outbox)) h.handed _ refl h.way)

-- what B served is a front of what A passed on, before and after
served_same : (p : Parts) → AreParts p
    → take p.served (messages_in (take (p.a.posted + length p.a.outbox) (asked_messages p))) ≡ take p.served (messages_in (take p.a.posted (asked_messages p)))
served_same p h =
    let n = counted p.a.posted h.from_a.handed p.a.outbox (asked_messages p) h.from_a.posted h.from_a.bytes in
    ap (λ (l : List NspMessage). take p.served (messages_in l)) (take_all (p.a.posted + length p.a.outbox) (asked_messages p) (omega arith) ∙ sym (take-append-drop p.a.posted (asked_messages p)))
    ∙ served-stays p.served p.a.link.setup.seg_size p.b.link.coming.received (take p.a.posted (asked_messages p)) (drop p.a.posted (asked_messages p)) h.world.served

sent_more : (p : Parts) (more : List (List ℕ)) → AreParts p → SplitsAll p.a.outbox [] more → p.sent ++ more ≡ map canon (messages_in (take (p.a.posted + length p.a.outbox) (asked_messages p)))
sent_more p more h splits =
    let n = counted p.a.posted h.from_a.handed p.a.outbox (asked_messages p) h.from_a.posted h.from_a.bytes in
    let front = take p.a.posted (asked_messages p) in
    let back = drop p.a.posted (asked_messages p) in
    let all : messages_in (asked_messages p) ≡ messages_in front ++ messages_in back = ap messages_in (sym (take-append-drop p.a.posted (asked_messages p))) ∙ in_append front back in
    let full = full-drop p.a.posted (asked_messages p) (asked-full p.accessing.own p.accessed.own p.requests) in
    let fit = back_fit (messages_in front) (messages_in back) (subst AllFit all h.from_a.fit) in
    let is : more ≡ map canon (messages_in back) = splits back full fit (waits-bytes p.a p.b (asked_messages p) p.served h.from_a) in
    ap (λ (l : List (List ℕ)). l ++ more) h.sent_is ∙ ap (λ (l : List (List ℕ)). map canon (messages_in front) ++ l) is
    ∙ sym (map-append canon (messages_in front) (messages_in back)) ∙ ap (map canon) (sym all)
    ∙ ap (λ (l : List NspMessage). map canon (messages_in l)) (sym (take_all (p.a.posted + length p.a.outbox) (asked_messages p) (omega arith)))

-- whatever the end was after, it passed on what waited too
abbrev pub HandsOver : Parts → End → Type 0
HandsOver p A = (past : ClientHistory) → HasAsked past (asking_end p) → HasAsked (record past { handed = past.handed ++ p.a.outbox }) (record { port = port_posted (port_of p.a); present = p.accessing })
HandsOver p B = (past : ServerHistory) → IsAfter past (serving_end p) → IsAfter (record past { handed = past.handed ++ p.b.outbox }) (record { port = port_posted (port_of p.b); present = p.accessed })

parts_posted : (p : Parts) (end : End) (more : List (List ℕ)) → AreParts p → segments_queued (side p end) ≤ max_segments → SentMore p end more → HandsOver p end → IsWorld (state_of (posted_parts p end more)) → AreParts (posted_parts p end more)
unfolding reports_by_a
parts_posted p A more h room splits goes world =
    let short = subst (λ (n : ℕ). AreWithinLimit n p.a.outbox) (sym h.alike.limit) h.from_a.short in
    let same = served_same p h in
    record {
      world = world;
      plain_a = h.plain_a;
      plain_b = h.plain_b;
      alike = h.alike;
      limit = h.limit;
      most = h.most;
      from_a = told_posted (asked_messages p) p.served p.a p.b h.from_a short room;
      from_b = told_queued (answers p) p.read p.b p.a h.from_b;
      sent_is = sent_more p more h splits;
      reports_is = h.reports_is ∙ ap (λ (l : List Message). Told p.requests (map Whole (take p.read (Answers p.accessed.own [] (map Whole l))))) (sym same);
      asking = subst (λ (l : List Message). IsAskedAll (asking_end (posted_parts p A more)) p.requests (map Whole (take p.read (Answers p.accessed.own [] (map Whole l))))) (sym same)
          (record h.asking.0 { handed = h.asking.0.handed ++ p.a.outbox }, goes _ h.asking.1);
      serving = subst (λ (l : List Message). IsServedAll (serving_end p) (map Whole l)) (sym same) h.serving;
    }
parts_posted p B more h room splits goes world =
    let short = subst (λ (n : ℕ). AreWithinLimit n p.b.outbox) h.alike.limit h.from_b.short in
    record {
      world = world;
      plain_a = h.plain_a;
      plain_b = h.plain_b;
      alike = h.alike;
      limit = h.limit;
      most = h.most;
      from_a = told_queued (asked_messages p) p.served p.a p.b h.from_a;
      from_b = told_posted (answers p) p.read p.b p.a h.from_b short room;
      sent_is = h.sent_is;
      reports_is = h.reports_is;
      asking = h.asking;
      serving = (record h.serving.0 { handed = h.serving.0.handed ++ p.b.outbox }, goes _ h.serving.1);
    }

posted_step : (p : Parts) (end : End) (more : List (List ℕ)) → AreParts p → 0 < length (side p end).outbox → segments_queued (side p end) ≤ max_segments → SentMore p end more → HandsOver p end
    → AreThen p (event.Post end) (posted_parts p end more) (Ok (step.Posted (length (side p end).outbox)))
unfolding Steps
posted_step p end more h some room splits goes =
    let steps = posts p end more h some room in (
      parts_posted p end more h room splits goes (kept-step (state_of p) (state_of (posted_parts p end more)) (event.Post end) (step.Posted (length (side p end).outbox)) steps h.world),
      steps,
    )

-- nothing was passed on
pub post_refused : (p : Parts) (end : End) (f : WorldFault) → AreParts p → PostFault (side p end).link (side p end).outbox f → ComesTo (state_of p) (event.Post end) (Err f) (state_of p)
unfolding Steps RefusesEvent
post_refused p end fault.NothingToDo h none = (no_length (end_of (state_of p) end).waiting (waiting_is p end h ∙ ap length none), refl)
post_refused p end fault.Exhausted h many = let n = waiting_is p end h in let all = segments_are p end h in ((omega (arith, many.0), omega (arith, many.1)), refl)
post_refused p end fault.NoMemory h may = ((_, _, posts p end [] h may.0 may.1, tt), refl)
post_refused p end fault.NoSuchPacket h none = absurd none
post_refused p end fault.Stale h none = absurd none
post_refused p end (fault.Ask f) h none = absurd none
post_refused p end fault.BadSetup h none = absurd none

pub post_a : (p : Parts) (v : AskingValue) (posted : ℕ) (sent : List (List ℕ)) (r : Result Step WorldFault) → AreParts p
    → IfOk r (λ answer. PostedSo p.a.outbox p.a.posted posted answer) → OnOk r (HandedOver (asking_end p) v (length p.a.outbox)) → OnOk r (SentAll p.a.outbox p.sent sent)
    → OnErr r ((v ≡ asking_end p) × (posted ≡ p.a.posted) × (sent ≡ p.sent)) → IfErr r (PostFault p.a.link p.a.outbox)
    → AreThen p (event.Post A) (record (asking_parts p v posted p.a.wire) { sent = sent }) r
post_a p v posted sent (Ok answer) h so all more same err =
    let goes : HandsOver p A = λ past has. subst (λ (x : AskingValue). HasAsked (record past { handed = past.handed ++ p.a.outbox }) x) (handed_is (asking_end p) v (length p.a.outbox) all) (handed_history (asking_end p) v (length p.a.outbox) all past has) in
    let done = posted_step p A more.0 h so.2 (may_queue_parts p.a.link p.a.outbox all.0).2 more.2 goes in
    rw (so.0, handed_is (asking_end p) v (length p.a.outbox) all, so.1, more.1) done
post_a p v posted sent (Err f) h so all more same err = rw (same.0, same.1, same.2) (h, post_refused p A f h err)

pub post_b : (p : Parts) (v : ServingValue) (posted : ℕ) (r : Result Step WorldFault) → AreParts p
    → IfOk r (λ answer. PostedSo p.b.outbox p.b.posted posted answer) → OnOk r (HandedOver (serving_end p) v (length p.b.outbox))
    → OnErr r ((v ≡ serving_end p) × (posted ≡ p.b.posted)) → IfErr r (PostFault p.b.link p.b.outbox)
    → AreThen p (event.Post B) (serving_parts p v posted p.b.wire) r
post_b p v posted (Ok answer) h so handed same err =
    let goes : HandsOver p B = λ past is. subst (λ (x : ServingValue). IsAfter (record past { handed = past.handed ++ p.b.outbox }) x) (hands_over (serving_end p) v (length p.b.outbox) handed) (posted_history (serving_end p) v (length p.b.outbox) handed past is) in
    let done = posted_step p B [] h so.2 (may_queue_parts p.b.link p.b.outbox handed.0).2 tt goes in
    rw (so.0, hands_over (serving_end p) v (length p.b.outbox) handed, so.1) done
post_b p v posted (Err f) h so handed same err = rw (same.0, same.1) (h, post_refused p B f h err)
