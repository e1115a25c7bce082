-- Serving a message is a step of the machine.
use Rattle.std.proofs.Common.{◌≡◌, ℕ, ◌+◌, ◌<◌, arith, refl, sym, ◌∙◌, subst, ap, append_assoc, List, [], ◌∷◌, ◌++◌, length, take, drop, map, inl, inr}
use Rattle.std.specs.Prelude.{◌⊎◌, Some, Ok, Err, slice_get}
use Rattle.std.proofs.lemmas.List.{append-nil, length-append, length-map, map-append, take-append-le, take-append-drop, drop_all}
use Rattle.std.proofs.Math.Seq.{drop-append_seam}
use Rattle.dap_msg.specs.declared.message.Message.{Message}
use Rattle.dap_msg.specs.declared.items.Item.{Item}
use Rattle.dap_msg.specs.declared.items.Item.TheVariants.{Whole}
use Rattle.dap_msg.specs.Canon.{canon}
use Rattle.dap_msg.specs.Blocked.{NspMessage, blocked_bytes, all_joined, messages_in, AllFit}
use Rattle.dap_msg.proofs.ForCallers.{messages_in-Blocked}
use Rattle.dap_world.specs.Plain.{Answers, answers_added, stands_after, Asked}
use Rattle.dap_accessed.specs.Present as accessed
use Rattle.dap_world.proofs.Plain.{Answers-more, answer_to, answers-more}
use Rattle.dap_accessing.specs.Told.{Told}
use Rattle.dap_events.specs.declared.event.Event.TheVariants as event
use Rattle.dap_events.specs.declared.event.Step.TheVariants as step
use Rattle.dap_events.specs.declared.event.WorldFault.{WorldFault}
use Rattle.dap_events.specs.declared.event.WorldFault.TheVariants as fault
use Rattle.dap_world.specs.Machine.{State, arrived_messages, served_by_b, answers_read, answering, served_one, next_to_serve, Steps, RefusesEvent, reports_by_a}
use Rattle.dap_world.specs.Runs.{ComesTo, WantsMemory}
use Rattle.dap_world.specs.Inner.Worlds.{IsWorld}
use Rattle.nsp_link.specs.Link.{with_inbox}
use Rattle.dap_end.specs.Ports.{PortValue}
use Rattle.dap_end.specs.Serving.{IsAfter, MayServe, ServedOne}
use Rattle.dap_end.specs.Done.{ServingValue, ServerHistory, answers_to}
use Rattle.dap_accessed.specs.declared.setup.ServerSetup.{ServerSetup}
use Rattle.dap_end.proofs.ForCallers.{back_fit, prefix_fit, prefix_full, in_append}
use Rattle.dap_world.specs.Inner.Sides.{AreWithinLimit, side_of}
use Rattle.dap_world.specs.Inner.Parts.{Parts, AreParts, IsAskedAll, IsServedAll, IsCarried, asked_messages, answers, asking_end, serving_end, served_items, answer_packets, end_state, state_of}
use Rattle.dap_end.specs.Histories.{AreFull, history_after_item}
use Rattle.dap_world.proofs.Steps.Counting.{counted}
use Rattle.dap_world.proofs.Steps.Packets.{arrived-front, get-front, take-next}
use Rattle.dap_world.proofs.Headline.Blocks.{asked-all, asked-full}
use Rattle.dap_world.proofs.Headline.Splits.{one_there, only_item}
use Rattle.dap_world.proofs.Steps.Arrived.{Next, find_next, none_next, handled_one, handled_side}
use Rattle.dap_world.proofs.Steps.Growing.{told_more, handed_same, all_short}
use Rattle.dap_world.proofs.Headline.Kept.{kept-step, taken-more, served-front}
use Rattle.dap_world.proofs.Headline.Blocking.{answers-blocked}
use Rattle.dap_world.proofs.Steps.Posted.{waits}
use Rattle.dap_world.proofs.Steps.Wrote.{AreThen, as_server, server_is, serving_parts}

-- ---- What B served.

pub full-take : (n : ℕ) (xs : List NspMessage) → AreFull xs → AreFull (take n xs)
full-take n xs h = prefix_full (take n xs) (drop n xs) (subst AreFull (sym (take-append-drop n xs)) h)

pub fit-take : (n : ℕ) (xs : List NspMessage) → AllFit (messages_in xs) → AllFit (messages_in (take n xs))
fit-take n xs h =
    prefix_fit (messages_in (take n xs)) (messages_in (drop n xs))
    (subst AllFit (ap messages_in (sym (take-append-drop n xs)) ∙ in_append (take n xs) (drop n xs)) h)

-- all that was asked is what was passed on, and what waits
asked-split : (p : Parts) → messages_in (take p.a.posted (asked_messages p)) ++ messages_in (drop p.a.posted (asked_messages p)) ≡ Asked p.accessing.own p.requests
asked-split p =
    sym (in_append (take p.a.posted (asked_messages p)) (drop p.a.posted (asked_messages p))) ∙ ap messages_in (take-append-drop p.a.posted (asked_messages p))
    ∙ asked-all p.accessing.own p.accessed.own p.requests

pub served_is : (p : Parts) → AreParts p → served_items p ≡ map Whole (served_by_b (state_of p))
served_is p h =
    let handed = take p.a.posted (asked_messages p) in
    let front = arrived-front p.a.link.setup.seg_size p.b.link.coming.received handed in
    ap (λ (l : List Message). map Whole (take p.served l)) (sym (asked-split p))
    ∙ ap (map Whole) (take-append-le p.served (messages_in handed) (messages_in (drop p.a.posted (asked_messages p)))
    (omega (arith, h.world.served, length-append (messages_in (arrived_messages p.a.link.setup.seg_size p.b.link.coming.received handed)) front.0, ap length front.1)))

-- one more
served_more : (p : Parts) (m : Message) → next_to_serve (state_of p) ≡ Some m → take (p.served + 1) (Asked p.accessing.own p.requests) ≡ take p.served (Asked p.accessing.own p.requests) ++ m ∷ []
served_more p m next =
    let handed = take p.a.posted (asked_messages p) in
    let front = arrived-front p.a.link.setup.seg_size p.b.link.coming.received handed in
    let here : slice_get (messages_in handed) p.served ≡ Some m =
    subst (λ (l : List Message). slice_get l p.served ≡ Some m) front.1 (get-front (messages_in (arrived_messages p.a.link.setup.seg_size p.b.link.coming.received handed)) front.0 p.served m next) in
    take-next (Asked p.accessing.own p.requests) p.served m
    (subst (λ (l : List Message). slice_get l p.served ≡ Some m) (asked-split p) (get-front (messages_in handed) (messages_in (drop p.a.posted (asked_messages p))) p.served m here))

-- ---- What A read stays when B serves more.

read-stays : (p : Parts) (m : Message) → AreParts p
    → take p.read (Answers p.accessed.own [] (map Whole (served_by_b (state_of p) ++ m ∷ []))) ≡ take p.read (Answers p.accessed.own [] (map Whole (served_by_b (state_of p))))
read-stays p m h =
    let s = state_of p in
    let items = map Whole (served_by_b s) in
    let front = arrived-front s.seg_size s.a.taken s.b.handed in
    let all = ap length (sym (in_append s.b.handed s.b.waiting) ∙ h.world.answered) in
    ap (λ l. take p.read (Answers p.accessed.own [] l)) (map-append Whole (served_by_b s) (m ∷ []))
    ∙ ap (take p.read) (Answers-more p.accessed.own [] items (Whole m))
    ∙ take-append-le p.read (Answers p.accessed.own [] items) (answers_added p.accessed.own [] items (Whole m))
    (omega (
      arith,
      h.world.read,
      all,
      length-append (messages_in s.b.handed) (messages_in s.b.waiting),
      length-append (messages_in (arrived_messages s.seg_size s.a.taken s.b.handed)) front.0,
      ap length front.1,
    ))

-- ---- The step.

module _ (p : Parts) (h : AreParts p) (m : Message) (next : next_to_serve (state_of p) ≡ Some m) (idle : p.b.outbox ≡ []) where
  items : List Item
  items = served_items p

  block : List NspMessage
  block = answer_to p.accessed.own [] (served_items p) (Whole m)

  abbrev q_of : (inbox : List (List ℕ)) (offset : ℕ) (outbox : List (List ℕ)) → accessed.Present → Parts
  q_of inbox offset outbox after =
      record p {
        b = record p.b { link = with_inbox p.b.link inbox; offset = offset; outbox = outbox };
        accessed = as_server p after;
        served = p.served + 1;
      }

  more_items : map Whole (take (p.served + 1) (Asked p.accessing.own p.requests)) ≡ served_items p ++ Whole m ∷ []
  more_items = ap (map Whole) (served_more p m next) ∙ map-append Whole (take p.served (Asked p.accessing.own p.requests)) (m ∷ [])

  answers_are : answer_packets p.accessed.own [] (map Whole (take (p.served + 1) (Asked p.accessing.own p.requests))) ≡ answers p ++ answer_to p.accessed.own [] (served_items p) (Whole m)
  answers_are =
      ap (answer_packets p.accessed.own []) more_items ∙ answers-more p.accessed.own (served_items p) (Whole m)

  answering_is : answering (state_of p) m ≡ answer_to p.accessed.own [] (served_items p) (Whole m)
  answering_is = ap (λ (l : List Item). answer_to p.accessed.own [] l (Whole m)) (sym (served_is p h))

  all_handed : p.b.posted ≡ length (answers p)
  all_handed = let n = counted p.b.posted h.from_b.handed p.b.outbox (answers p) h.from_b.posted h.from_b.bytes in let none = ap length idle in omega arith

  none_waits : drop p.b.posted (answers p) ≡ []
  none_waits = drop_all p.b.posted (answers p) (omega (arith, all_handed))

  state_served : (inbox : List (List ℕ)) (offset : ℕ) (outbox : List (List ℕ)) (after : accessed.Present) → state_of (q_of inbox offset outbox after) ≡ served_one (state_of p) m
  state_served inbox offset outbox after =
      let s = state_of p in
      let b = answer_to p.accessed.own [] (served_items p) (Whole m) in
      ap (λ (l : List NspMessage). record s { b = end_state p.b l; served = p.served + 1 }) answers_are
      ∙ ap (λ (l : List NspMessage). record s { b = record s.b { waiting = drop p.b.posted (answers p ++ b); handed = l }; served = p.served + 1 })
      (handed_same p.b p.a (answers p) b p.read h.from_b)
      ∙ ap (λ (l : List NspMessage). record s { b = record s.b { waiting = l }; served = p.served + 1 })
      (ap (λ (n : ℕ). drop n (answers p ++ b)) all_handed ∙ drop-append_seam (answers p) b ∙ sym answering_is)

  serves : Steps (state_of p) event.Serve (step.Served (length (answering (state_of p) m))) (served_one (state_of p) m)
  unfolding Steps
  serves = (m, none_waits, next, refl, refl)

  -- none of the NSP messages is longer than A takes
  block_short : AreWithinLimit p.b.link.setup.max_message (all_joined (answer_to p.accessed.own [] (map Whole (served_by_b (state_of p))) (Whole m)))
  block_short =
      let s = state_of p in
      let front = served-front (served_one s m) (kept-step s (served_one s m) event.Serve (step.Served (length (answering s m))) serves h.world) in
      let all : (served_by_b s ++ m ∷ []) ++ front.0 ≡ Asked p.accessing.own p.requests = ap (λ (l : List Message). l ++ front.0) (sym (taken-more s m next)) ∙ front.1 in
      all_short p.accessing.own p.b.link.setup.max_message _ (omega (arith, h.limit, h.alike.limit))
      (answers-blocked p.accessing.own p.accessed.own h.world.own_a h.world.own_b p.requests (map Whole (served_by_b s)) (map Whole front.0) (Whole m)
      (sym (map-append Whole (served_by_b s) (m ∷ front.0)) ∙ ap (map Whole) (sym (append_assoc (served_by_b s) (m ∷ []) front.0) ∙ all)))

  parts_served : (bytes : List ℕ) (later outbox : List (List ℕ)) (next_offset : ℕ) (after : accessed.Present) (n : Next p.a p.b (asked_messages p) p.served bytes)
      → n.m ≡ m → p.b.link.coming.inbox ≡ bytes ∷ later → length (blocked_bytes n.begun) + length (canon n.m) ≡ next_offset
      → outbox ≡ all_joined (answer_to p.accessed.own [] (map Whole (served_by_b (state_of p))) (Whole m)) → AllFit (answers_added p.accessed.own [] (map Whole (served_by_b (state_of p))) (Whole m))
      → (let s = handled_side p.b bytes later next_offset in
      IsServedAll (serving_end (q_of s.link.coming.inbox s.offset outbox after)) (map Whole (served_by_b (state_of p)) ++ Whole m ∷ []) → AreParts (q_of s.link.coming.inbox s.offset outbox after))
  unfolding reports_by_a
  parts_served bytes later outbox next_offset after n same inbox goes outbox_is fit serving =
      let s = handled_side p.b bytes later next_offset in
      let q = q_of s.link.coming.inbox s.offset outbox after in
      let state = state_served s.link.coming.inbox s.offset outbox after in
      let world = kept-step (state_of p) (served_one (state_of p) m) event.Serve (step.Served (length (answering (state_of p) m))) serves h.world in
      let taken : served_by_b (served_one (state_of p) m) ≡ served_by_b (state_of p) ++ m ∷ [] = taken-more (state_of p) m next in
      let b = answer_to p.accessed.own [] (served_items p) (Whole m) in
      let all = messages_in-Blocked (stands_after p.accessed.own [] (served_items p)).standing.scene.limit (answers_added p.accessed.own [] (served_items p) (Whole m)) in
      let fit_block : AllFit (messages_in b) = subst AllFit (sym all) (subst (λ (l : List Item). AllFit (answers_added p.accessed.own [] l (Whole m))) (sym (served_is p h)) fit) in
      let short : AreWithinLimit p.b.link.setup.max_message outbox = subst (AreWithinLimit p.b.link.setup.max_message) (sym outbox_is) block_short in
      let block_is : outbox ≡ all_joined b = outbox_is ∙ ap (λ (l : List Item). all_joined (answer_to p.accessed.own [] l (Whole m))) (sym (served_is p h)) in
      let read : answers_read (served_one (state_of p) m) ≡ answers_read (state_of p) =
      ap (λ (l : List Message). map Whole (take p.read (Answers p.accessed.own [] (map Whole l)))) taken ∙ ap (map Whole) (read-stays p m h) in
      record {
        world = subst IsWorld (sym state) world;
        plain_a = h.plain_a;
        plain_b = refl;
        alike = h.alike;
        limit = h.limit;
        most = h.most;
        from_a = handled_one p.a p.b (asked_messages p) p.served bytes later next_offset h.from_a n inbox goes;
        from_b = subst (λ (l : List NspMessage). IsCarried q.b p.a l p.read) (sym answers_are)
            (told_more p.b p.a (answers p) b p.read s.link.coming.inbox s.offset outbox outbox h.from_b (ap (λ (l : List (List ℕ)). l ++ outbox) (sym idle)) block_is fit_block short);
        sent_is = h.sent_is;
        reports_is = h.reports_is ∙ ap (Told p.requests) (sym read) ∙ ap reports_by_a (sym state);
        asking = subst (λ (x : State). IsAskedAll (asking_end p) p.requests (answers_read x)) (sym state)
            (subst (λ (l : List Item). IsAskedAll (asking_end p) p.requests l) (sym read) h.asking);
        serving = subst (λ (x : State). IsServedAll (serving_end q) (map Whole (served_by_b x))) (sym state)
            (subst (λ (l : List Item). IsServedAll (serving_end q) l) (sym (ap (map Whole) taken ∙ map-append Whole (served_by_b (state_of p)) (m ∷ []))) serving);
      }

-- what is read next from A is of its message
pub next_of : (p : Parts) (bytes : List ℕ) (later : List (List ℕ)) → AreParts p → p.b.link.coming.inbox ≡ bytes ∷ later → Next p.a p.b (asked_messages p) p.served bytes
next_of p bytes later h inbox =
    find_next p.a p.b (asked_messages p) p.served h.from_a bytes later
    (full-take p.a.posted (asked_messages p) (asked-full p.accessing.own p.accessed.own p.requests)) (fit-take p.a.posted (asked_messages p) h.from_a.fit) inbox

-- nothing is served
unserved : (outbox inbox : List (List ℕ)) → ((outbox ≡ []) × (0 < length inbox) → ⊥) → (0 < length outbox) ⊎ (inbox ≡ [])
unserved (x ∷ outbox) inbox denied = inl (omega arith)
unserved [] [] denied = inr refl
unserved [] (x ∷ inbox) denied = absurd (denied (refl, omega arith))

pub serves_nothing : (p : Parts) → AreParts p → (MayServe (serving_end p) → ⊥) → ComesTo (state_of p) event.Serve (Err fault.NothingToDo) (state_of p)
unfolding RefusesEvent
serves_nothing p h denied =
    elim (unserved p.b.outbox p.b.link.coming.inbox denied) as (λ _. ComesTo (state_of p) event.Serve (Err fault.NothingToDo) (state_of p)) [
      | inl waiting ↦ (inl (omega (arith, waiting, waits p.b p.a (answers p) p.read h.from_b)), refl)
      | inr empty ↦ (inr (none_next p.a p.b (asked_messages p) p.served h.from_a empty), refl)
    ]

pub serves_later : (p : Parts) → AreParts p → MayServe (serving_end p) → ComesTo (state_of p) event.Serve (Err fault.NoMemory) (state_of p)
unfolding Steps
serves_later p h may = (may_serve p.b.link.coming.inbox refl may.1, refl)
  where
    may_serve : (inbox : List (List ℕ)) → p.b.link.coming.inbox ≡ inbox → 0 < length inbox → WantsMemory (state_of p) event.Serve
    may_serve [] e some = let none : ⊥ = omega arith in absurd none
    may_serve (bytes ∷ later) e some = let n = next_of p bytes later h e in (_, _, serves p h n.m n.next may.0, tt)

pub not_served : (p : Parts) (v : ServingValue) (f : WorldFault) → AreParts p → v ≡ serving_end p → ComesTo (state_of p) event.Serve (Err f) (state_of p)
    → AreThen p event.Serve (serving_parts p v p.b.posted p.b.wire) (Err f)
not_served p v f h same went = subst (λ (x : ServingValue). AreThen p event.Serve (serving_parts p x p.b.posted p.b.wire) (Err f)) (sym same) (h, went)

-- what B did, once it served one more
module _ (p : Parts) (v : ServingValue) (n : ℕ) (h : AreParts p) (o : ServedOne (serving_end p) v n) (m : Message) (is : Whole m ≡ o.one.item) where
  abbrev taken : List Item
  taken = map Whole (served_by_b (state_of p))

  abbrev past : ServerHistory
  past = record h.serving.0 { first = []; items = map Whole (served_by_b (state_of p)) }

  abbrev now : ServerHistory
  now = history_after_item past o.one.bytes (Whole m) o.one.next

  own_is : v.present ≡ as_server p v.present
  own_is = server_is p v h o.own o.setup

  is_after : IsAfter now (record { port = v.port; present = as_server p v.present })
  is_after =
      subst (λ (x : accessed.Present). IsAfter now (record { port = v.port; present = x })) own_is
      (subst (λ (i : Item). IsAfter (history_after_item past o.one.bytes i o.one.next) v) (sym is) (o.past past h.serving.1))

  -- what waits is its answers
  outbox_is : v.port.outbox ≡ all_joined (answer_to p.accessed.own [] taken (Whole m))
  outbox_is =
      let handed = h.serving.0.handed in
      let block = answer_to p.accessed.own [] taken (Whole m) in
      let before : handed ≡ all_joined (answer_packets p.accessed.own [] taken) = sym (append-nil handed) ∙ ap (λ (l : List (List ℕ)). handed ++ l) (sym o.idle) ∙ h.serving.1.answers
      ∙ ap (λ (own : ServerSetup). all_joined (answers_to own [] [] taken)) h.plain_b in
      let all : handed ++ v.port.outbox ≡ handed ++ all_joined block =
      is_after.answers ∙ ap all_joined (answers-more p.accessed.own taken (Whole m)) ∙ map-append blocked_bytes (answer_packets p.accessed.own [] taken) block
      ∙ ap (λ (l : List (List ℕ)). l ++ all_joined block) (sym before) in
      sym (drop-append_seam handed v.port.outbox) ∙ ap (drop (length handed)) all ∙ drop-append_seam handed (all_joined block)

  added_fit : AllFit (answers_added p.accessed.own [] taken (Whole m))
  added_fit =
      back_fit (Answers p.accessed.own [] taken) (answers_added p.accessed.own [] taken (Whole m))
      (subst AllFit (Answers-more p.accessed.own [] taken (Whole m)) is_after.fit)

pub served_step : (p : Parts) (v : ServingValue) (n : ℕ) → AreParts p → ServedOne (serving_end p) v n
    → AreThen p event.Serve (record (serving_parts p v p.b.posted p.b.wire) { served = p.served + 1 }) (Ok (step.Served n))
unfolding Steps
served_step p v n h o =
    let x = next_of p o.one.bytes o.one.later h o.one.came in
    let m = x.m in
    let one = one_there o.one.bytes p.b.offset o.one.next o.one.item x.begun x.more m x.fit x.bytes_are x.offset_is (only_item o.one.bytes p.b.offset o.one.item o.one.next o.one.fits o.one.reads) in
    let t = handled_side p.b o.one.bytes o.one.later o.one.next in
    let outbox = v.port.outbox in
    let own = own_is p v n h o m one.0 in
    let is = outbox_is p v n h o m one.0 in
    let q = q_of p h m x.next o.idle t.link.coming.inbox t.offset outbox v.present in
    let serving : IsServedAll (serving_end q) (map Whole (served_by_b (state_of p)) ++ Whole m ∷ []) =
    (now p v n h o m one.0, subst (λ (port : PortValue). IsAfter (now p v n h o m one.0) (record { port = port; present = as_server p v.present })) o.port (is_after p v n h o m one.0)) in
    let parts : AreParts q = parts_served p h m x.next o.idle o.one.bytes o.one.later outbox o.one.next v.present x refl o.one.came one.1 is (added_fit p v n h o m one.0) serving in
    let count : length (answering (state_of p) m) ≡ n = sym (length-map (answering (state_of p) m) blocked_bytes) ∙ ap length (sym is) ∙ sym o.count in
    let went : Steps (state_of p) event.Serve (step.Served n) (state_of q) =
    subst (λ (y : State). Steps (state_of p) event.Serve (step.Served n) y) (sym (state_served p h m x.next o.idle t.link.coming.inbox t.offset outbox v.present))
    (subst (λ (k : ℕ). Steps (state_of p) event.Serve (step.Served k) (served_one (state_of p) m)) count (serves p h m x.next o.idle)) in
    subst (λ (port : PortValue). AreThen p event.Serve (record p { b = side_of port p.b.posted p.b.wire; accessed = v.present; served = p.served + 1 }) (Ok (step.Served n))) (sym o.port)
    (subst (λ (y : accessed.Present). AreThen p event.Serve (record p { b = record t { outbox = outbox }; accessed = y; served = p.served + 1 }) (Ok (step.Served n))) (sym own) (parts, went))
