-- Two ends keep the headline.
use Rattle.std.proofs.Common.{◌≡◌, ℕ, ◌≤◌, refl, sym, ◌∙◌, subst, ap, append_assoc, List, [], ◌∷◌, ◌++◌, length, map}
use Rattle.std.specs.Prelude.{None, Option, Some, IfSome}
use Rattle.std.proofs.lemmas.List.{append-nil, map-append}
use Rattle.dap_accessed.specs.declared.setup.ServerSetup.{ServerSetup}
use Rattle.dap_msg.specs.declared.message.Message.{Message}
use Rattle.dap_msg.specs.declared.items.Item.{Item}
use Rattle.dap_msg.specs.declared.items.Item.TheVariants.{Whole}
use Rattle.dap_msg.specs.Blocked.{NspMessage, blocked_bytes, Blocked, all_joined, messages_in, AllFit}
use Rattle.dap_msg.proofs.ForCallers.{are_items}
use Rattle.nsp_link.specs.declared.link.LinkSetup.{LinkSetup}
use Rattle.dap_accessed.specs.Standing.{Files}
use Rattle.dap_accessed.specs.Present.{Present}
use Rattle.dap_accessed.specs.Groups.{Answers, After, answers_added, limit_for}
use Rattle.dap_accessing.specs.Request.{Request}
use Rattle.dap_accessing.specs.Asked.{Asked}
use Rattle.dap_accessing.specs.Told.{Told}
use Rattle.dap_end.specs.Histories.{AreFull}
use Rattle.dap_end.specs.Ports.{PortValue}
use Rattle.nsp_link.specs.Receiving.{Receives}
use Rattle.dap_end.specs.Going.{AreItemsOf, AreFrontOf}
use Rattle.dap_end.specs.Serving.{IsAfter}
use Rattle.dap_end.specs.Done.{ServingValue, ServerHistory, answers_to, nothing_yet}
use Rattle.dap_end.specs.Asking.{HasAsked}
use Rattle.dap_end.specs.Done.{ClientHistory}
use Rattle.dap_end.specs.Runs.{RunsBy}
use Rattle.dap_end.specs.Headline.{WrittenPacket}
use Rattle.dap_end.specs.Calls.{WroteOne, EndEvent, Came, GoesOn, Repeats}
use Rattle.dap_end.specs.Calls.{AskingEvent}
use Rattle.dap_end.specs.Joined.{Pair}
use Rattle.dap_end.specs.Calls.{PairEvent, AtA, AtB, PairStepped}
use Rattle.dap_end.specs.Inner.Running.{AreOpposite, AreNew, PairHeadline}
use Rattle.dap_end.proofs.Taking.{grown}
use Rattle.dap_end.proofs.Afterwards.{after_received}
use Rattle.dap_end.proofs.Proceeding.{still_sent, worked_grew}
use Rattle.dap_end.proofs.Fronts.{served_prefix}
use Rattle.dap_end.proofs.Asked.{full-blocked, full-both}
use Rattle.dap_end.proofs.Packets.{written_on}
use Rattle.dap_end.proofs.Running.{in_append, answers_from}
use Rattle.dap_end.proofs.Moving.{wrote_one, goes, again_sent}
use Rattle.dap_end.proofs.Clients.{Client, IsJoinedTo, new_joined}
use Rattle.dap_end.proofs.Clients.{asks as client_asks}
use Rattle.dap_end.proofs.Ways.{AreJoined, swapped, comes}
use Rattle.dap_end.specs.Inner.ServingView.{with_port}

-- ---- The items of NSP messages that are messages joined.

pub prefix_fit : (xs ys : List Message) → AllFit (xs ++ ys) → AllFit xs
prefix_fit [] ys h = tt
prefix_fit (x ∷ xs) ys h = (h.0, prefix_fit xs ys h.1)

pub back_fit : (xs ys : List Message) → AllFit (xs ++ ys) → AllFit ys
back_fit [] ys h = h
back_fit (x ∷ xs) ys h = back_fit xs ys h.1

items_of : (packets : List NspMessage) → AreFull packets → AllFit (messages_in packets) → AreItemsOf (all_joined packets) (map Whole (messages_in packets))
items_of [] full fit = refl
items_of (p ∷ packets) full fit =
    (map Whole p, map Whole (messages_in packets), map-append Whole p (messages_in packets), are_items p (prefix_fit p (messages_in packets) fit) full.0, items_of packets full.1 (back_fit p (messages_in packets) fit))

-- a front of the bytes of each is those of a front
record Front (packets : List NspMessage) (handed : List (List ℕ)) : Type 0 where
  front : List NspMessage
  rest : List NspMessage
  split : packets ≡ front ++ rest
  is : handed ≡ all_joined front

front_of : (handed waiting : List (List ℕ)) (packets : List NspMessage) → handed ++ waiting ≡ all_joined packets → Front packets handed
front_of [] waiting packets e = record { front = []; rest = packets; split = refl; is = refl }
front_of (m ∷ handed) waiting [] e = let none : ⊥ = cc in absurd none
front_of (m ∷ handed) waiting (p ∷ packets) e =
    let later = front_of handed waiting packets (let tails : handed ++ waiting ≡ all_joined packets = cc in tails) in
    let first : m ≡ blocked_bytes p = cc in
    record {
      front = p ∷ later.front;
      rest = later.rest;
      split = ap (λ (l : List NspMessage). p ∷ l) later.split;
      is = ap (λ (b : List ℕ). b ∷ handed) first ∙ ap (λ (l : List (List ℕ)). blocked_bytes p ∷ l) later.is;
    }

pub prefix_full : (xs ys : List NspMessage) → AreFull (xs ++ ys) → AreFull xs
prefix_full [] ys h = tt
prefix_full (x ∷ xs) ys h = (h.0, prefix_full xs ys h.1)

-- items that are a front of messages are the first of these
pub record Taken (messages : List Message) (items : List Item) : Type 0 where
  pub taken : List Message
  pub is : items ≡ map Whole taken
  pub rest : List Message
  pub split : taken ++ rest ≡ messages

taken_of : (messages : List Message) (items rest : List Item) → map Whole messages ≡ items ++ rest → Taken messages items
taken_of messages [] rest e = record { taken = []; is = refl; rest = messages; split = refl }
taken_of [] (x ∷ items) rest e = let none : ⊥ = cc in absurd none
taken_of (m ∷ messages) (x ∷ items) rest e =
    let later = taken_of messages items rest (let tails : map Whole messages ≡ items ++ rest = cc in tails) in
    let first : Whole m ≡ x = cc in
    record {
      taken = m ∷ later.taken;
      is = ap (λ (y : Item). y ∷ items) (sym first) ∙ ap (λ (l : List Item). Whole m ∷ l) later.is;
      rest = later.rest;
      split = ap (λ (l : List Message). m ∷ l) later.split;
    }

-- what the other end took is of the messages in all NSP messages
pub first_ones : (packets : List NspMessage) (handed waiting : List (List ℕ)) (items : List Item) → AreFull packets → AllFit (messages_in packets) → handed ++ waiting ≡ all_joined packets → AreFrontOf handed items → Taken (messages_in packets) items
first_ones packets handed waiting items full fit bytes front =
    let f = front_of handed waiting packets bytes in
    let all : messages_in packets ≡ messages_in f.front ++ messages_in f.rest = ap messages_in f.split ∙ in_append f.front f.rest in
    let of_front = items_of f.front (prefix_full f.front f.rest (subst AreFull f.split full)) (prefix_fit (messages_in f.front) (messages_in f.rest) (subst AllFit all fit)) in
    let goes = subst (λ (l : List (List ℕ)). AreFrontOf l items) f.is front (map Whole (messages_in f.front)) of_front in
    let t = taken_of (messages_in f.front) items goes.0 goes.1 in
    record {
      taken = t.taken;
      is = t.is;
      rest = t.rest ++ messages_in f.rest;
      split = sym (append_assoc t.taken t.rest (messages_in f.rest)) ∙ ap (λ (l : List Message). l ++ messages_in f.rest) t.split ∙ sym all;
    }

pub answers_full : (own : ServerSetup) (first : Files) (before items : List Item) → AreFull (answers_to own first before items)
answers_full own first before [] = tt
answers_full own first before (item ∷ items) =
    full-both (Blocked (limit_for own first before) (answers_added own first before item)) (answers_to own first (before ++ item ∷ []) items) (full-blocked (limit_for own first before) (answers_added own first before item))
    (answers_full own first (before ++ item ∷ []) items)

-- ---- What is true of both ends after any events.

pub record IsLinked (first : Files) (p : Pair) : Type 0 where
  pub asked : ClientHistory
  pub asking : HasAsked asked p.a
  pub served : ServerHistory
  pub serving : IsAfter served p.b
  pub had : served.first ≡ first
  pub requests : asked.requests ≡ p.requests
  pub told : p.reports ≡ Told asked.requests asked.answers
  pub ways : AreJoined p.a.port.link p.b.port.link asked.handed served.handed asked.given served.given p.from_a p.from_b

pub headline : (first : Files) (p : Pair) → IsLinked first p → PairHeadline first p
headline first p j =
    let own = p.b.present.setup in
    let t = first_ones j.asked.asked j.asked.handed p.a.port.outbox j.served.items j.asking.full j.asking.fit j.asking.waiting
    (served_prefix p.b.port.link p.a.port.link.setup.seg_size j.asked.handed j.served.given p.b.port.offset j.served.items j.ways.there.positive j.ways.there.stands j.serving.gone) in
    let packets = answers_to own j.served.first [] j.served.items in
    let answers : messages_in packets ≡ Answers own j.served.first j.served.items = answers_from own j.served.first [] j.served.items in
    let r = first_ones packets j.served.handed p.b.port.outbox j.asked.answers (answers_full own j.served.first [] j.served.items) (subst AllFit (sym answers) j.serving.fit) j.serving.answers
    (served_prefix p.a.port.link p.b.port.link.setup.seg_size j.served.handed j.asked.given p.a.port.offset j.asked.answers j.ways.back.positive j.ways.back.stands j.asking.gone) in
    record {
      taken = t.taken;
      taken_in_order = (t.rest, t.split ∙ j.asking.messages ∙ ap (Asked p.a.present.identity) j.requests);
      files_after = ap (λ (x : Present). x.files) j.serving.serving ∙ ap (After own j.served.first) t.is ∙ ap (λ (f : Files). After own f (map Whole t.taken)) j.had;
      read = r.taken;
      read_in_order = (r.rest, r.split ∙ answers ∙ ap (Answers own j.served.first) t.is ∙ ap (λ (f : Files). Answers own f (map Whole t.taken)) j.had);
      reports_told = j.told ∙ ap (λ (l : List Request). Told l j.asked.answers) j.requests ∙ ap (Told p.requests) r.is;
    }

-- ---- New ends.

-- the client of two ends
abbrev client_of : Pair → Client
client_of p = record { a = p.a; wrote = p.from_a; requests = p.requests; reports = p.reports }

pub new_pair : (s t : LinkSetup) (first : Files) (p : Pair) → AreOpposite s t → AreNew s t first p → IsLinked first p
new_pair s t first p o n =
    let c = new_joined s t (client_of p) o n.port_a n.asking (ap (λ (x : Pair). x.from_a) n.none) (ap (λ (x : Pair). x.requests) n.none) (ap (λ (x : Pair). x.reports) n.none) in
    record {
      asked = c.asked;
      asking = c.asking;
      served = nothing_yet first;
      serving = n.serving;
      had = refl;
      requests = c.requests;
      told = c.told;
      ways =
          subst (λ (l : List WrittenPacket). AreJoined p.a.port.link p.b.port.link c.asked.handed [] c.asked.given [] p.from_a l) (sym (ap (λ (x : Pair). x.from_b) n.none))
          (subst (λ (x : PortValue). AreJoined p.a.port.link x.link c.asked.handed [] c.asked.given [] p.from_a []) (sym n.port_b) c.ways);
    }

-- ---- The end that serves is called.

wrote_b : (first : Files) (old new : Pair) (wrote : List WrittenPacket) (w : WrittenPacket) (k : Option ℕ) → WroteOne old.b.port.link k w → new.b ≡ old.b → wrote ≡ w ∷ [] → IfSome k (λ n. n ≤ old.b.port.link.sent)
    → new.from_b ≡ old.from_b ++ wrote → new ≡ record old { b = new.b; from_b = new.from_b } → IsLinked first old → IsLinked first new
wrote_b first old new wrote w k one same is was at e j =
    let back = swapped old.a.port.link old.b.port.link j.asked.handed j.served.handed j.asked.given j.served.given old.from_a old.from_b j.ways in
    let ways = wrote_one old.b.port.link old.a.port.link j.served.handed j.asked.handed j.served.given j.asked.given old.from_b old.from_a k w back j.serving.sends was one in
    subst (IsLinked first) (sym (e ∙ ap (λ (v : ServingValue). record old { b = v; from_b = new.from_b }) same ∙ ap (λ (l : List WrittenPacket). record old { from_b = l }) (at ∙ ap (λ (l : List WrittenPacket). old.from_b ++ l) is)))
    (record {
      asked = j.asked;
      asking = j.asking;
      served = j.served;
      serving = j.serving;
      had = j.had;
      requests = j.requests;
      told = j.told;
      ways = swapped old.b.port.link old.a.port.link j.served.handed j.asked.handed j.served.given j.asked.given (old.from_b ++ w ∷ []) old.from_a ways;
    })

-- each event
serves : (first : Files) (old new : Pair) (event : EndEvent) (ws : List WrittenPacket) → PairStepped old (AtB event) ws new → IsLinked first old → IsLinked first new
serves first old new (Came bytes) ws s j =
    let t = s.0.0 in
    let g = grown old.b.port.link t.1 bytes t.0 t.2 in
    let ways = comes old.a.port.link old.b.port.link t.1 j.asked.handed j.served.handed j.asked.given j.served.given old.from_a old.from_b t.6.0 t.6.1 t.0 j.ways t.6.2 t.6.4
    (subst (λ (x : List ℕ). Receives old.b.port.link t.1 x t.0) t.6.3 t.2) (written_on old.b.port.link t.1 g j.served.handed old.from_b j.ways.back.packets) in
    subst (IsLinked first) (sym s.1)
    (record {
      asked = j.asked;
      asking = j.asking;
      served = j.served;
      serving = subst (IsAfter j.served) (sym t.3) (after_received j.served old.b t.1 g t.2.sends j.serving);
      had = j.had;
      requests = j.requests;
      told = j.told;
      ways =
          subst (λ (l : List WrittenPacket). AreJoined old.a.port.link new.b.port.link j.asked.handed j.served.handed j.asked.given j.served.given old.from_a l) (sym (s.0.1 ∙ ap (λ (l : List WrittenPacket). old.from_b ++ l) t.4 ∙ append-nil old.from_b))
          (subst (λ (v : ServingValue). AreJoined old.a.port.link v.port.link j.asked.handed j.served.handed j.asked.given j.served.given old.from_a old.from_b) (sym t.3) ways);
    })
serves first old new GoesOn ws s j =
    let t = s.0.0 in
    let more = worked_grew old.b t.0 t.2 in
    let m = more.past j.served j.serving in
    let now = m.0 in
    let g = m.1 in
    let back = swapped old.a.port.link old.b.port.link j.asked.handed j.served.handed j.asked.given j.served.given old.from_a old.from_b j.ways in
    let ways = goes old.b.port.link old.a.port.link t.0.port.link new.b.port t.0.port j.served.handed j.asked.handed j.served.given j.asked.given g.handed.0 now.given now.handed old.from_b old.from_a t.1 back refl more.link t.3 g.handed.1 g.handed.2
    (g.stands old.a.port.link.setup.seg_size j.asked.handed back.back.stands) g.is.sends in
    subst (IsLinked first) (sym s.1)
    (record {
      asked = j.asked;
      asking = j.asking;
      served = now;
      serving = subst (IsAfter now) (sym (t.4 ∙ ap (with_port t.0) t.3.sent)) (still_sent t.0 (length t.1) now g.is);
      had = g.first ∙ j.had;
      requests = j.requests;
      told = j.told;
      ways =
          subst (λ (l : List WrittenPacket). AreJoined old.a.port.link new.b.port.link j.asked.handed now.handed j.asked.given now.given old.from_a l) (sym (s.0.1 ∙ ap (λ (l : List WrittenPacket). old.from_b ++ l) t.5))
          (swapped new.b.port.link old.a.port.link now.handed j.asked.handed now.given j.asked.given _ old.from_a ways);
    })
serves first old new (Repeats (Some i)) ws ((t, at), e) j = wrote_b first old new ws t.0 _ t.2 t.3 t.4 (again_sent old.b.port.link i t.1) at e j
serves first old new (Repeats None) ws ((t, at), e) j = wrote_b first old new ws t.0 _ t.2 t.3 t.4 tt at e j

-- ---- The end that asks is called.

asks : (first : Files) (old new : Pair) (event : AskingEvent) (ws : List WrittenPacket) → PairStepped old (AtA event) ws new → IsLinked first old → IsLinked first new
asks first old new event ws s j =
    let before : IsJoinedTo old.b.port.link j.served.handed j.served.given old.from_b (client_of old) = record { asked = j.asked; asking = j.asking; requests = j.requests; told = j.told; ways = j.ways } in
    let now = client_asks old.b.port.link j.served.handed j.served.given old.from_b (client_of old) (client_of new) event ws s.0 (ap (λ (p : Pair). p.requests) s.1) before in
    let same : new.b ≡ old.b = ap (λ (p : Pair). p.b) s.1 in
    record {
      asked = now.asked;
      asking = now.asking;
      served = j.served;
      serving = subst (IsAfter j.served) (sym same) j.serving;
      had = j.had;
      requests = now.requests;
      told = now.told;
      ways =
          subst (λ (l : List WrittenPacket). AreJoined new.a.port.link new.b.port.link now.asked.handed j.served.handed now.asked.given j.served.given new.from_a l) (sym (ap (λ (p : Pair). p.from_b) s.1))
          (subst (λ (v : ServingValue). AreJoined new.a.port.link v.port.link now.asked.handed j.served.handed now.asked.given j.served.given new.from_a old.from_b) (sym same) now.ways);
    }

-- ---- All events.

pub pair_step : (first : Files) (old new : Pair) (event : PairEvent) (ws : List WrittenPacket) → PairStepped old event ws new → IsLinked first old → IsLinked first new
pair_step first old new (AtA event) ws s j = asks first old new event ws s j
pair_step first old new (AtB event) ws s j = serves first old new event ws s j

pair_run : (first : Files) (events : List PairEvent) (old new : Pair) → RunsBy PairStepped old events new → IsLinked first old → IsLinked first new
pair_run first [] old new r j = subst (IsLinked first) (sym r) j
pair_run first (event ∷ events) old new r j = pair_run first events r.0 new r.3 (pair_step first old r.0 event r.1 r.2 j)

pub pair_headline : (s t : LinkSetup) (first : Files) (events : List PairEvent) (old new : Pair) → AreOpposite s t → AreNew s t first old → RunsBy PairStepped old events new → PairHeadline first new
pair_headline s t first events old new o n r = headline first new (pair_run first events old new r (new_pair s t first old o n))
