-- Calls of a node on a link are what happens to it.
use Rattle.std.proofs.Common.{◌≡◌, ℕ, ◌+◌, ◌<◌, refl, sym, ◌∙◌, subst, ap, append_assoc, true, false, List, [], ◌∷◌, ◌++◌, length, map, inl, inr}
use Rattle.std.specs.List.{AllByRecursion}
use Rattle.std.specs.Prelude.{Bool, ◌-◌, Option, Some, None, Result, Ok, Err, set, slice_get}
use Rattle.std.proofs.lemmas.List.{append-nil, map-append}
use Rattle.nsp_link.specs.declared.link.Got.{Got}
use Rattle.nsp_link.specs.declared.link.Got.TheVariants.{AckOnly}
use Rattle.nsp_link.specs.declared.fault.LinkFault.{LinkFault}
use Rattle.nsp_link.specs.Link.{IsSpelling, LinkValue}
use Rattle.nsp_link.specs.Receiving.{Receives}
use Rattle.nsp_link.specs.Sending.{WritesSent, ack_packet_of}
use Rattle.dap_shared.specs.Noted.{NotedServed}
use Rattle.dap_shared.specs.Shared.{SharedServed, SharedValue}
use Rattle.dap_end.specs.declared.fault.EndFault.{EndFault}
use Rattle.dap_end.specs.declared.fault.EndFault.TheVariants as end_fault
use Rattle.dap_end.specs.declared.fault.TakeFault.{TakeFault}
use Rattle.dap_end.specs.declared.fault.TakeFault.TheVariants as take_fault
use Rattle.dap_end.specs.By.{ServedBy, TurnsBy, end_with}
use Rattle.dap_end.specs.By as by
use Rattle.dap_end.specs.Calls.{numbered_packets}
use Rattle.dap_end.specs.Headline.{Arrival, WrittenPacket, written_bytes}
use Rattle.dap_end.specs.Moved.{with_link}
use Rattle.dap_end.specs.Node.{HasPort, NodeLinkValue, NodeValue, OnLink, serves_on, without_notes}
use Rattle.dap_end.specs.Ports.{EndValue, HandsOver, PortValue}
use Rattle.dap_end.specs.Turns.{DidAll, TakesPacket, TookIn, WentOn as WentOnBy, WritesReplies}
use Rattle.dap_end.specs.Writing.{AcknowledgesIf, WroteMore, wants_ack}
use Rattle.dap_end.proofs.ForCallers.{ack_written, wrote_nothing, numbered_bytes}
use Rattle.dap_network.specs.Happening.{WorkedBy, end_of_link, hands_over, rests, serves_one, HappensOn, NodeEvent, NodeRuns, NodeStepped, PacketCame, PassedOn, Continued, WroteAgain, all_came, all_written, came_since, wrote_since}
use Rattle.dap_network.proofs.Sets.{set_again, set_here, set_same}
use Rattle.dap_network.proofs.Traffic.{all_came_more, all_written_more, came_more, of_another, of_it, wrote_more}

-- ---- Runs.

pub runs_join : (xs ys : List NodeEvent) (old mid new : NodeValue) → NodeRuns old xs mid → NodeRuns mid ys new → NodeRuns old (xs ++ ys) new
runs_join [] ys old mid new r q = subst (λ (v : NodeValue). NodeRuns v ys new) r q
runs_join (x ∷ xs) ys old mid new r q = (r.0, r.1, runs_join xs ys r.0 mid new r.2 q)

-- ---- What is kept of all links, without the notes.

-- a link's side without the notes
abbrev plain : NodeLinkValue → EndValue SharedValue
plain v = end_with v.port v.present.shared

-- items of the link were served, and what waited was passed on
abbrev Does : ℕ → NodeLinkValue → NodeLinkValue → Type 0
Does link a b = WorkedBy (SharedServed link) (plain a) (plain b)

-- one item
plain_one : (link : ℕ) (a b : NodeLinkValue) (n : ℕ) → ServedBy (NotedServed link) a b n → ServedBy (SharedServed link) (plain a) (plain b) n
plain_one link a b n s =
    record {
      idle = s.idle;
      one = s.one;
      served = s.served;
      by = record { item = s.by.item; reads = s.by.reads; serves = s.by.serves.shared };
      next = s.next;
      within = s.within;
      port = s.port;
      count = s.count;
    }

plain_posted : (a b : NodeLinkValue) (n : ℕ) → HandsOver a b n → HandsOver (plain a) (plain b) n
plain_posted a b n p = (p.0, ap (λ (v : NodeLinkValue). plain v) p.1, p.2)

one_posted : (link : ℕ) (a b : NodeLinkValue) (n : ℕ) → HandsOver a b n → Does link a b
one_posted link a b n p = hands_over (plain b) n (plain_posted a b n p) rests

turned : (link most : ℕ) (a b : NodeLinkValue) (c : EndValue SharedValue) → TurnsBy (NotedServed link) most a b → WorkedBy (SharedServed link) (plain b) c → WorkedBy (SharedServed link) (plain a) c
turned link most a b c by.no_turn w = w
turned link most a b c (by.one_turn posted mid count n p room s on) w =
    hands_over (plain posted) count (plain_posted a posted count p) (serves_one (plain mid) n (plain_one link posted mid n s) (turned link most mid b c on w))

did : (link most : ℕ) (a b : NodeLinkValue) (r : Result (Unit {0}) EndFault) → DidAll (serves_on link most) a b r → Does link a b
did link most a b (Ok u) d = turned link most a d.0 (plain b) d.2 (one_posted link d.0 b d.1 d.4)
did link most a b (Err (end_fault.Link f)) (mid, on, inl (is, h)) = subst (λ (v : NodeLinkValue). Does link a v) (sym is) (turned link most a mid (plain mid) on rests)
did link most a b (Err (end_fault.Link f)) (mid, on, inr (want, room, p, may)) = turned link most a mid (plain b) on (one_posted link mid b p.0 p.1)
did link most a b (Err (end_fault.Read f)) d = absurd d.2

-- ---- What passed.

pub passed_both : (link : ℕ) (c d : List Arrival) (v w : List WrittenPacket) (xs ys : List NodeEvent) → PassedOn link c v xs → PassedOn link d w ys → PassedOn link (c ++ d) (v ++ w) (xs ++ ys)
passed_both link c d v w xs ys one two =
    record {
      came_here = λ before. came_more link before xs ys ∙ ap (λ (l : List Arrival). came_since link l ys) (one.came_here before) ∙ two.came_here (before ++ c) ∙ append_assoc before c d;
      wrote_here = λ before. wrote_more link before xs ys ∙ ap (λ (l : List WrittenPacket). wrote_since link l ys) (one.wrote_here before) ∙ two.wrote_here (before ++ v) ∙ append_assoc before v w;
      came_elsewhere = λ j apart before. came_more j before xs ys ∙ ap (λ (l : List Arrival). came_since j l ys) (one.came_elsewhere j apart before) ∙ two.came_elsewhere j apart before;
      wrote_elsewhere = λ j apart before. wrote_more j before xs ys ∙ ap (λ (l : List WrittenPacket). wrote_since j l ys) (one.wrote_elsewhere j apart before) ∙ two.wrote_elsewhere j apart before;
      came_all = all_came_more xs ys ∙ ap (λ (l : List (List ℕ)). l ++ all_came ys) one.came_all ∙ ap (λ (l : List (List ℕ)). map (λ (x : Arrival). x.1) c ++ l) two.came_all ∙ sym (map-append (λ (x : Arrival). x.1) c d);
      wrote_all = all_written_more xs ys ∙ ap (λ (l : List WrittenPacket). l ++ all_written ys) one.wrote_all ∙ ap (λ (l : List WrittenPacket). v ++ l) two.wrote_all;
    }

passed_came : (link : ℕ) (c : Arrival) → PassedOn link (c ∷ []) [] (PacketCame link c ∷ [])
passed_came link c =
    record {
      came_here = λ before. of_it link (before ++ c ∷ []) before;
      wrote_here = λ before. sym (append-nil before);
      came_elsewhere = λ j apart before. of_another j link (before ++ c ∷ []) before apart;
      wrote_elsewhere = λ j apart before. refl;
      came_all = refl;
      wrote_all = refl;
    }

passed_went : (link : ℕ) (ws : List WrittenPacket) → PassedOn link [] ws (Continued link ws ∷ [])
passed_went link ws =
    record {
      came_here = λ before. sym (append-nil before);
      wrote_here = λ before. of_it link (before ++ ws) before;
      came_elsewhere = λ j apart before. refl;
      wrote_elsewhere = λ j apart before. of_another j link (before ++ ws) before apart;
      came_all = refl;
      wrote_all = append-nil ws;
    }

passed_again : (link : ℕ) (k : Option ℕ) (w : WrittenPacket) → PassedOn link [] (w ∷ []) (WroteAgain link k w ∷ [])
passed_again link k w =
    record {
      came_here = λ before. sym (append-nil before);
      wrote_here = λ before. of_it link (before ++ w ∷ []) before;
      came_elsewhere = λ j apart before. refl;
      wrote_elsewhere = λ j apart before. of_another j link (before ++ w ∷ []) before apart;
      came_all = refl;
      wrote_all = refl;
    }

bytes_append : (xs ys : List WrittenPacket) → written_bytes (xs ++ ys) ≡ written_bytes xs ++ written_bytes ys
bytes_append xs ys = map-append (λ (w : WrittenPacket). w.bytes) xs ys

-- ---- Calls of a link alone.

module _ (comes : LinkValue → List ℕ → Type 0) where
  -- the event is one of the link, and what comes in it comes so
  abbrev pub IsOn : (link : ℕ) → NodeEvent → Type 0
  IsOn link (PacketCame other c) = (other ≡ link) × comes c.0 c.1
  IsOn link (Continued other wrote) = other ≡ link
  IsOn link (WroteAgain other index w) = other ≡ link
  IsOn link event = ⊥

  -- by some events of the link alone
  abbrev pub HappensHere : (link : ℕ) → NodeValue → List Arrival → List WrittenPacket → NodeValue → Type 0
  HappensHere link old came wrote new = (events : List NodeEvent) × NodeRuns old events new × PassedOn link came wrote events × AllByRecursion (IsOn link) events

  -- ---- Events of a link.

  module _ (link : ℕ) (old : NodeValue) (port : PortValue) (there : HasPort link old port) where
    -- the node with another port
    abbrev moved : PortValue → NodeValue
    moved after = record old { ports = set old.ports link (Some after) }

    came_event : (bytes : List ℕ) (next : LinkValue) (r : Result Got LinkFault) → Receives port.link next bytes r → NodeStepped old (PacketCame link (port.link, bytes)) (moved (with_link port next))
    came_event bytes next r h = record { before = port; after = with_link port next; there = there; steps = (r, next, h, refl, refl, tt, refl); ports = refl }

    went_event : (new : NodeValue) (mid : EndValue SharedValue) (after : PortValue) (packets : List (List ℕ)) → WorkedBy (SharedServed link) (end_of_link port old) mid → WroteMore mid.port after packets → new.noted.shared ≡ mid.present → new.ports ≡ set old.ports link (Some after)
        → NodeStepped old (Continued link (numbered_packets (mid.port.link.sent + 1) mid.port.link.coming.received packets)) new
    went_event new mid after packets on w shared ports =
        record { before = port; after = after; there = there; steps = (mid, packets, on, w, ap (λ (s : SharedValue). end_with after s) shared, refl); ports = ports }

    abbrev ack_of : List ℕ → WrittenPacket
    ack_of bytes = record { bytes = bytes; segment = None; acks = port.link.coming.received }

    ack_event : (bytes : List ℕ) → IsSpelling (ack_packet_of port.link) bytes → NodeStepped old (WroteAgain link None (ack_of bytes)) old
    ack_event bytes s =
        record { before = port; after = port; there = there; steps = (ack_of bytes, tt, (refl, refl, ack_written port.link bytes s), refl, refl, tt); ports = sym (set_same old.ports link (Some port) there) }

    pub ack_here : (bytes : List ℕ) → IsSpelling (ack_packet_of port.link) bytes → HappensHere link old [] (ack_of bytes ∷ []) old
    ack_here bytes s = (WroteAgain link None (ack_of bytes) ∷ [], (old, ack_event bytes s, refl), passed_again link None (ack_of bytes), (refl, tt))

    abbrev pub again_of : ℕ → List ℕ → WrittenPacket
    again_of i bytes = record { bytes = bytes; segment = Some (port.link.acked + 1 + i); acks = port.link.coming.received }

    pub again_here : (i : ℕ) (bytes : List ℕ) → i < port.link.sent - port.link.acked → WritesSent port.link (Some (port.link.acked + 1 + i)) bytes → HappensHere link old [] (again_of i bytes ∷ []) old
    again_here i bytes lt w =
        let step : NodeStepped old (WroteAgain link (Some i) (again_of i bytes)) old = record { before = port; after = port; there = there; steps = (again_of i bytes, lt, (refl, refl, w), refl, refl, tt); ports = sym (set_same old.ports link (Some port) there) } in
        (WroteAgain link (Some i) (again_of i bytes) ∷ [], (old, step, refl), passed_again link (Some i) (again_of i bytes), (refl, tt))

  -- ---- Going on.

  -- by some events of the link, in which nothing came
  abbrev Answers : (link : ℕ) (old new : NodeValue) (out all : List (List ℕ)) → Type 0
  Answers link old new out all = (wrote : List WrittenPacket) × HappensHere link old [] wrote new × (all ≡ out ++ written_bytes wrote)

  behind : (out all packets : List (List ℕ)) (k a : ℕ) → all ≡ out ++ packets → all ≡ out ++ written_bytes (numbered_packets k a packets)
  behind out all packets k a e = e ∙ ap (λ (l : List (List ℕ)). out ++ l) (sym (numbered_bytes k a packets))

  module _ (link most : ℕ) (old new : NodeValue) (a b : NodeLinkValue) (there : HasPort link old a.port) (shared : old.noted.shared ≡ a.present.shared) (ports : new.ports ≡ set old.ports link (Some b.port)) (noted : new.noted ≡ b.present) where
    worked : (mid : NodeLinkValue) (r : Result (Unit {0}) EndFault) → DidAll (serves_on link most) a mid r → WorkedBy (SharedServed link) (end_of_link a.port old) (end_with mid.port mid.present.shared)
    worked mid r d = subst (λ (s : SharedValue). WorkedBy (SharedServed link) (end_with a.port s) (end_with mid.port mid.present.shared)) (sym shared) (did link most a mid r d)

    -- all that was done, and the packets of the next segments
    one_event : (mid : NodeLinkValue) (r : Result (Unit {0}) EndFault) (packets : List (List ℕ)) → DidAll (serves_on link most) a mid r → b ≡ record mid { port = b.port } → WroteMore mid.port b.port packets
        → NodeStepped old (Continued link (numbered_packets (mid.port.link.sent + 1) mid.port.link.coming.received packets)) new
    one_event mid r packets d rest w =
        let is : new.noted.shared ≡ mid.present.shared = ap (λ n. n.shared) noted ∙ ap (λ (v : NodeLinkValue). v.present.shared) rest in
        went_event link old a.port there new (end_with mid.port mid.present.shared) b.port packets (worked mid r d) w is ports

    here : HasPort link new b.port
    here = ap (λ (l : List (Option PortValue)). slice_get l link) ports ∙ set_here old.ports link (Some a.port) (Some b.port) there

    only : (out all packets : List (List ℕ)) (mid : NodeLinkValue) (r : Result (Unit {0}) EndFault) → DidAll (serves_on link most) a mid r → b ≡ record mid { port = b.port } → WroteMore mid.port b.port packets → all ≡ out ++ packets → Answers link old new out all
    only out all packets mid r d rest w is =
        let ws = numbered_packets (mid.port.link.sent + 1) mid.port.link.coming.received packets in
        (ws, (Continued link ws ∷ [], (new, one_event mid r packets d rest w, refl), passed_went link ws, (refl, tt)), behind out all packets _ _ is)

    with_ack : (out all packets written : List (List ℕ)) (mid : NodeLinkValue) (wants : Bool) → DidAll (serves_on link most) a mid (Ok tt) → b ≡ record mid { port = b.port } → WroteMore mid.port b.port written → all ≡ out ++ packets → AcknowledgesIf b.port wants written packets
        → Answers link old new out all
    with_ack out all packets written mid false d rest w is ack = only out all written mid (Ok tt) d rest w (is ∙ ap (λ (l : List (List ℕ)). out ++ l) ack)
    with_ack out all packets written mid true d rest w is ack =
        let ws = numbered_packets (mid.port.link.sent + 1) mid.port.link.coming.received written in
        let last = ack_here link new b.port here ack.0 ack.2 in
        let w2 = ack_of link new b.port here ack.0 in
        let all_is : all ≡ out ++ written_bytes (ws ++ w2 ∷ []) = is ∙ ap (λ (l : List (List ℕ)). out ++ l) (ack.1 ∙ ap (λ (l : List (List ℕ)). l ++ ack.0 ∷ []) (sym (numbered_bytes _ _ written)) ∙ sym (bytes_append ws (w2 ∷ []))) in (
          ws ++ w2 ∷ [],
          (Continued link ws ∷ last.0, (new, one_event mid (Ok tt) written d rest w, last.1), passed_both link [] [] ws (w2 ∷ []) (Continued link ws ∷ []) last.0 (passed_went link ws) last.2, (refl, last.3)),
          all_is,
        )

    pub replies : (got : Got) (out all : List (List ℕ)) (r : Result (Unit {0}) EndFault) → WritesReplies (serves_on link most) a b got out all r → Answers link old new out all
    replies got out all (Ok u) w =
        let (packets, is, h) = w.wrote in with_ack out all packets h.0 w.mid (wants_ack got (length h.0)) w.done w.rest h.1 is h.3
    replies got out all (Err f) (inl h) = only out all [] b (Err f) h.0 refl (wrote_nothing b.port) (h.1 ∙ sym (append-nil out))
    replies got out all (Err f) (inr h) = let w = h.1 in only out all w.wrote.0 w.mid (Ok tt) w.done w.rest w.wrote.2.0 w.wrote.1

  -- ---- Calls.

  pub went_here : (link most : ℕ) (old new : NodeValue) (out all : List (List ℕ)) (r : Result (Unit {0}) EndFault) → OnLink link (λ before after. WentOnBy (serves_on link most) before after out all r) old new → (wrote : List WrittenPacket) × HappensHere link old [] wrote new × (all ≡ out ++ written_bytes wrote)
  went_here link most old new out all r on =
      replies link most old new (end_with on.before (without_notes old.noted)) (end_with on.after new.noted) on.there refl on.ports refl AckOnly out all r on.does

  module _ (link most : ℕ) (old new : NodeValue) (bytes : List ℕ) (out all : List (List ℕ)) (before after : PortValue) (there : HasPort link old before) (ports : new.ports ≡ set old.ports link (Some after)) (brought : comes before.link bytes) where
    abbrev a : NodeLinkValue
    a = end_with before (without_notes old.noted)

    abbrev b : NodeLinkValue
    b = end_with after new.noted

    abbrev Took : Type 0
    Took = (wrote : List WrittenPacket) × HappensHere link old ((before.link, bytes) ∷ []) wrote new × (all ≡ out ++ written_bytes wrote)

    -- the packet came, and then the link went on
    came_then : (mid : NodeLinkValue) (got : Got) (r : Result (Unit {0}) EndFault) → TookIn a mid bytes (Ok got) → WritesReplies (serves_on link most) mid b got out all r → Took
    came_then mid got r t w =
        let port = with_link before mid.port.link in
        let one = came_event link old before there bytes mid.port.link (Ok got) t.receives in
        let on = moved link old before there port in
        let is : mid ≡ end_with port (without_notes old.noted) = t.rest in
        let w2 : WritesReplies (serves_on link most) (end_with port (without_notes old.noted)) b got out all r = subst (λ (v : NodeLinkValue). WritesReplies (serves_on link most) v b got out all r) is w in
        let rest = replies link most on new (end_with port (without_notes old.noted)) b (set_here old.ports link (Some before) (Some port) there) refl (ports ∙ sym (set_again old.ports link (Some port) (Some after))) refl got out all r w2 in
        let c : Arrival = (before.link, bytes) in
        (rest.0, (PacketCame link c ∷ rest.1.0, (on, one, rest.1.1), passed_both link (c ∷ []) [] [] rest.0 (PacketCame link c ∷ []) rest.1.0 (passed_came link c) rest.1.2, ((refl, brought), rest.1.3)), rest.2)

    -- the packet was refused, and older notes were forgotten
    came_only : (f : LinkFault) → TookIn a b bytes (Err f) → all ≡ out → Took
    came_only f t none =
        let port = with_link before after.link in
        let one = came_event link old before there bytes after.link (Err f) t.receives in
        let on = moved link old before there port in
        let here : HasPort link on port = set_here old.ports link (Some before) (Some port) there in
        let is : b ≡ end_with port (without_notes old.noted) = t.rest in
        let to : after ≡ port = ap (λ (v : NodeLinkValue). v.port) is in
        let two : NodeStepped on (Continued link []) new =
        went_event link on port here new (end_with port old.noted.shared) port [] rests (wrote_nothing port) (ap (λ (v : NodeLinkValue). v.present.shared) is) (ports ∙ ap (λ (p : PortValue). set old.ports link (Some p)) to ∙ sym (set_again old.ports link (Some port) (Some port))) in
        let c : Arrival = (before.link, bytes) in
        ([], (PacketCame link c ∷ Continued link [] ∷ [], (on, one, (new, two, refl)), passed_both link (c ∷ []) [] [] [] (PacketCame link c ∷ []) (Continued link [] ∷ []) (passed_came link c) (passed_went link []), ((refl, brought), (refl, tt))), none ∙ sym (append-nil out))

    took : (r : Result Got TakeFault) → TakesPacket (serves_on link most) a b bytes out all r → Took
    took (Ok got) (mid, t, w) = came_then mid got (Ok tt) t w
    took (Err (take_fault.Refused f)) t = came_only f t.0 t.1
    took (Err (take_fault.Unfinished got f)) (mid, t, w) = came_then mid got (Err f) t w

  pub take_here : (link most : ℕ) (old new : NodeValue) (bytes : List ℕ) (out all : List (List ℕ)) (r : Result Got TakeFault) → (on : OnLink link (λ before after. TakesPacket (serves_on link most) before after bytes out all r) old new) → comes on.before.link bytes
      → (wrote : List WrittenPacket) × HappensHere link old ((on.before.link, bytes) ∷ []) wrote new × (all ≡ out ++ written_bytes wrote)
  take_here link most old new bytes out all r on brought = took link most old new bytes out all on.before on.after on.there on.ports brought r on.does

-- ---- Calls, whatever comes.

-- anything may come
abbrev pub Anything : LinkValue → List ℕ → Type 0
Anything v bytes = Unit {0}

pub went_happens : (link most : ℕ) (old new : NodeValue) (out all : List (List ℕ)) (r : Result (Unit {0}) EndFault) → OnLink link (λ before after. WentOnBy (serves_on link most) before after out all r) old new
    → (wrote : List WrittenPacket) × HappensOn link old [] wrote new × (all ≡ out ++ written_bytes wrote)
went_happens link most old new out all r on = let h = went_here Anything link most old new out all r on in (h.0, (h.1.0, h.1.1, h.1.2), h.2)

pub take_happens : (link most : ℕ) (old new : NodeValue) (bytes : List ℕ) (out all : List (List ℕ)) (r : Result Got TakeFault) → (on : OnLink link (λ before after. TakesPacket (serves_on link most) before after bytes out all r) old new)
    → (wrote : List WrittenPacket) × HappensOn link old ((on.before.link, bytes) ∷ []) wrote new × (all ≡ out ++ written_bytes wrote)
take_happens link most old new bytes out all r on = let h = take_here Anything link most old new bytes out all r on tt in (h.0, (h.1.0, h.1.1, h.1.2), h.2)

pub ack_happens : (link : ℕ) (old : NodeValue) (port : PortValue) (there : HasPort link old port) (bytes : List ℕ) → IsSpelling (ack_packet_of port.link) bytes → HappensOn link old [] (ack_of Anything link old port there bytes ∷ []) old
ack_happens link old port there bytes s = let h = ack_here Anything link old port there bytes s in (h.0, h.1, h.2)

pub again_happens : (link : ℕ) (old : NodeValue) (port : PortValue) (there : HasPort link old port) (i : ℕ) (bytes : List ℕ) → i < port.link.sent - port.link.acked → WritesSent port.link (Some (port.link.acked + 1 + i)) bytes → HappensOn link old [] (again_of Anything link old port there i bytes ∷ []) old
again_happens link old port there i bytes lt w = let h = again_here Anything link old port there i bytes lt w in (h.0, h.1, h.2)
