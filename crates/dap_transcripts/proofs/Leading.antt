-- A line of the server is some events of a network.
use Rattle.std.proofs.Common.{◌≡◌, ℕ, ◌+◌, ◌≤◌, arith, refl, sym, ◌∙◌, subst, ap, Bool, true, false, List, [], ◌∷◌, ◌++◌, length, append_assoc, inl, inr}
use Rattle.std.specs.Prelude.{◌⊎◌, ◌-◌, ◌==◌, if◌then◌else◌, MatchBool, MatchOption, MatchResult, Option, Some, None, Result, Ok, Err, option_map, slice_get}
use Rattle.std.specs.List.{position}
use Rattle.std.proofs.lemmas.Bool.{cases_eq, eq-eqb, ne_eqb}
use Rattle.std.proofs.lemmas.List.{append-nil, map-append}
use Rattle.nsp_link.specs.declared.link.Got.{Got}
use Rattle.nsp_link.specs.declared.link.LinkSetup.{LinkSetup}
use Rattle.nsp_link.specs.declared.fault.LinkFault.{LinkFault}
use Rattle.nsp_link.specs.Link.{IsSpelling}
use Rattle.nsp_link.specs.Sending.{ack_packet_of}
use Rattle.rec_file.specs.declared.picks.Rights.{Rights}
use Rattle.dap_accessed.specs.declared.asked.Asked.{Asked}
use Rattle.dap_accessed.specs.Setup.{all_rights}
use Rattle.dap_end.specs.declared.fault.EndFault.{EndFault}
use Rattle.dap_end.specs.declared.fault.TakeFault.{TakeFault}
use Rattle.dap_end.specs.Headline.{WrittenPacket, written_bytes}
use Rattle.dap_end.specs.Joined.{IsBrought}
use Rattle.dap_end.specs.Node.{HasPort, NodeValue, OnLink, has_local, is_free_link, serves_on}
use Rattle.dap_end.specs.Ports.{PortValue}
use Rattle.dap_end.specs.Turns.{TakesPacket, WentOn}
use Rattle.dap_end.specs.Writing.{AreSegments}
use Rattle.dap_text.specs.declared.fault.FileFault.{FileFault}
use Rattle.dap_text.specs.declared.fault.FileFault.TheVariants as file_fault
use Rattle.dap_text.specs.declared.filed.FileLine.{FileLine}
use Rattle.dap_text.specs.declared.filed.RecordLine.{RecordLine}
use Rattle.dap_text.specs.Kept.{LineAsks}
use Rattle.dap_network.specs.Calls.{Leads}
use Rattle.dap_network.specs.Happening.{GotFile, GotRecord, LostFile, LostLink, NodeEvent, NodeStepped, all_written}
use Rattle.dap_network.specs.Network.{AtNode, Network, Peer, PeersStepped, client_on, peers_sent, peer_sent}
use Rattle.dap_network.proofs.ForCallers.{ack_leads, after_writing, comes_if, go_on_leads, leads_on, resend_leads, set_here, set_other, take_leads, there_is}
use Rattle.linewise.specs.declared.talking.Became.{Became}
use Rattle.linewise.specs.declared.talking.Became.TheVariants.{Done}
use Rattle.dap_live.specs.declared.node.Node.{Node}
use Rattle.dap_live.specs.declared.node_orders.NodeOrder.{NodeOrder}
use Rattle.dap_live.specs.declared.node_orders.NodeOrder.TheVariants as order
use Rattle.dap_live.specs.declared.orders.Between.{Between}
use Rattle.dap_live.specs.Both.{LeavesEnd}
use Rattle.dap_live.specs.Node.{AddsAsked, AddsLink, AddsRecordTo, BeginsOn, DropsFile, FindsLink, GoesOnWith, NodeDoes, OnMeant, RefusesLink, RenewsOn, ResendsOn, Says, TakesOn, TakesPacketBy, about, before_line, is_alone, is_work_left_at, meant, one_link, NoLink}
use Rattle.dap_live.specs.NodeOrders.{node_order_of}
use Rattle.dap_live.specs.Orders.{most_beside, setup_beside}
use Rattle.dap_transcripts.specs.Programs.{BeginsSome, BringsIn, WroteFor}
use Rattle.dap_live.specs.Texts.{LineAnswer, done_said, link_refusal, locked_text, packet_text, packets_text}
use Rattle.nsp_link.specs.declared.fault.LinkFault.TheVariants as fault
use Rattle.dap_msg.specs.Codes.{reasons, stscode}
use Rattle.dap_transcripts.proofs.Lines.{done_speaks, found_within, good_asked, no_link_quiet, none_wrote, taken_speaks}
use Rattle.dap_transcripts.proofs.Speaking.{Speaks, speaks_add, speaks_both, speaks_files, speaks_hex, speaks_link, speaks_locked, speaks_none, speaks_packets, speaks_remove, speaks_status}

-- ---- What is written for one link.

if_none : (b : Bool) → (if b then [] else []) ≡ (let none : List WrittenPacket = [] in none)
if_none true = refl
if_none false = refl

if_both : {A : Type 0} (b : Bool) (xs ys : List A) → (if b then xs else []) ++ (if b then ys else []) ≡ (if b then xs ++ ys else [])
if_both true xs ys = refl
if_both false xs ys = refl

-- a peer that is sent these packets
abbrev sent : Peer → List WrittenPacket → Option (Option Peer)
sent peer wrote = Some (Some (record peer { from_node = peer.from_node ++ wrote }))

sent_none : (peer : Peer) (wrote : List WrittenPacket) → wrote ≡ [] → Some (Some peer) ≡ sent peer wrote
sent_none peer wrote none =
    ap (λ (l : List WrittenPacket). Some (Some (record peer { from_node = l }))) (sym (append-nil peer.from_node)) ∙ ap (sent peer) (sym none)

-- The network goes on to one with this node, in which no client moved, and these packets were written for the link.
pub record Led (link : ℕ) (net : Network) (node : NodeValue) (wrote : List WrittenPacket) : Type 0 where
  pub then_net : Network
  pub leads : Leads net then_net
  pub is : then_net.node ≡ node
  pub wrote_so : WroteFor link wrote net then_net

led_none : (link : ℕ) (net : Network) (node : NodeValue) → node ≡ net.node → Led link net node []
led_none link net node e =
    record {
      then_net = net;
      leads = ([], refl);
      is = sym e;
      wrote_so = λ j peer at. at ∙ sent_none peer (if j == link then [] else []) (if_none (j == link));
    }

-- nothing was written
led_same : (link : ℕ) (net : Network) (node : NodeValue) → Leads net (record { node = node; peers = net.peers }) → Led link net node []
led_same link net node l =
    record {
      then_net = record { node = node; peers = net.peers };
      leads = l;
      is = refl;
      wrote_so = λ j peer at. at ∙ sent_none peer (if j == link then [] else []) (if_none (j == link));
    }

one_step : (net : Network) (node : NodeValue) (event : NodeEvent) → NodeStepped net.node event node → PeersStepped net.peers event net.peers → Led 0 net node []
one_step net node event s q = led_same 0 net node (AtNode event ∷ [], (record { node = node; peers = net.peers }, all_written (event ∷ []), (s, q, refl), refl))

-- packets were written on the link
led_sent : (link : ℕ) (net : Network) (node : NodeValue) (wrote : List WrittenPacket) → Leads net (after_writing net node link wrote) → Led link net node wrote
led_sent link net node wrote l =
    let client = option_map (peer_sent wrote) (client_on link net.peers) in
    let peers = peers_sent link wrote net.peers in
    record {
      then_net = after_writing net node link wrote;
      leads = l;
      is = refl;
      wrote_so = λ j peer there. elim (cases_eq j link) [
        | inl is ↦
            let at : slice_get net.peers link ≡ Some (Some peer) = ap (λ (k : ℕ). slice_get net.peers k) (sym is) ∙ there in (
            ap (λ (k : ℕ). slice_get peers k) is ∙ set_here net.peers link (Some peer) client at
            ∙ ap (λ (o : Option Peer). Some (option_map (peer_sent wrote) o)) (there_is net.peers link (Some peer) None at)
            ∙ ap (λ (b : Bool). sent peer (if b then wrote else [])) (sym (eq-eqb j link is))
            )
        | inr apart ↦
            set_other net.peers link j client apart ∙ there ∙ sent_none peer (if j == link then wrote else []) (ap (λ (b : Bool). if b then wrote else []) (ne_eqb j link apart))
      ];
    }

led_on : (link : ℕ) (net : Network) (mid new : NodeValue) (first more : List WrittenPacket) → (one : Led link net mid first) → Led link one.then_net new more → Led link net new (first ++ more)
led_on link net mid new first more one two =
    record {
      then_net = two.then_net;
      leads = leads_on net one.then_net two.then_net one.leads two.leads;
      is = two.is;
      wrote_so = λ j peer at. (let xs = if j == link then first else [] in
          let ys = if j == link then more else [] in
          two.wrote_so j (record peer { from_node = peer.from_node ++ xs }) (one.wrote_so j peer at)
          ∙ ap (λ (l : List WrittenPacket). Some (Some (record peer { from_node = l }))) (append_assoc peer.from_node xs ys ∙ ap (λ (l : List WrittenPacket). peer.from_node ++ l) (if_both (j == link) first more)));
    }

-- ---- Calls on a link.

-- what was written, and the network then
abbrev LedBy : (link : ℕ) → Network → NodeValue → (out all : List (List ℕ)) → Type 0
LedBy link net node out all = (wrote : List WrittenPacket) × Led link net node wrote × (all ≡ out ++ written_bytes wrote)

module _ (net : Network) (link : ℕ) where
  take_by : (most : ℕ) (node : NodeValue) (bytes : List ℕ) (out all : List (List ℕ)) (r : Result Got TakeFault) → ((peer : Peer) → slice_get net.peers link ≡ Some (Some peer) → (p : PortValue) → HasPort link net.node p → IsBrought peer.from_peer p.link bytes)
      → OnLink link (λ before after. TakesPacket (serves_on link most) before after bytes out all r) net.node node → LedBy link net node out all
  take_by most node bytes out all r brings on =
      let t = take_leads link net most node bytes out all r (λ p there. comes_if link net.peers p.link bytes (λ peer at. brings peer at p there)) on in (t.0, led_sent link net node t.0 t.1, t.2)

  go : (most : ℕ) (node : NodeValue) (out all : List (List ℕ)) (r : Result (Unit {0}) EndFault) → OnLink link (λ before after. WentOn (serves_on link most) before after out all r) net.node node → LedBy link net node out all
  go most node out all r on = let t = go_on_leads link net most node out all r on in (t.0, led_sent link net node t.0 t.1, t.2)

-- each segment from an index on
again_from : (net : Network) (link : ℕ) (p : PortValue) (i : ℕ) (packets : List (List ℕ)) → HasPort link net.node p → AreSegments p.link (p.link.acked + 1 + i) packets → i + length packets ≤ p.link.sent - p.link.acked
    → LedBy link net net.node [] packets
again_from net link p i [] at h lt = ([], led_none link net net.node refl, refl)
again_from net link p i (bytes ∷ packets) at h lt =
    let w : WrittenPacket = record { bytes = bytes; segment = Some (p.link.acked + 1 + i); acks = p.link.coming.received } in
    let one = led_sent link net net.node (w ∷ []) (resend_leads link net p i bytes at (omega (arith, lt)) h.0) in
    let on = one.then_net in
    let rest : LedBy link on on.node [] packets = again_from on link p (i + 1) packets (subst (λ (v : NodeValue). HasPort link v p) (sym one.is) at)
    (subst (λ (k : ℕ). AreSegments p.link k packets) (let e : (p.link.acked + 1 + i) + 1 ≡ p.link.acked + 1 + (i + 1) = omega arith in e) h.1) (omega (arith, lt)) in
    (w ∷ rest.0, subst (λ (v : NodeValue). Led link net v (w ∷ rest.0)) one.is (led_on link net net.node on.node (w ∷ []) rest.0 one rest.1), ap (λ (l : List (List ℕ)). bytes ∷ l) rest.2)

-- ---- Lines.

module _ (net : Network) (old new : Node) (same : net.node ≡ old.node) where
  -- the network then, and the packets that the text says; or a link begins
  abbrev pub Goes : List ℕ → Type 0
  Goes text = ((link : ℕ) × (wrote : List WrittenPacket) × Led link net new.node wrote × Speaks text (written_bytes wrote)) ⊎ BeginsSome old new

  back : (P : NodeValue → Type 0) → P old.node → P net.node
  back P h = subst P (sym same) h

  quiet : (text : List ℕ) → Speaks text [] → new.node ≡ old.node → Goes text
  quiet text s e = inl (0, [], led_none 0 net new.node (e ∙ sym same), s)

  one_led : (text : List ℕ) → Speaks text [] → Led 0 net new.node [] → Goes text
  one_led text s l = inl (0, [], l, s)

  takes : (link : ℕ) (bytes text : List ℕ) (became : Became) → TakesOn link (before_line old) bytes new text became
      → ((peer : Peer) → slice_get net.peers link ≡ Some (Some peer) → (p : PortValue) → HasPort link old.node p → IsBrought peer.from_peer p.link bytes) → Goes text
  takes link bytes text became x brings =
      let on = back (λ v. OnLink link (λ before after. TakesPacket (serves_on link old.most_waiting) before after bytes [] x.packets x.taken) v new.node) x.took in
      let t = take_by net link old.most_waiting new.node bytes [] x.packets x.taken (λ peer at p there. brings peer at p (subst (λ (v : NodeValue). HasPort link v p) same there)) on in
      let says : Speaks text x.packets =
      subst (λ (l : List ℕ). Speaks l x.packets) (sym x.says)
      (taken_speaks x.taken (locked_text new.node.noted.locked) x.packets (speaks_locked new.node.noted.locked) (none_wrote (serves_on link old.most_waiting) _ _ bytes x.packets x.taken x.took.does)) in
      inl (link, t.0, t.1, subst (Speaks text) t.2 says)

  goes : (link : ℕ) (front text : List ℕ) (became : Became) → GoesOnWith link (before_line old) front new text became
      → (more : List ℕ) × (text ≡ front ++ more) × (wrote : List WrittenPacket) × Led link net new.node wrote × Speaks more (written_bytes wrote)
  goes link front text became g =
      let more = (done_said (locked_text new.node.noted.locked) g.packets g.gone).0 in
      let t = go net link old.most_waiting new.node [] g.packets g.gone (back (λ v. OnLink link (λ before after. WentOn (serves_on link old.most_waiting) before after [] g.packets g.gone) v new.node) g.went) in
      (more, g.says, t.0, t.1, subst (Speaks more) t.2 (done_speaks (locked_text new.node.noted.locked) g.packets g.gone (speaks_locked new.node.noted.locked)))

  failed : (link : ℕ) (text : List ℕ) (became : Became) → LeavesEnd Done (about link (before_line old)) new became → text ≡ (link_refusal fault.Failed).0 → Goes text
  failed link text became l e = quiet text (subst (λ (t : List ℕ). Speaks t []) (sym e) (speaks_link fault.Failed)) (ap (λ (n : Node). n.node) l.0)

-- the segments were written again, and then
module _ (net : Network) (old new : Node) (same : net.node ≡ old.node) where
  abbrev pub Ends : List ℕ → Type 0
  Ends text = Goes net old new same text

  pub still : (text : List ℕ) → Speaks text [] → new.node ≡ old.node → Ends text
  still text s e = quiet net old new same text s e

  resends_by : (link : ℕ) (packets : List (List ℕ)) (text : List ℕ) (became : Became) (left : Bool) → LedBy link net net.node [] packets
      → MatchBool left (GoesOnWith link (before_line old) (packets_text packets) new text became) (Says (packets_text packets, Done) (about link (before_line old)) new text became) → Ends text
  resends_by link packets text became true (first, one, is) g =
      let on = one.then_net in
      let rest = goes on old new (one.is ∙ same) link (packets_text packets) text became g in
      let says : Speaks (packets_text packets ++ rest.0) (written_bytes first ++ written_bytes rest.2) =
      speaks_both (packets_text packets) rest.0 (written_bytes first) (written_bytes rest.2) (subst (Speaks (packets_text packets)) is (speaks_packets packets)) rest.4 in
      inl (
        link,
        first ++ rest.2,
        led_on link net net.node new.node first rest.2 one rest.3,
        subst (λ (t : List ℕ). Speaks t (written_bytes (first ++ rest.2))) (sym rest.1) (subst (Speaks (packets_text packets ++ rest.0)) (sym (map-append (λ (w : WrittenPacket). w.bytes) first rest.2)) says),
      )
  resends_by link packets text became false (first, one, is) g =
      inl (
        link,
        first,
        subst (λ (v : NodeValue). Led link net v first) (same ∙ sym (ap (λ (n : Node). n.node) g.0)) one,
        subst (λ (t : List ℕ). Speaks t (written_bytes first)) (sym g.1) (subst (Speaks (packets_text packets)) is (speaks_packets packets)),
      )

  resends : (link : ℕ) (p : PortValue) (text : List ℕ) (became : Became) (failing : Bool) → HasPort link old.node p
      → MatchBool failing (LeavesEnd Done (about link (before_line old)) new became × (text ≡ (link_refusal fault.Failed).0)) (ResendsOn link p (before_line old) new text became) → Ends text
  resends link p text became true at h = failed net old new same link text became h.0 h.1
  resends link p text became false at (packets, a, g) =
      resends_by link packets text became (is_work_left_at old.most_waiting p)
      (again_from net link p 0 packets (back net old new same (λ v. HasPort link v p) at) (subst (λ (k : ℕ). AreSegments p.link k packets) (let e : p.link.acked + 1 ≡ p.link.acked + 1 + 0 = omega arith in e) a.0) (let n = a.1 in omega (arith, n))) g

  acks : (link : ℕ) (p : PortValue) (text : List ℕ) (became : Became) (failing : Bool) → HasPort link old.node p → LeavesEnd Done (about link (before_line old)) new became
      → MatchBool failing (Unit {0} × (text ≡ (link_refusal fault.Failed).0)) ((bytes : List ℕ) × IsSpelling (ack_packet_of p.link) bytes × (text ≡ packet_text bytes)) → Ends text
  acks link p text became true at l h = failed net old new same link text became l h.1
  acks link p text became false at l h =
      let there = back net old new same (λ v. HasPort link v p) at in
      let w : WrittenPacket = record { bytes = h.0; segment = None; acks = p.link.coming.received } in
      inl (link, w ∷ [], subst (λ (v : NodeValue). Led link net v (w ∷ [])) (same ∙ sym (ap (λ (n : Node). n.node) l.0)) (led_sent link net net.node (w ∷ []) (ack_leads link net p h.0 there h.1)), subst (λ (t : List ℕ). Speaks t (h.0 ∷ [])) (sym h.2) (speaks_hex h.0))

  refuses : (f : LinkFault) (text : List ℕ) (became : Became) → RefusesLink f (before_line old) new text became → Ends text
  refuses f text became r = still text (subst (λ (t : List ℕ). Speaks t []) (sym r.1) (speaks_link f)) (ap (λ (n : Node). n.node) r.0)

  meant_by : (link : Option ℕ) (Does : ℕ → Type 0) (text : List ℕ) (became : Became) → OnMeant link Does (before_line old) new text became → ((i : ℕ) → Does i → Ends text) → Ends text
  meant_by None Does text became h f = refuses fault.WrongLink text became h
  meant_by (Some link) Does text became h f = f link h

  found_by : (found : Result ℕ LinkFault) (bytes text : List ℕ) (became : Became) → FindsLink old.node.ports bytes found → MatchResult found (λ link. TakesOn link (before_line old) bytes new text became) (λ f. RefusesLink f (before_line old) new text became)
      → ((link : ℕ) → FindsLink old.node.ports bytes (Ok link) → (peer : Peer) → slice_get net.peers link ≡ Some (Some peer) → (p : PortValue) → HasPort link old.node p → IsBrought peer.from_peer p.link bytes) → Ends text
  found_by (Ok link) bytes text became is h brings = takes net old new same link bytes text became h (brings link is)
  found_by (Err f) bytes text became is h brings = refuses f text became h

  packet_by : (one : Option ℕ) (line bytes text : List ℕ) (became : Became) → one_link old.node.ports ≡ one → MatchOption one (TakesPacketBy (before_line old) bytes new text became) (λ link. TakesOn link (before_line old) bytes new text became)
      → node_order_of (is_alone old.node) line ≡ Some (order.Packet bytes) → BringsIn net old line → Ends text
  packet_by None line bytes text became e h is brings = found_by h.0 bytes text became h.1 h.2 (λ link found peer at p there. brings link bytes peer p (is, inr (e, found)) at there)
  packet_by (Some link) line bytes text became e h is brings = takes net old new same link bytes text became h (λ peer at p there. brings link bytes peer p (is, inl e) at there)

  -- ---- Links and files.

  begins : (base : Node) (link : ℕ) (setup : LinkSetup) (most : Rights) (text : List ℕ) (became : Became) → base.node ≡ old.node → BeginsOn link setup most base new text became → Ends text
  begins base link setup most text became e (inl h) = inr (base, link, setup, most, e, h.0)
  begins base link setup most text became e (inr h) = still text (subst (λ (t : List ℕ). Speaks t []) (sym h.2.1) (speaks_link h.0)) (ap (λ (n : Node). n.node) h.2.0 ∙ e)

  adds : (free : Option ℕ) (setup : LinkSetup) (most : Rights) (text : List ℕ) (became : Became)
      → MatchOption free ((said : LineAnswer) × NoLink setup said × Says said (before_line old) new text became) (λ link. BeginsOn link setup most (before_line old) new text became) → Ends text
  adds None setup most text became h = still text (subst (λ (t : List ℕ). Speaks t []) (sym h.2.1) (no_link_quiet setup h.0 h.1)) (ap (λ (n : Node). n.node) h.2.0)
  adds (Some link) setup most text became h = begins (before_line old) link setup most text became refl h

  renews : (link : ℕ) (anew : Option Between) (text : List ℕ) (became : Became) → RenewsOn link anew (before_line old) new text became → Ends text
  renews link anew text became h = begins (about link (before_line old)) link _ _ text became refl h.2

  new_by : (there : Option ℕ) (b : Between) (text : List ℕ) (became : Became)
      → MatchOption there (AddsLink (setup_beside old.usual b) (most_beside all_rights b) (before_line old) new text became) (λ link. RenewsOn link (Some b) (before_line old) new text became) → Ends text
  new_by None b text became h = adds (position is_free_link old.node.ports) (setup_beside old.usual b) (most_beside all_rights b) text became h
  new_by (Some link) b text became h = renews link (Some b) text became h

  -- an event of the node, in which no packet came or was written
  one_event : (event : NodeEvent) (text : List ℕ) → text ≡ [] → NodeStepped old.node event new.node → PeersStepped net.peers event net.peers → Ends text
  one_event event text none s q =
      one_led net old new same text (subst (λ (t : List ℕ). Speaks t []) (sym none) speaks_none)
      (one_step net new.node event (subst (λ (v : NodeValue). NodeStepped v event new.node) (sym same) s) q)

  file_by : (file : FileLine) (asks : Result Asked FileFault) (text : List ℕ) (became : Became) → LineAsks file asks
      → AddsAsked (before_line old) file.name asks new text became → Ends text
  file_by file (Ok asked) text became asks (inl h) = one_event (GotFile file.name asked) text h.1 (good_asked file asked asks, h.0.first, h.0.given.given, h.0.given.ports) refl
  file_by file (Ok asked) text became asks (inr h) = still text (subst (λ (t : List ℕ). Speaks t []) (sym h.3) (speaks_add h.0)) (ap (λ (n : Node). n.node) h.2)
  file_by file (Err file_fault.BadKept) text became asks h = still text (subst (λ (t : List ℕ). Speaks t []) (sym h.1) speaks_none) (ap (λ (n : Node). n.node) h.0)
  file_by file (Err file_fault.BadAttributes) text became asks h =
      still text (subst (λ (t : List ℕ). Speaks t []) (sym h.1) (speaks_status stscode.access_refused reasons.bad_attributes)) (ap (λ (n : Node). n.node) h.0)
  file_by file (Err file_fault.NoMemory) text became asks h = absurd asks

  records : (r : RecordLine) (text : List ℕ) (became : Became) → AddsRecordTo (before_line old) r new text became → Ends text
  records r text became (inl h) =
      let g = h.0.given in
      let v = old.node.noted.shared in one_event (GotRecord g.0 r.number r.body) text h.1 (found_within v.setup.names h.0.name v.files g.0 g.1, g.2.0, g.2.1.given, g.2.1.ports) refl
  records r text became (inr h) = still text (subst (λ (t : List ℕ). Speaks t []) (sym h.3) (speaks_add h.0)) (ap (λ (n : Node). n.node) h.2)

  drops : (name text : List ℕ) (became : Became) → DropsFile (before_line old) name new text became → Ends text
  drops name text became (inl h) = one_event (LostFile h.0.drops.0) text h.1 (h.0.drops.2, h.0.ports) refl
  drops name text became (inr h) = still text (subst (λ (t : List ℕ). Speaks t []) (sym h.3) (speaks_remove h.0)) (ap (λ (n : Node). n.node) h.2)

  -- ---- Every order.

  pub order_leads : (o : NodeOrder) (line text : List ℕ) (became : Became) → node_order_of (is_alone old.node) line ≡ Some o → BringsIn net old line → NodeDoes (before_line old) o new text became → Ends text
  order_leads (order.Packet bytes) line text became is brings h = packet_by (one_link old.node.ports) line bytes text became refl h is brings
  order_leads (order.Resend local) line text became is brings h = meant_by (meant local old.node.ports) _ text became h (λ link d. resends link d.0 text became d.0.link.failed d.1 d.2)
  order_leads (order.Ack local) line text became is brings h = meant_by (meant local old.node.ports) _ text became h (λ link d. acks link d.0 text became d.0.link.failed d.1 d.2.0 d.2.1)
  order_leads (order.Close local) line text became is brings h = meant_by (position (has_local local) old.node.ports) _ text became h (λ link d. one_event (LostLink link) text d.1 d.0.ended refl)
  order_leads (order.Renew anew) line text became is brings h = meant_by (one_link old.node.ports) _ text became h (λ link d. renews link anew text became d)
  order_leads (order.New b) line text became is brings h = new_by (position (has_local b.local) old.node.ports) b text became h
  order_leads order.Files line text became is brings h = still text (speaks_files old.node.noted.shared.files text became h.1) (ap (λ (n : Node). n.node) h.0)
  order_leads (order.File file) line text became is brings h =
      file_by file h.0 text became h.1 h.2
  order_leads (order.Record r) line text became is brings h = records r text became h
  order_leads (order.Drop name) line text became is brings h = drops name text became h
