-- Calls of a node on a link are events of the network.
use Rattle.std.proofs.Common.{◌≡◌, ℕ, zero, suc, ◌+◌, ◌<◌, refl, sym, ◌∙◌, subst, ap, append_assoc, List, [], ◌∷◌, ◌++◌, map}
use Rattle.std.specs.Prelude.{◌-◌, IfSome, Option, Some, None, Result, option_map, set, slice_get}
use Rattle.std.specs.List.{AllByRecursion}
use Rattle.std.proofs.lemmas.List.{append-nil}
use Rattle.nsp_link.specs.declared.link.Got.{Got}
use Rattle.nsp_link.specs.Link.{IsSpelling, LinkValue}
use Rattle.nsp_link.specs.Sending.{WritesSent, ack_packet_of}
use Rattle.dap_end.specs.declared.fault.EndFault.{EndFault}
use Rattle.dap_end.specs.declared.fault.TakeFault.{TakeFault}
use Rattle.dap_end.specs.Headline.{Arrival, WrittenPacket, written_bytes}
use Rattle.dap_end.specs.Joined.{IsBrought}
use Rattle.dap_end.specs.Node.{HasPort, NodeValue, OnLink, serves_on}
use Rattle.dap_end.specs.Ports.{PortValue}
use Rattle.dap_end.specs.Turns.{TakesPacket, WentOn}
use Rattle.dap_network.specs.Happening.{Continued, GotFile, GotLink, GotRecord, LostFile, LostLink, NodeEvent, NodeRuns, PacketCame, WroteAgain, all_written}
use Rattle.dap_network.specs.Network.{AtNode, Network, NetworkEvent, NetworkRuns, Peer, PeersStepped, client_on, peers_sent, peer_sent}
use Rattle.dap_network.proofs.Happens.{HappensHere, IsOn, ack_here, again_here, take_here, went_here}
use Rattle.dap_network.proofs.Sets.{set_same, there_is}
use Rattle.dap_network.proofs.Traffic.{all_written_more}

-- ---- What clients are sent.

sent_nothing : (link : ℕ) (peers : List (Option Peer)) → peers_sent link [] peers ≡ peers
sent_nothing link [] = refl
sent_nothing zero (None ∷ peers) = refl
sent_nothing zero (Some peer ∷ peers) = ap (λ (l : List WrittenPacket). Some (record peer { from_node = l }) ∷ peers) (append-nil peer.from_node)
sent_nothing (suc link) (peer ∷ peers) = ap (λ (l : List (Option Peer)). peer ∷ l) (sent_nothing link peers)

sent_both : (link : ℕ) (xs ys : List WrittenPacket) (peers : List (Option Peer)) → peers_sent link ys (peers_sent link xs peers) ≡ peers_sent link (xs ++ ys) peers
sent_both link xs ys [] = refl
sent_both zero xs ys (None ∷ peers) = refl
sent_both zero xs ys (Some peer ∷ peers) = ap (λ (l : List WrittenPacket). Some (record peer { from_node = l }) ∷ peers) (append_assoc peer.from_node xs ys)
sent_both (suc link) xs ys (peer ∷ peers) = ap (λ (l : List (Option Peer)). peer ∷ l) (sent_both link xs ys peers)

-- what comes on a link is of its client, if it has one
abbrev pub ComesOn : (link : ℕ) → List (Option Peer) → LinkValue → List ℕ → Type 0
ComesOn link peers v bytes = IfSome (client_on link peers) (λ peer. IsBrought peer.from_peer v bytes)

comes_still : (link : ℕ) (ws : List WrittenPacket) (peers : List (Option Peer)) (v : LinkValue) (bytes : List ℕ) → ComesOn link peers v bytes → ComesOn link (peers_sent link ws peers) v bytes
comes_still link ws [] v bytes h = h
comes_still zero ws (None ∷ peers) v bytes h = h
comes_still zero ws (Some peer ∷ peers) v bytes h = h
comes_still (suc link) ws (peer ∷ peers) v bytes h = comes_still link ws peers v bytes h

-- where it is of each client that there is
pub comes_if : (link : ℕ) (peers : List (Option Peer)) (v : LinkValue) (bytes : List ℕ) → ((peer : Peer) → slice_get peers link ≡ Some (Some peer) → IsBrought peer.from_peer v bytes) → ComesOn link peers v bytes
comes_if link [] v bytes h = tt
comes_if zero (None ∷ peers) v bytes h = tt
comes_if zero (Some peer ∷ peers) v bytes h = h peer refl
comes_if (suc link) (peer ∷ peers) v bytes h = comes_if link peers v bytes h

-- ---- Events of a link are events of the network.

on_still : (link : ℕ) (ws : List WrittenPacket) (peers : List (Option Peer)) (event : NodeEvent) → IsOn (ComesOn link peers) link event → IsOn (ComesOn link (peers_sent link ws peers)) link event
on_still link ws peers (PacketCame other c) o = (o.0, comes_still link ws peers c.0 c.1 o.1)
on_still link ws peers (Continued other wrote) o = o
on_still link ws peers (WroteAgain other index w) o = o
on_still link ws peers (GotLink other setup most) o = absurd o
on_still link ws peers (LostLink other) o = absurd o
on_still link ws peers (GotFile name shape) o = absurd o
on_still link ws peers (GotRecord at number body) o = absurd o
on_still link ws peers (LostFile at) o = absurd o

all_still : (link : ℕ) (ws : List WrittenPacket) (peers : List (Option Peer)) (events : List NodeEvent) → AllByRecursion (IsOn (ComesOn link peers) link) events → AllByRecursion (IsOn (ComesOn link (peers_sent link ws peers)) link) events
all_still link ws peers [] all = tt
all_still link ws peers (event ∷ events) all = (on_still link ws peers event all.0, all_still link ws peers events all.1)

peers_step : (link : ℕ) (peers : List (Option Peer)) (event : NodeEvent) → IsOn (ComesOn link peers) link event → PeersStepped peers event (peers_sent link (all_written (event ∷ [])) peers)
peers_step link peers (PacketCame other c) o = (subst (λ (k : ℕ). ComesOn k peers c.0 c.1) (sym o.0) o.1, sent_nothing link peers)
peers_step link peers (Continued other wrote) o = ap (λ (l : List WrittenPacket). peers_sent link l peers) (append-nil wrote) ∙ ap (λ (k : ℕ). peers_sent k wrote peers) (sym o)
peers_step link peers (WroteAgain other index w) o = ap (λ (k : ℕ). peers_sent k (w ∷ []) peers) (sym o)
peers_step link peers (GotLink other setup most) o = absurd o
peers_step link peers (LostLink other) o = absurd o
peers_step link peers (GotFile name shape) o = absurd o
peers_step link peers (GotRecord at number body) o = absurd o
peers_step link peers (LostFile at) o = absurd o

-- some events lead from one network to the other
abbrev pub LeadsTo : Network → Network → Type 0
LeadsTo old new = (events : List NetworkEvent) × NetworkRuns old events new

-- the network then
abbrev pub after_writing : Network → NodeValue → (link : ℕ) → List WrittenPacket → Network
after_writing net node link wrote = record { node = node; peers = peers_sent link wrote net.peers }

runs_on : (link : ℕ) (events : List NodeEvent) (old : Network) (new : NodeValue) → AllByRecursion (IsOn (ComesOn link old.peers) link) events → NodeRuns old.node events new → NetworkRuns old (map AtNode events) (after_writing old new link (all_written events))
runs_on link [] old new all r = ap (λ (v : NodeValue). after_writing old v link []) r ∙ ap (λ (l : List (Option Peer)). record old { peers = l }) (sent_nothing link old.peers)
runs_on link (event ∷ events) old new all r =
    let ws = all_written (event ∷ []) in
    let mid = after_writing old r.0 link ws in
    let rest = runs_on link events mid new (all_still link ws old.peers events all.1) r.2 in
    let is : peers_sent link (all_written events) mid.peers ≡ peers_sent link (all_written (event ∷ events)) old.peers = sent_both link ws (all_written events) old.peers ∙ ap (λ (l : List WrittenPacket). peers_sent link l old.peers) (sym (all_written_more (event ∷ []) events)) in
    (mid, ws, (r.1, peers_step link old.peers event all.0, refl), subst (λ (l : List (Option Peer)). NetworkRuns mid (map AtNode events) (record { node = new; peers = l })) is rest)

leads_here : (link : ℕ) (old : Network) (new : NodeValue) (came : List Arrival) (wrote : List WrittenPacket) → HappensHere (ComesOn link old.peers) link old.node came wrote new → LeadsTo old (after_writing old new link wrote)
leads_here link old new came wrote h =
    (map AtNode h.0, subst (λ (l : List WrittenPacket). NetworkRuns old (map AtNode h.0) (after_writing old new link l)) h.2.wrote_all (runs_on link h.0 old new h.3 h.1))

-- ---- Calls of the node.

module _ (link : ℕ) (old : Network) where
  pub take_leads : (most : ℕ) (node : NodeValue) (bytes : List ℕ) (out all : List (List ℕ)) (r : Result Got TakeFault) → ((p : PortValue) → HasPort link old.node p → ComesOn link old.peers p.link bytes)
      → OnLink link (λ before after. TakesPacket (serves_on link most) before after bytes out all r) old.node node → (wrote : List WrittenPacket) × LeadsTo old (after_writing old node link wrote) × (all ≡ out ++ written_bytes wrote)
  take_leads most node bytes out all r brought on =
      let h = take_here (ComesOn link old.peers) link most old.node node bytes out all r on (brought on.before on.there) in (h.0, leads_here link old node _ h.0 h.1, h.2)

  pub go_on_leads : (most : ℕ) (node : NodeValue) (out all : List (List ℕ)) (r : Result (Unit {0}) EndFault) → OnLink link (λ before after. WentOn (serves_on link most) before after out all r) old.node node
      → (wrote : List WrittenPacket) × LeadsTo old (after_writing old node link wrote) × (all ≡ out ++ written_bytes wrote)
  go_on_leads most node out all r on = let h = went_here (ComesOn link old.peers) link most old.node node out all r on in (h.0, leads_here link old node [] h.0 h.1, h.2)

  pub resend_leads : (p : PortValue) (i : ℕ) (bytes : List ℕ) → HasPort link old.node p → i < p.link.sent - p.link.acked → WritesSent p.link (Some (p.link.acked + 1 + i)) bytes
      → LeadsTo old (after_writing old old.node link (record { bytes = bytes; segment = Some (p.link.acked + 1 + i); acks = p.link.coming.received } ∷ []))
  resend_leads p i bytes there lt w = leads_here link old old.node [] _ (again_here (ComesOn link old.peers) link old.node p there i bytes lt w)

  pub ack_leads : (p : PortValue) (bytes : List ℕ) → HasPort link old.node p → IsSpelling (ack_packet_of p.link) bytes
      → LeadsTo old (after_writing old old.node link (record { bytes = bytes; segment = None; acks = p.link.coming.received } ∷ []))
  ack_leads p bytes there s = leads_here link old old.node [] _ (ack_here (ComesOn link old.peers) link old.node p there bytes s)

-- ---- Of a client, and of a stranger.

module _ (link : ℕ) (old : Network) (peer : Peer) (at : slice_get old.peers link ≡ Some (Some peer)) where
  abbrev is_there : client_on link old.peers ≡ Some peer
  is_there = there_is old.peers link (Some peer) None at

  -- what comes on the link is a packet of this client
  pub comes_of_it : (v : LinkValue) (bytes : List ℕ) → IsBrought peer.from_peer v bytes → ComesOn link old.peers v bytes
  comes_of_it v bytes b = subst (λ (o : Option Peer). IfSome o (λ q. IsBrought q.from_peer v bytes)) (sym is_there) b

  -- what was written was sent to it
  pub sent_to_it : (node : NodeValue) (wrote : List WrittenPacket) → LeadsTo old (after_writing old node link wrote) → LeadsTo old (record { node = node; peers = set old.peers link (Some (peer_sent wrote peer)) })
  sent_to_it node wrote l =
      subst (λ (ps : List (Option Peer)). LeadsTo old (record { node = node; peers = ps })) (ap (λ (o : Option Peer). set old.peers link (option_map (peer_sent wrote) o)) is_there) l

module _ (link : ℕ) (old : Network) (at : slice_get old.peers link ≡ Some None) where
  abbrev is_none : client_on link old.peers ≡ None
  is_none = there_is old.peers link None None at

  -- anything comes
  pub comes_of_stranger : (v : LinkValue) (bytes : List ℕ) → ComesOn link old.peers v bytes
  comes_of_stranger v bytes = subst (λ (o : Option Peer). IfSome o (λ q. IsBrought q.from_peer v bytes)) (sym is_none) tt

  -- what was written is kept of no client
  pub sent_to_stranger : (node : NodeValue) (wrote : List WrittenPacket) → LeadsTo old (after_writing old node link wrote) → LeadsTo old (record old { node = node })
  sent_to_stranger node wrote l =
      subst (λ (ps : List (Option Peer)). LeadsTo old (record { node = node; peers = ps }))
      (ap (λ (o : Option Peer). set old.peers link (option_map (peer_sent wrote) o)) is_none ∙ set_same old.peers link None at) l
