-- A link of a node and its client, after any events of both.
use Rattle.std.proofs.Common.{◌≡◌, ℕ, ◌+◌, ◌≤◌, refl, sym, ◌∙◌, subst, ap, List, [], ◌∷◌, ◌++◌, map}
use Rattle.std.specs.Prelude.{IfSome, None, Option, Result, Some, option_map}
use Rattle.dap_msg.specs.declared.items.Item.{Item}
use Rattle.dap_msg.specs.declared.items.Item.TheVariants.{Whole}
use Rattle.dap_msg.specs.declared.message.Message.{Message}
use Rattle.dap_msg.specs.Blocked.{AllFit, NspMessage}
use Rattle.nsp_link.specs.declared.link.Got.{Got}
use Rattle.nsp_link.specs.declared.link.LinkSetup.{LinkSetup}
use Rattle.nsp_link.specs.declared.fault.LinkFault.{LinkFault}
use Rattle.nsp_link.specs.Link.{LinkValue}
use Rattle.nsp_link.specs.Receiving.{Receives}
use Rattle.dap_accessing.specs.Asked.{Asked}
use Rattle.dap_accessing.specs.Request.{Request}
use Rattle.dap_accessing.specs.Told.{Told}
use Rattle.dap_end.specs.Calls.{AskingEvent, AskingStepped, WroteOne, numbered_packets, requests_in}
use Rattle.dap_end.specs.Headline.{Arrival, WrittenPacket}
use Rattle.dap_end.specs.Joined.{IsBrought}
use Rattle.dap_end.specs.Moved.{with_link}
use Rattle.dap_end.specs.Ports.{PortValue, new_port}
use Rattle.dap_end.specs.Writing.{WroteMore}
use Rattle.dap_end.proofs.ForCallers.{AreJoined, Client, IsJoinedTo, asks, comes, first_ones, goes, grown, new_joined, served_prefix, swapped, written_on, wrote_one}
use Rattle.dap_network.specs.Network.{IsNewPeer, Peer, peer_sent}
use Rattle.dap_network.proofs.AnyLink.{AnyLink, any_again, any_came, any_new, any_went}
use Rattle.dap_network.proofs.Standing.{PortGrew, PortStands}

-- the client of a peer
abbrev pub client_of : Peer → Client
client_of peer = record { a = peer.client; wrote = peer.from_peer; requests = peer.requests; reports = peer.reports }

-- The client is joined to the link, and was sent what was written there.
pub record IsClientOf (link : LinkValue) (handed given : List (List ℕ)) (wrote : List WrittenPacket) (peer : Peer) : Type 0 where
  pub joined : IsJoinedTo link handed given wrote (client_of peer)
  pub sent : peer.from_node ≡ wrote

-- The link is so whoever its peer is, and where that is a client, it is joined to it.
pub record LinkStands (came : List Arrival) (wrote : List WrittenPacket) (items : List Item) (packets : List NspMessage) (answers : List Message) (port : PortValue) (client : Option Peer) : Type 0 where
  pub any : AnyLink came wrote items packets answers port
  pub joined : IfSome client (IsClientOf port.link any.handed any.given wrote)

-- ---- What it comes to.

-- what is said of a link's items and answers
pub record IsKept (items : List Item) (answers : List Message) (peer : Peer) : Type 0 where
  pub taken : List Message
  pub served : items ≡ map Whole taken
  pub taken_in_order : (rest : List Message) × (taken ++ rest ≡ Asked peer.client.present.identity peer.requests)
  pub read : List Message
  pub read_in_order : (rest : List Message) × (read ++ rest ≡ answers)
  pub reports_told : peer.reports ≡ Told peer.requests (map Whole read)

pub kept : (came : List Arrival) (wrote : List WrittenPacket) (items : List Item) (packets : List NspMessage) (answers : List Message) (port : PortValue) (peer : Peer) → (any : AnyLink came wrote items packets answers port) → IsClientOf port.link any.handed any.given wrote peer → IsKept items answers peer
kept came wrote items packets answers port peer any j =
    let c = j.joined in
    let a = peer.client.port in
    let t = first_ones c.asked.asked c.asked.handed a.outbox items c.asking.full c.asking.fit c.asking.waiting
    (served_prefix port.link a.link.setup.seg_size c.asked.handed any.given port.offset items c.ways.there.positive c.ways.there.stands any.stands.gone) in
    let r = first_ones packets any.handed port.outbox c.asked.answers any.stands.full (subst AllFit (sym any.stands.told) any.stands.fit) any.stands.waiting
    (served_prefix a.link port.link.setup.seg_size any.handed c.asked.given a.offset c.asked.answers c.ways.back.positive c.ways.back.stands c.asking.gone) in
    record {
      taken = t.taken;
      served = t.is;
      taken_in_order = (t.rest, t.split ∙ c.asking.messages ∙ ap (Asked peer.client.present.identity) c.requests);
      read = r.taken;
      read_in_order = (r.rest, r.split ∙ any.stands.told);
      reports_told = c.told ∙ ap (λ (l : List Request). Told l c.asked.answers) c.requests ∙ ap (Told peer.requests) r.is;
    }

-- ---- Events.

client_new : (setup : LinkSetup) (peer : Peer) → IsNewPeer setup peer → IsClientOf (new_port setup).link [] [] [] peer
client_new setup peer n =
    let f = n.facing in
    record {
      joined = new_joined n.own setup (client_of peer) (record { good = f.other_good; other_good = f.good; facing = f.facing }) n.port n.asking (ap (λ (p : Peer). p.from_peer) n.none) (ap (λ (p : Peer). p.requests) n.none) (ap (λ (p : Peer). p.reports) n.none);
      sent = ap (λ (p : Peer). p.from_node) n.none;
    }

-- the link began
pub link_new : (setup : LinkSetup) (client : Option Peer) → IfSome client (IsNewPeer setup) → LinkStands [] [] [] [] [] (new_port setup) client
unfolding any_new
link_new setup None n = record { any = any_new setup; joined = tt }
link_new setup (Some peer) n = record { any = any_new setup; joined = client_new setup peer n }

module _ (came : List Arrival) (wrote : List WrittenPacket) (items : List Item) (packets : List NspMessage) (answers : List Message) (port : PortValue) (any : AnyLink came wrote items packets answers port) (peer : Peer)
    (j : IsClientOf port.link any.handed any.given wrote peer) where
  abbrev c : IsJoinedTo port.link any.handed any.given wrote (client_of peer)
  c = j.joined

  abbrev a : LinkValue
  a = peer.client.port.link

  -- the client joined to another link, and the same otherwise
  joined_by : (link : LinkValue) (handed given : List (List ℕ)) (wire : List WrittenPacket) → AreJoined a link c.asked.handed handed c.asked.given given peer.from_peer wire → IsJoinedTo link handed given wire (client_of peer)
  joined_by link handed given wire ways = record { asked = c.asked; asking = c.asking; requests = c.requests; told = c.told; ways = ways }

  client_called : (then : Peer) (event : AskingEvent) (more : List WrittenPacket) → AskingStepped (IsBrought peer.from_node) (peer.client, peer.reports, peer.from_peer) event more (then.client, then.reports, then.from_peer) → then.requests ≡ peer.requests ++ requests_in (event ∷ [])
      → then.from_node ≡ peer.from_node → IsClientOf port.link any.handed any.given wrote then
  client_called then event more steps requests same =
      record {
        joined = asks port.link any.handed any.given wrote (client_of peer) (client_of then) event more
            (subst (λ (l : List WrittenPacket). AskingStepped (IsBrought l) (peer.client, peer.reports, peer.from_peer) event more (then.client, then.reports, then.from_peer)) j.sent steps) requests c;
        sent = same ∙ j.sent;
      }

  client_came : (link : LinkValue) (bytes : List ℕ) (r : Result Got LinkFault) → Receives port.link link bytes r → IsBrought peer.from_peer port.link bytes → IsClientOf link any.handed any.given wrote peer
  client_came link bytes r h brought =
      let g = grown port.link link bytes r h in
      let ways = comes a port.link link c.asked.handed any.handed c.asked.given any.given peer.from_peer wrote brought.0 brought.1 r c.ways brought.2 brought.4
      (subst (λ (x : List ℕ). Receives port.link link x r) brought.3 h) (written_on port.link link g any.handed wrote c.ways.back.packets) in
      record { joined = joined_by link any.handed any.given wrote ways; sent = j.sent }

  client_again : (k : Option ℕ) (w : WrittenPacket) → WroteOne port.link k w → IfSome k (λ n. n ≤ port.link.sent) → IsClientOf port.link any.handed any.given (wrote ++ w ∷ []) (peer_sent (w ∷ []) peer)
  client_again k w one was =
      let back = swapped a port.link c.asked.handed any.handed c.asked.given any.given peer.from_peer wrote c.ways in
      let ways = wrote_one port.link a any.handed c.asked.handed any.given c.asked.given wrote peer.from_peer k w back any.stands.sends was one in
      record {
        joined = joined_by port.link any.handed any.given (wrote ++ w ∷ []) (swapped port.link a any.handed c.asked.handed any.given c.asked.given (wrote ++ w ∷ []) peer.from_peer ways);
        sent = ap (λ (l : List WrittenPacket). l ++ w ∷ []) j.sent;
      }

  client_went : (given handed : List (List ℕ)) (blocks : List NspMessage) (more : List Item) (others : List Message) (mid new : PortValue) (bytes : List (List ℕ)) → PortStands given handed blocks more others mid → PortGrew any.given any.handed given handed port mid → WroteMore mid new bytes
      → IsClientOf new.link handed given (wrote ++ numbered_packets (mid.link.sent + 1) mid.link.coming.received bytes) (peer_sent (numbered_packets (mid.link.sent + 1) mid.link.coming.received bytes) peer)
  client_went given handed blocks more others mid new bytes stands grew w =
      let ws = numbered_packets (mid.link.sent + 1) mid.link.coming.received bytes in
      let back = swapped a port.link c.asked.handed any.handed c.asked.given any.given peer.from_peer wrote c.ways in
      let ways = goes port.link a mid.link new mid any.handed c.asked.handed any.given c.asked.given grew.more.0 given handed wrote peer.from_peer bytes back refl grew.link w grew.more.1 grew.more.2
      (grew.stands a.setup.seg_size c.asked.handed back.back.stands) stands.sends in
      record {
        joined = joined_by new.link handed given (wrote ++ ws) (swapped new.link a handed c.asked.handed given c.asked.given (wrote ++ ws) peer.from_peer ways);
        sent = ap (λ (l : List WrittenPacket). l ++ ws) j.sent;
      }

module _ (came : List Arrival) (wrote : List WrittenPacket) (items : List Item) (packets : List NspMessage) (answers : List Message) (port : PortValue) where
  abbrev Stands : Option Peer → Type 0
  Stands client = LinkStands came wrote items packets answers port client

  -- the client is called
  pub link_called : (peer then : Peer) (event : AskingEvent) (more : List WrittenPacket) → AskingStepped (IsBrought peer.from_node) (peer.client, peer.reports, peer.from_peer) event more (then.client, then.reports, then.from_peer) → then.requests ≡ peer.requests ++ requests_in (event ∷ [])
      → then.from_node ≡ peer.from_node → Stands (Some peer) → Stands (Some then)
  link_called peer then event more steps requests same h = record { any = h.any; joined = client_called came wrote items packets answers port h.any peer h.joined then event more steps requests same }

  -- a packet came
  pub link_came : (client : Option Peer) (link : LinkValue) (bytes : List ℕ) (r : Result Got LinkFault) → Receives port.link link bytes r → IfSome client (λ peer. IsBrought peer.from_peer port.link bytes) → Stands client
      → LinkStands (came ++ (port.link, bytes) ∷ []) wrote items packets answers (with_link port link) client
  unfolding any_came
  link_came None link bytes r x brought h = record { any = any_came came wrote items packets answers port h.any link bytes r x; joined = tt }
  link_came (Some peer) link bytes r x brought h =
      record { any = any_came came wrote items packets answers port h.any link bytes r x; joined = client_came came wrote items packets answers port h.any peer h.joined link bytes r x brought }

  -- a packet was written again, or an acknowledgement
  pub link_again : (client : Option Peer) (k : Option ℕ) (w : WrittenPacket) → WroteOne port.link k w → IfSome k (λ n. n ≤ port.link.sent) → Stands client → LinkStands came (wrote ++ w ∷ []) items packets answers port (option_map (peer_sent (w ∷ [])) client)
  unfolding any_again
  link_again None k w one was h = record { any = any_again came wrote items packets answers port h.any k w one; joined = tt }
  link_again (Some peer) k w one was h =
      record { any = any_again came wrote items packets answers port h.any k w one; joined = client_again came wrote items packets answers port h.any peer h.joined k w one was }

  -- the port went on, and then wrote packets
  pub link_went : (client : Option Peer) (h : Stands client) (given handed : List (List ℕ)) (blocks : List NspMessage) (more : List Item) (others : List Message) (mid new : PortValue) (bytes : List (List ℕ)) → PortStands given handed blocks more others mid → PortGrew h.any.given h.any.handed given handed port mid → WroteMore mid new bytes
      → LinkStands came (wrote ++ numbered_packets (mid.link.sent + 1) mid.link.coming.received bytes) more blocks others new (option_map (peer_sent (numbered_packets (mid.link.sent + 1) mid.link.coming.received bytes)) client)
  unfolding any_went
  link_went None h given handed blocks more others mid new bytes stands grew w = record { any = any_went came wrote items packets answers port h.any given handed blocks more others mid new bytes stands grew w; joined = tt }
  link_went (Some peer) h given handed blocks more others mid new bytes stands grew w =
      record {
        any = any_went came wrote items packets answers port h.any given handed blocks more others mid new bytes stands grew w;
        joined = client_went came wrote items packets answers port h.any peer h.joined given handed blocks more others mid new bytes stands grew w;
      }
