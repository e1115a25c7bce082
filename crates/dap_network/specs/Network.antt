-- A serving node, the peer of each of its links, and a network that loses, repeats and reorders packets. The headline
-- is the law `many_links_keep_the_headline`. A peer is a client of this implementation, or a stranger, which may send
-- anything.
use Rattle.std.specs.Prelude.{◌≡◌, ℕ, List, [], ◌∷◌, ◌++◌, get_or, set, IfSome, Option, Some, None, option_map, slice_get}
use Rattle.nsp_link.specs.declared.link.LinkSetup.{LinkSetup}
use Rattle.nsp_link.specs.Link.{IsSetup}
use Rattle.dap_accessed.specs.Standing.{Files}
use Rattle.dap_accessing.specs.Request.{Request}
use Rattle.dap_accessing.specs.declared.report.Report.{Report}
use Rattle.dap_end.specs.Ports.{new_port}
use Rattle.dap_end.specs.Asking.{HasAsked}
use Rattle.dap_end.specs.Done.{AskingValue, nothing_asked}
use Rattle.dap_end.specs.Headline.{WrittenPacket}
use Rattle.dap_end.specs.Joined.{IsBrought}
use Rattle.dap_end.specs.Calls.{AskingEvent, AskingStepped, requests_in}
use Rattle.dap_end.specs.Node.{NodeValue}
use Rattle.dap_end.specs.Runs.{RunsBy}
use Rattle.dap_network.specs.Happening.{Continued, GotLink, IsNodeWithoutLinks, NodeEvent, NodeStepped, PacketCame, WroteAgain, all_written}

-- The peer of a link, every packet that it and the node wrote on the link, what was asked of the peer, and what it
-- reported: all of it since the link began.
pub record Peer : Type 0 where
  pub client : AskingValue
  pub from_peer : List WrittenPacket
  pub from_node : List WrittenPacket
  pub requests : List Request
  pub reports : List Report

-- a node, and the peer of each link; none where it is a stranger
pub record Network : Type 0 where
  pub node : NodeValue
  pub peers : List (Option Peer)

-- ---- Events.

-- The peer of a link is called, or something happens to the node.
pub data NetworkEvent : Type 0 where
  AtPeer : (link : ℕ) → AskingEvent → NetworkEvent
  AtNode : NodeEvent → NetworkEvent

-- what happens to the node
abbrev pub node_events : List NetworkEvent → List NodeEvent
node_events [] = []
node_events (AtPeer link event ∷ events) = node_events events
node_events (AtNode event ∷ events) = event ∷ node_events events

-- There is an event of the peer of a link, and its packets and reports follow those before. What comes is a packet that
-- the node wrote on the link, unaltered and not more than 2,047 numbers old.
pub record PeerStepped (link : ℕ) (old : Network) (event : AskingEvent) (more : List WrittenPacket) (new : Network) : Type 0 where
  pub peer : Peer
  pub with_peer : slice_get old.peers link ≡ Some (Some peer)
  pub then : Peer
  pub steps : AskingStepped (IsBrought peer.from_node) (peer.client, peer.reports, peer.from_peer) event more (then.client, then.reports, then.from_peer)
  pub requests : then.requests ≡ peer.requests ++ requests_in (event ∷ [])
  pub same : then.from_node ≡ peer.from_node
  pub is : new ≡ record old { peers = set old.peers link (Some then) }

-- The setup of a peer: but for segments and windows it is the node's, with the addresses exchanged.
pub record AreFacing (node peer : LinkSetup) : Type 0 where
  pub good : IsSetup node
  pub other_good : IsSetup peer
  pub facing : node ≡ record peer { local = peer.remote; remote = peer.local; seg_size = node.seg_size; window = node.window }

-- a peer of which nothing was asked, on a link that the node begins with this setup
pub record IsNewPeer (setup : LinkSetup) (peer : Peer) : Type 0 where
  pub own : LinkSetup
  pub facing : AreFacing setup own
  pub port : peer.client.port ≡ new_port own
  pub asking : HasAsked nothing_asked peer.client
  pub none : peer ≡ record { client = peer.client; from_peer = []; from_node = []; requests = []; reports = [] }

-- the client of a link, or none, where its peer is a stranger
abbrev pub client_on : (link : ℕ) → List (Option Peer) → Option Peer
client_on link peers = get_or peers link None

-- a client to which the node wrote these packets besides
abbrev pub peer_sent : List WrittenPacket → Peer → Peer
peer_sent wrote peer = record peer { from_node = peer.from_node ++ wrote }

-- the peers, once the node wrote these packets on a link
abbrev pub peers_sent : (link : ℕ) → List WrittenPacket → List (Option Peer) → List (Option Peer)
peers_sent link wrote peers = set peers link (option_map (peer_sent wrote) (client_on link peers))

-- What happens to the node leaves these peers. What comes on a client's link is a packet that it wrote, unaltered and
-- not more than 2,047 numbers old; of a stranger, anything comes. A link that begins has a new client, or a stranger.
abbrev pub PeersStepped : (old : List (Option Peer)) → NodeEvent → (new : List (Option Peer)) → Type 0
PeersStepped old (PacketCame link c) new = IfSome (client_on link old) (λ peer. IsBrought peer.from_peer c.0 c.1) × (new ≡ old)
PeersStepped old (Continued link wrote) new = new ≡ peers_sent link wrote old
PeersStepped old (WroteAgain link index w) new = new ≡ peers_sent link (w ∷ []) old
PeersStepped old (GotLink link setup most) new = (peer : Option Peer) × IfSome peer (IsNewPeer setup) × (new ≡ set old link peer)
PeersStepped old event new = new ≡ old

-- what each event does, and the packets that it writes
abbrev pub NetworkStepped : Network → NetworkEvent → List WrittenPacket → Network → Type 0
NetworkStepped old (AtPeer link event) more new = PeerStepped link old event more new
NetworkStepped old (AtNode event) more new = NodeStepped old.node event new.node × PeersStepped old.peers event new.peers × (more ≡ all_written (event ∷ []))

-- events, one after another
abbrev pub NetworkRuns : Network → List NetworkEvent → Network → Type 0
NetworkRuns old events new = RunsBy NetworkStepped old events new

-- a node with these files, of which no link is there
abbrev pub IsNewNetwork : (first : Files) → Network → Type 0
IsNewNetwork first net = IsNodeWithoutLinks first net.node

-- no link has a client
abbrev pub HasNoClient : Network → Type 0
HasNoClient net = (link : ℕ) (peer : Peer) → slice_get net.peers link ≡ Some (Some peer) → ⊥
