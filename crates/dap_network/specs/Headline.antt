-- The headline of many links: whatever the network did on each, there is one order in which all was served.
use Rattle.std.specs.Prelude.{◌≡◌, ℕ, List, [], ◌∷◌, ◌++◌, length, map, Some, slice_get}
use Rattle.dap_msg.specs.declared.message.Message.{Message}
use Rattle.dap_msg.specs.declared.items.Item.TheVariants.{Whole}
use Rattle.dap_accessed.specs.declared.setup.ServerSetup.{ServerSetup}
use Rattle.dap_accessed.specs.Standing.{Files}
use Rattle.dap_accessing.specs.Asked.{Asked}
use Rattle.dap_accessing.specs.Told.{Told}
use Rattle.dap_shared.specs.Nodes.{AnswersOn, Event, items_on}
use Rattle.dap_end.specs.Headline.{WrittenPacket}
use Rattle.dap_end.specs.Ports.{PortValue}
use Rattle.dap_end.specs.Node.{HasPort}
use Rattle.dap_network.specs.Happening.{NodeEvent, wrote_on}
use Rattle.dap_network.specs.Network.{Network, NetworkEvent, NetworkStepped, Peer, node_events}
use Rattle.dap_network.specs.Served.{AreServed, IsOrder, NodeIsServed}

-- Of a link, since it began. What was served are the first of the messages that the requests of its peer ask, each once
-- and in order. The peer read the first of the answers that the history gives on this link, and its reports are what
-- the definition gives for these.
pub record LinkHeadline (link : ℕ) (own : ServerSetup) (first : Files) (links : ℕ) (history : List Event) (peer : Peer) : Type 0 where
  pub taken : List Message
  pub served : items_on link history ≡ map Whole taken
  pub taken_in_order : (rest : List Message) × (taken ++ rest ≡ Asked peer.client.present.identity peer.requests)
  pub read : List Message
  pub read_in_order : (rest : List Message) × (read ++ rest ≡ AnswersOn link own first links history)
  pub reports_told : peer.reports ≡ Told peer.requests (map Whole read)

-- The node served by one history of these events, in their order, whoever its peers are. Of this history the headline
-- holds of each link that is there and has a client, whatever strangers send on others; and what was sent to the client
-- is what the node wrote on the link.
pub record NetworkHeadline (first : Files) (events : List NetworkEvent) (net : Network) : Type 0 where
  pub node : NodeIsServed first (node_events events) net.node
  pub links : (link : ℕ) (port : PortValue) (peer : Peer) → HasPort link net.node port → slice_get net.peers link ≡ Some (Some peer)
      → LinkHeadline link net.node.noted.shared.setup first (length net.node.noted.shared.sessions) node.history peer
  pub sent : (link : ℕ) (port : PortValue) (peer : Peer) → HasPort link net.node port → slice_get net.peers link ≡ Some (Some peer) → peer.from_node ≡ wrote_on link (node_events events)

-- ---- At every moment.

-- By this history the node served all that happened so far, and on each client's link the headline holds.
pub record AreKept (own : ServerSetup) (first : Files) (links : ℕ) (done : List NodeEvent) (past : List Event) (net : Network) : Type 0 where
  pub node : AreServed own first links done past net.node
  pub clients : (link : ℕ) (port : PortValue) (peer : Peer) → HasPort link net.node port → slice_get net.peers link ≡ Some (Some peer) → LinkHeadline link own first links past peer

-- There is one history, to which each event adds, and of which all of this holds before and after each: so also of
-- links that ended since.
abbrev pub IsKeptAlong : (own : ServerSetup) (first : Files) (links : ℕ) → (done : List NodeEvent) (past : List Event) → Network → List NetworkEvent → Network → Type 0
IsKeptAlong own first links done past old [] new = AreKept own first links done past old × (new ≡ old)
IsKeptAlong own first links done past old (event ∷ events) new =
    AreKept own first links done past old
    × (told : List Event) × (mid : Network) × (more : List WrittenPacket) × IsOrder (node_events (event ∷ [])) told × NetworkStepped old event more mid
    × IsKeptAlong own first links (done ++ node_events (event ∷ [])) (past ++ told) mid events new
