-- Calls of a node and of a peer lead from one network to another.
use Rattle.std.specs.Prelude.{◌++◌, ℕ, List, Some, set}
use Rattle.dap_accessing.specs.Request.{Request}
use Rattle.dap_accessing.specs.declared.report.Report.{Report}
use Rattle.dap_end.specs.Done.{AskingValue}
use Rattle.dap_end.specs.Headline.{WrittenPacket}
use Rattle.dap_end.specs.Node.{NodeValue}
use Rattle.dap_network.specs.Network.{Network, NetworkEvent, NetworkRuns, Peer, peer_sent}

-- there are events that lead from one to the other
abbrev pub Leads : Network → Network → Type 0
Leads old new = (events : List NetworkEvent) × NetworkRuns old events new

-- the node then, which wrote these packets to the peer of a link
abbrev pub node_then : Network → NodeValue → (link : ℕ) → Peer → List WrittenPacket → Network
node_then net node link peer wrote = record { node = node; peers = set net.peers link (Some (peer_sent wrote peer)) }

-- the client of the peer of a link then, of which these requests were asked too, and which made these reports too and
-- wrote these packets
abbrev pub peer_then : Network → (link : ℕ) → Peer → AskingValue → List Request → List Report → List WrittenPacket → Network
peer_then net link peer client requests reports wrote =
    record net { peers = set net.peers link (Some (record peer { client = client; from_peer = peer.from_peer ++ wrote; requests = peer.requests ++ requests; reports = peer.reports ++ reports })) }
