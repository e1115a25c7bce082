-- Lines of `daplive serve` and of `daplive ask`, and a network between them: the law `program_lines_lead`.
use Rattle.std.specs.Prelude.{◌≡◌, ◌⊎◌, ◌==◌, ◌++◌, ℕ, List, [], if◌then◌else◌, map, Some, None, Ok, slice_get}
use Rattle.rec_file.specs.declared.picks.Rights.{Rights}
use Rattle.nsp_link.specs.declared.link.LinkSetup.{LinkSetup}
use Rattle.dap_accessing.specs.Request.{Request}
use Rattle.dap_accessing.specs.declared.report.Report.{Report}
use Rattle.dap_end.specs.Headline.{WrittenPacket, written_bytes}
use Rattle.dap_end.specs.Joined.{IsBrought}
use Rattle.dap_end.specs.Node.{HasPort}
use Rattle.dap_end.specs.Ports.{PortValue}
use Rattle.dap_network.specs.Calls.{Leads, peer_then}
use Rattle.dap_network.specs.Network.{Network, Peer}
use Rattle.dap_live.specs.declared.asking.Asking.{Asking}
use Rattle.dap_live.specs.declared.node.Node.{Node}
use Rattle.dap_live.specs.declared.node_orders.NodeOrder.TheVariants as order
use Rattle.dap_live.specs.Node.{BeginsNow, FindsLink, is_alone, one_link}
use Rattle.dap_live.specs.NodeOrders.{node_order_of}
use Rattle.dap_transcripts.specs.AskLines.{BeginsAnew, HasFailed}
use Rattle.dap_transcripts.specs.Transcripts.{AreSome, packet_lines, written_line}

-- ---- A line of the server.

-- the packet of a line `> HEX`, on the link that it is of
abbrev pub IsPacketOn : Node → (line : List ℕ) → (link : ℕ) → (bytes : List ℕ) → Type 0
IsPacketOn old line link bytes =
    (node_order_of (is_alone old.node) line ≡ Some (order.Packet bytes)) × ((one_link old.node.ports ≡ Some link) ⊎ ((one_link old.node.ports ≡ None) × FindsLink old.node.ports bytes (Ok link)))

-- what the line brings to a client's link is a packet of that client, unaltered and not more than 2,047 numbers old
abbrev pub BringsIn : Network → Node → (line : List ℕ) → Type 0
BringsIn net old line =
    (link : ℕ) (bytes : List ℕ) (peer : Peer) (port : PortValue) → IsPacketOn old line link bytes → slice_get net.peers link ≡ Some (Some peer) → HasPort link old.node port → IsBrought peer.from_peer port.link bytes

-- no client moved, and these packets were written for this link, and none for another
abbrev pub WroteFor : (link : ℕ) → List WrittenPacket → (old new : Network) → Type 0
WroteFor link wrote old new =
    (other : ℕ) (peer : Peer) → slice_get old.peers other ≡ Some (Some peer)
    → slice_get new.peers other ≡ Some (Some (record peer { from_node = peer.from_node ++ (if other == link then wrote else []) }))

-- the lines of a text that begin with `<` are some of these packets, each once and in order
abbrev pub SaysSome : (text : List ℕ) → List WrittenPacket → Type 0
SaysSome text wrote = (packets : List (List ℕ)) × (packet_lines text ≡ map written_line packets) × AreSome packets (written_bytes wrote)

-- the line begins a link
abbrev pub BeginsSome : Node → Node → Type 0
BeginsSome old new = (base : Node) × (link : ℕ) × (setup : LinkSetup) × (most : Rights) × (base.node ≡ old.node) × BeginsNow link setup most base new

-- The server's line leads to a network with this node, in which no client moved. What was written was for one link, and
-- is what the line says, all or some of it. Or the line begins a link.
abbrev pub ServerLeads : Network → (old new : Node) → (text : List ℕ) → Type 0
ServerLeads net old new text =
    ((after : Network) × (link : ℕ) × (wrote : List WrittenPacket) × Leads net after × (after.node ≡ new.node) × WroteFor link wrote net after × SaysSome text wrote)
    ⊎ BeginsSome old new

-- ---- A line of a client.

-- The client's line leads to a network with this client, and what was written is what the line says, all or some of it;
-- or the client begins anew, or has failed.
abbrev pub ClientLeads : Network → (link : ℕ) → Peer → (text : List ℕ) → Asking → Type 0
ClientLeads net link peer text new =
    ((requests : List Request) × (reports : List Report) × (wrote : List WrittenPacket) × Leads net (peer_then net link peer new.end requests reports wrote) × SaysSome text wrote)
    ⊎ (BeginsAnew new text ⊎ HasFailed new)
