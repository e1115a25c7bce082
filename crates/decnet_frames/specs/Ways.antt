-- The packets of a capture file that are taken, and their signs.
use Rattle.std.specs.Prelude.{ℕ, ◌==◌, ◌&&◌, ◌||◌, nat_lt, nat_le, Bool, List, [], ◌∷◌, ◌++◌, length, if◌then◌else◌, Option, Some, None}
use Rattle.std.specs.List.{list_any}
use Rattle.dap_listing.specs.declared.lines.Direction.{Direction}
use Rattle.dap_listing.specs.declared.lines.Direction.TheVariants.{Right, Left}
use Rattle.decnet_frames.specs.Frames.{Packet}
use Rattle.decnet_frames.specs.declared.addresses.Nodes.{Nodes}
use Rattle.decnet_frames.specs.declared.ways.Between.{Between}
use Rattle.decnet_frames.specs.declared.ways.Between.TheVariants.{All, Two}
use Rattle.decnet_frames.specs.declared.ways.Ends.{Ends}

-- the nodes of a packet
abbrev pub nodes_of : Packet → Nodes
nodes_of p = record { source = p.source; destination = p.destination }

-- ---- between two nodes

-- the sign of a packet between two nodes: `>` from the first one, `<` from the other; the packets of other nodes have
-- none
abbrev pub way_of : Ends → Nodes → Option Direction
way_of ends n =
    if (n.source == ends.first) && (n.destination == ends.other) then Some Right
    else if (n.source == ends.other) && (n.destination == ends.first) then Some Left
    else None

-- ---- between all nodes

-- the ends of a packet, its sender first
abbrev pub ends_from : Nodes → Ends
ends_from n = record { first = n.source; other = n.destination }

-- and its receiver first
abbrev pub ends_to : Nodes → Ends
ends_to n = record { first = n.destination; other = n.source }

-- the same ends in the same order
abbrev pub is_same_pair : Ends → Ends → Bool
is_same_pair a b = a.first == b.first && a.other == b.other

-- these ends are among some
abbrev pub is_among : List Ends → Ends → Bool
is_among pairs ends = list_any (is_same_pair ends) pairs

-- how many pairs of nodes are kept at most
abbrev pub max_pairs : ℕ
max_pairs = 65536

-- Pairs of nodes, in the order in which they appear, each with the sender of its first packet first; and the pair of one
-- packet more, unless it is among them or there is no room for it.
abbrev pub pairs_with : List Ends → Nodes → List Ends
pairs_with pairs n =
    if is_among pairs (ends_from n) || is_among pairs (ends_to n) || nat_le max_pairs (length pairs) then pairs
    else pairs ++ ends_from n ∷ []

-- the sign of a packet: `>` from the sender of the first packet of its pair; where the pair isn't kept, from the lower
-- node, by area and then by number
abbrev pub way_among : List Ends → Nodes → Direction
way_among pairs n =
    if is_among pairs (ends_from n) then Right
    else if is_among pairs (ends_to n) then Left
    else if nat_lt n.source n.destination then Right
    else Left

-- ---- a packet

-- the pairs after a packet
abbrev pub pairs_after : Between → List Ends → Nodes → List Ends
pairs_after All pairs n = pairs_with pairs n
pairs_after (Two ends) pairs n = pairs

-- the sign of a packet that is taken; None of one that isn't
abbrev pub way_in : Between → List Ends → Nodes → Option Direction
way_in All pairs n = Some (way_among (pairs_with pairs n) n)
way_in (Two ends) pairs n = way_of ends n
