-- Which streams a packet ends.
use Rattle.std.specs.Prelude.{ℕ, ◌+◌, ◌*◌, ◌==◌, ◌&&◌, ◌||◌, not, Bool, false, List, ◌∷◌, if◌then◌else◌, Option, Some, None, bytes_eq}
use Rattle.std.specs.List.{filter}
use Rattle.std.specs.Option.{option_map_or}
use Rattle.dap_listing.specs.Listing.{arrow_text}
use Rattle.dap_listing.specs.declared.lines.Direction.{Direction}
use Rattle.dap_listing.specs.declared.lines.Direction.TheVariants.{Right, Left}
use Rattle.decnet_frames.specs.Found.{FoundPacket}
use Rattle.dap_follow.specs.Streams.{OpenStream, is_same_nodes}
use Rattle.decnet_frames.specs.declared.addresses.Nodes.{Nodes}
use Rattle.dap_follow.specs.declared.streams.Stream.{Stream}

-- the other way
abbrev pub opposite : Direction → Direction
opposite Right = Left
opposite Left = Right

-- the same nodes, each in the other's place
abbrev pub turned : Option Nodes → Option Nodes
turned None = None
turned (Some n) = Some (record { source = n.destination; destination = n.source })

-- The address from which a connect initiate asks for a link. Such a packet begins with 18 or, where it is sent again,
-- 68 (hex); its sender's address is after its receiver's, least byte first.
abbrev pub initiator : List ℕ → Option ℕ
initiator (flags ∷ _ ∷ _ ∷ low ∷ high ∷ _) = if (flags == 24) || (flags == 104) then Some (low + 256 * high) else None
initiator _ = None

-- a stream goes this way between these nodes
abbrev pub goes_between : Direction → Option Nodes → Stream → Bool
goes_between way nodes stream = bytes_eq (arrow_text stream.way) (arrow_text way) && is_same_nodes stream.nodes nodes

-- a stream of a link of this address, which went this way between these nodes, either from it or to it
abbrev pub is_of_address : Direction → Option Nodes → ℕ → Stream → Bool
is_of_address way nodes address stream =
    (goes_between way nodes stream && (stream.src == address)) || (goes_between (opposite way) (turned nodes) stream && (stream.dst == address))

-- A connect initiate opens a link from its address: what went from it or to it before was of another link.
abbrev pub is_ended_by : FoundPacket → Stream → Bool
is_ended_by packet stream = option_map_or (λ address. is_of_address packet.way packet.nodes address stream) (initiator packet.bytes) false

-- the streams that a packet ends
abbrev pub streams_ended : FoundPacket → List OpenStream → List OpenStream
streams_ended packet = filter (λ o. is_ended_by packet o.name)

-- the others
abbrev pub left_by : FoundPacket → List OpenStream → List OpenStream
left_by packet = filter (λ o. not (is_ended_by packet o.name))
