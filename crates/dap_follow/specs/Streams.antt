-- The data segments of a capture: one stream for each way, nodes, receiver and sender, in the order of the sequence
-- numbers.
use Rattle.std.specs.Prelude.{◌≡◌, ℕ, ◌+◌, ◌%◌, ◌≤◌, ◌==◌, ◌&&◌, Bool, true, false, bytes_eq, List, [], ◌∷◌, ◌++◌, map, max, if◌then◌else◌, Option, Some, None, Ok}
use Rattle.std.specs.List.{find}
use Rattle.std.specs.List.Sorted.{IsStrictlyIncreasing}
use Rattle.nsp_seg.specs.declared.packet.SegmentFields.{SegmentFields}
use Rattle.nsp_seg.specs.declared.packet.Packet.TheVariants.{Segment}
use Rattle.dap_listing.specs.Listing.{arrow_text}
use Rattle.dap_listing.specs.Packets.{DecodedPacket}
use Rattle.decnet_frames.specs.Found.{FoundPacket}
use Rattle.decnet_frames.specs.declared.addresses.Nodes.{Nodes}
use Rattle.dap_follow.specs.declared.streams.Stream.{Stream}

-- ---- streams: the segments that go one way between two ends

-- the stream of a segment
abbrev pub stream_of : FoundPacket → SegmentFields → Stream
stream_of packet s = record { way = packet.way; nodes = packet.nodes; dst = s.dst; src = s.src }

-- the same nodes, or both unknown
abbrev pub is_same_nodes : Option Nodes → Option Nodes → Bool
is_same_nodes None None = true
is_same_nodes (Some m) (Some n) = (m.source == n.source) && (m.destination == n.destination)
is_same_nodes _ _ = false

-- both have one way, nodes, receiver and sender
abbrev pub is_same_stream : Stream → Stream → Bool
is_same_stream a b = bytes_eq (arrow_text a.way) (arrow_text b.way) && is_same_nodes a.nodes b.nodes && (a.dst == b.dst) && (a.src == b.src)

-- a segment, and the number of its packet
abbrev pub NumberedSegment : Type 0
NumberedSegment = ℕ × SegmentFields

-- a stream that hasn't ended, and its segments so far, in the order of the capture
pub record OpenStream : Type 0 where
  pub name : Stream
  pub came : List NumberedSegment

-- A segment comes to its stream; if that isn't open, another stream begins with it, after the others.
abbrev pub continued : Stream → NumberedSegment → List OpenStream → List OpenStream
continued stream c [] = record { name = stream; came = c ∷ [] } ∷ []
continued stream c (o ∷ others) =
    if is_same_stream stream o.name then record { name = o.name; came = o.came ++ c ∷ [] } ∷ others else o ∷ continued stream c others

-- the streams after a packet with this number; what is no segment leaves them
abbrev pub with_packet : ℕ → FoundPacket → DecodedPacket → List OpenStream → List OpenStream
with_packet number packet (Ok (Segment s)) opens = continued (stream_of packet s) (number, s) opens
with_packet number packet _ opens = opens

-- ---- sequence numbers

-- a segment with its sequence number without modulus (`sequence`), and the number of its packet
pub record Sequenced : Type 0 where
  pub sequence : ℕ
  pub packet : ℕ
  pub first : Bool
  pub last : Bool
  pub payload : List ℕ

-- a sequence number with this 12-bit number, from 2,047 below to 2,048 above the highest one before it
abbrev pub IsNear : ℕ → ℕ → ℕ → Type 0
IsNear highest number sequence = (highest ≤ sequence + 2047) × (sequence ≤ highest + 2048) × (sequence % 4096 ≡ number)

-- Each number without modulus is the segment's number modulo 4,096, and is from 2,047 below to 2,048 above the
-- highest one before it.
pub data AreSequenced : ℕ → List NumberedSegment → List Sequenced → Type 0 where
  no_more : {highest : ℕ} → AreSequenced highest [] []
  one_more : {highest : ℕ} {c : NumberedSegment} {others : List NumberedSegment} {rest : List Sequenced} (sequence : ℕ)
      → highest ≤ sequence + 2047 → sequence ≤ highest + 2048 → sequence % 4096 ≡ c.1.number
      → AreSequenced (max highest sequence) others rest
      → AreSequenced highest (c ∷ others) (record { sequence = sequence; packet = c.0; first = c.1.first; last = c.1.last; payload = c.1.payload } ∷ rest)

-- The first one has its number plus 4,096.
abbrev pub first_sequence : List NumberedSegment → ℕ
first_sequence [] = 0
first_sequence (c ∷ others) = c.1.number + 4096

-- the segment with a sequence number: if there are several, the first that came
abbrev pub at : ℕ → List Sequenced → Option Sequenced
at sequence = find (λ s. s.sequence == sequence)

-- The segments that count, in the order of their numbers: one for each number that came.
pub record IsOrdered (came : List NumberedSegment) (ordered : List Sequenced) : Type 0 where
  pub sequenced : List Sequenced
  pub are_sequenced : AreSequenced (first_sequence came) came sequenced
  pub ascending : IsStrictlyIncreasing (map (λ s. s.sequence) ordered)
  pub same : (sequence : ℕ) → at sequence ordered ≡ at sequence sequenced

-- so each stream's
abbrev pub AreOrdered : OpenStream → List Sequenced → Type 0
AreOrdered o ordered = IsOrdered o.came ordered
