-- The room of streams: the bytes that those that are open take, and which of them end for want of it.
use Rattle.std.specs.Prelude.{◌≡◌, ℕ, ◌+◌, ◌≤◌, ◌==◌, ◌&&◌, not, nat_le, MatchBool, Bool, false, List, [], ◌∷◌, fold, length, map, sum_by, if◌then◌else◌, Ok}
use Rattle.std.specs.List.{AllZip, filter, zip}
use Rattle.std.specs.Option.{option_map_or}
use Rattle.nsp_seg.specs.declared.packet.Packet.TheVariants.{Segment}
use Rattle.dap_listing.specs.Packets.{DecodedPacket}
use Rattle.decnet_frames.specs.Found.{FoundPacket}
use Rattle.dap_follow.specs.Streams.{AreOrdered, AreSequenced, IsNear, NumberedSegment, OpenStream, Sequenced, at, first_sequence, is_same_stream, stream_of}
use Rattle.dap_follow.specs.Joined.{Fragment, fragments_of, is_message, tail}
use Rattle.dap_follow.specs.Segments.{highest_in}
use Rattle.dap_follow.specs.declared.streams.Stream.{Stream}

-- ---- how much there is

-- the maximum number of streams that are open
abbrev pub max_streams : ℕ
max_streams = 1024

-- the maximum number of bytes that they take
abbrev pub max_room : ℕ
max_room = 16777216

-- ---- what a stream takes

-- the bytes that each segment that is in no message yet takes beside its payload; and each run of messages
abbrev pub entry_room : ℕ
entry_room = 64

-- the bytes that a segment takes that is in no message yet
abbrev pub segment_room : (payload : List ℕ) → ℕ
segment_room payload = entry_room + length payload

-- A packet is short if a segment with as many bytes as it has fits the room.
abbrev pub IsShortPacket : FoundPacket → Type 0
IsShortPacket packet = segment_room packet.bytes ≤ max_room

-- the bytes that the segments of a piece take
abbrev pub piece_room : Fragment → ℕ
piece_room p = sum_by (λ s. segment_room s.payload) (p.head ∷ p.others)

-- a message begins directly after a sequence number
abbrev pub has_message_after : ℕ → List Fragment → Bool
has_message_after sequence [] = false
has_message_after sequence (p ∷ others) = is_message p && (p.head.sequence == sequence + 1)

-- The bytes that pieces take. Messages are listed: of each longest run of them without a hole one entry is kept, which
-- stands here for its last message.
abbrev pub pieces_room : List Fragment → ℕ
pieces_room [] = 0
pieces_room (p ∷ others) =
    (if is_message p then (if has_message_after (tail p).sequence others then 0 else entry_room) else piece_room p) + pieces_room others

-- the bytes that a stream with these segments in order takes
abbrev pub stream_room : List Sequenced → ℕ
stream_room ordered = pieces_room (fragments_of ordered)

-- ---- what a segment needs

-- a stream that is open, and its segments in order
abbrev pub OrderedStream : Type 0
OrderedStream = OpenStream × List Sequenced

-- A segment of an open stream needs its room, unless another has its sequence number.
pub record NeedsMore (c : NumberedSegment) (came : List NumberedSegment) (need : ℕ) : Type 0 where
  pub sequenced : List Sequenced
  pub are_sequenced : AreSequenced (first_sequence came) came sequenced
  pub sequence : ℕ
  pub near : IsNear (highest_in (first_sequence came) sequenced) c.1.number sequence
  pub needed : need ≡ option_map_or (λ other. 0) (at sequence sequenced) (segment_room c.1.payload)

-- a segment needs this room; the first one of a stream always does
abbrev pub Needs : Stream → NumberedSegment → List OpenStream → ℕ → Type 0
Needs stream c [] need = need ≡ segment_room c.1.payload
Needs stream c (o ∷ others) need = MatchBool (is_same_stream stream o.name) (NeedsMore c o.came need) (Needs stream c others need)

-- Streams fit their room: they are at most as many as may be open, and their segments take at most the maximum.
pub record FitRoom (opens : List OpenStream) : Type 0 where
  pub ordered : List (List Sequenced)
  pub are_ordered : AllZip AreOrdered opens ordered
  pub few : length opens ≤ max_streams
  pub room : sum_by stream_room ordered ≤ max_room

-- ---- which streams end

-- the number of the packet of the last segment that came
abbrev pub last_packet : List NumberedSegment → ℕ
last_packet came = fold (λ before c. c.0) 0 came

-- The number of the packet with which a stream came last, where a segment of this stream comes with a packet of this
-- number.
abbrev pub came_with : ℕ → Stream → OpenStream → ℕ
came_with number stream o = if is_same_stream stream o.name then number else last_packet o.came

-- how many streams there are with this one
abbrev pub count_with : Stream → List OrderedStream → ℕ
count_with stream opens = length (filter (λ o. not (is_same_stream stream o.0.name)) opens) + 1

-- beside these streams there is room for a segment of this stream that needs it
abbrev pub has_room : Stream → (need : ℕ) → List OrderedStream → Bool
has_room stream need opens = nat_le (count_with stream opens) max_streams && nat_le (sum_by (λ o. stream_room o.1) opens + need) max_room

-- the streams that came last with this packet or a later one
abbrev pub streams_since : ℕ → Stream → (packet : ℕ) → List OrderedStream → List OrderedStream
streams_since number stream packet = filter (λ o. nat_le packet (came_with number stream o.0))

-- A stream ends where there is no room, though all that came last before it end.
abbrev pub is_crowded : ℕ → Stream → (need : ℕ) → List OrderedStream → OrderedStream → Bool
is_crowded number stream need opens o = not (has_room stream need (streams_since number stream (came_with number stream o.0) opens))

-- A segment comes with a packet of this number: which streams end for want of room, and which stay.
pub record MakesRoom (number : ℕ) (stream : Stream) (c : NumberedSegment) (opens ended left : List OpenStream) : Type 0 where
  pub ordered : List (List Sequenced)
  pub are_ordered : AllZip AreOrdered opens ordered
  pub need : ℕ
  pub needed : Needs stream c opens need
  pub are_ended : ended ≡ map (λ o. o.0) (filter (is_crowded number stream need (zip opens ordered)) (zip opens ordered))
  pub are_left : left ≡ map (λ o. o.0) (filter (λ o. not (is_crowded number stream need (zip opens ordered) o)) (zip opens ordered))

-- so with a packet; what is no segment needs no room
abbrev pub EndsForRoom : ℕ → FoundPacket → DecodedPacket → (opens ended left : List OpenStream) → Type 0
EndsForRoom number packet (Ok (Segment s)) opens ended left = MakesRoom number (stream_of packet s) (number, s) opens ended left
EndsForRoom number packet _ opens ended left = (ended ≡ []) × (left ≡ opens)
