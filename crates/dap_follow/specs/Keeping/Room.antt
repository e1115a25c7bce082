-- The room of streams, by what the program keeps of them.
use Rattle.std.specs.Prelude.{◌≡◌, ◌⊎◌, ℕ, ◌+◌, ◌≤◌, ◌&&◌, not, nat_le, nat_lt, ◌^◌, min, true, false, Bool, List, [], length, Option, Some, None, sum_by, if◌then◌else◌}
use Rattle.std.specs.List.{AllByRecursion, AllZip, filter}
use Rattle.std.specs.Map.{lookup}
use Rattle.std.specs.Option.{option_map_or}
use Rattle.nsp_seg.specs.declared.packet.SegmentFields.{SegmentFields}
use Rattle.dap_follow.specs.Streams.{NumberedSegment, OpenStream, is_same_stream}
use Rattle.dap_follow.specs.Room.{Needs, max_room, max_streams, segment_room}
use Rattle.dap_follow.specs.declared.kept.KeptSegments.{KeptSegments}
use Rattle.dap_follow.specs.declared.room.Coming.{Coming}
use Rattle.dap_follow.specs.declared.room.Crowd.{Crowd}
use Rattle.dap_follow.specs.declared.room.Taken.{Taken}
use Rattle.dap_follow.specs.declared.streams.Stream.{Stream}
use Rattle.dap_follow.specs.Keeping.Kept.{KnowsNumber}
use Rattle.dap_follow.specs.Keeping.Streams.{Entries, KeepsOpen}

-- the number of the packet with which a stream comes last
abbrev pub entry_came : Coming → Stream × KeptSegments → ℕ
entry_came c e = if is_same_stream c.stream e.0 then c.packet else e.1.last_packet

-- the streams that came last with this packet or a later one
abbrev pub entries_since : Coming → ℕ → Entries → Entries
entries_since c packet = filter (λ e. nat_le packet (entry_came c e))

-- how many there are beside a segment's
abbrev pub count_others : Coming → Entries → ℕ
count_others c entries = sum_by (λ e. if is_same_stream c.stream e.0 then 0 else 1) entries

-- the bytes that they take
abbrev pub held_by : Entries → ℕ
held_by entries = sum_by (λ e. e.1.held) entries

-- there is room for a segment that needs it
abbrev pub leaves_room : ℕ → Taken → Bool
leaves_room need t = nat_le (t.others + 1) max_streams && nat_le (t.held + need) max_room

-- what these take and one more
abbrev pub taken_and : Coming → Stream × KeptSegments → Taken → Taken
taken_and c e t = record {
  others = t.others + (if is_same_stream c.stream e.0 then 0 else 1);
  held = t.held + e.1.held;
  first = Some (option_map_or (λ one. min one (entry_came c e)) t.first (entry_came c e));
}

-- what these take, and one if it came last with this packet or a later one
abbrev pub taken_and_since : Coming → ℕ → Stream × KeptSegments → Taken → Taken
taken_and_since c packet e t = if nat_le packet (entry_came c e) then taken_and c e t else t

-- none of these came last before the first packet; where there is none, there are no streams
abbrev pub IsEarliest : Coming → Option ℕ → Entries → Type 0
IsEarliest c None entries = entries ≡ []
IsEarliest c (Some first) entries = AllByRecursion (λ e. first ≤ entry_came c e) entries

-- what the streams take that came last with this packet or a later one
pub record AreTaken (c : Coming) (packet : ℕ) (entries : Entries) (t : Taken) : Type 0 where
  pub others : t.others ≡ count_others c (entries_since c packet entries)
  pub held : t.held ≡ held_by (entries_since c packet entries)
  pub first : IsEarliest c t.first (entries_since c packet entries)
  pub later : option_map_or (λ one. nat_le packet one) t.first true ≡ true

-- there is room beside these streams
abbrev pub entries_leave_room : Coming → Entries → Bool
entries_leave_room c entries = nat_le (count_others c entries + 1) max_streams && nat_le (held_by entries + c.need) max_room

-- a stream ends for want of room, though all that came last before it end
abbrev pub is_crowded_entry : Coming → Entries → Stream × KeptSegments → Bool
is_crowded_entry c entries e = not (entries_leave_room c (entries_since c (entry_came c e) entries))

-- These end, and the others leave room, if there are others.
pub record IsCrowd (coming : Coming) (entries : Entries) (crowd : Crowd) : Type 0 where
  pub coming_is : crowd.coming ≡ coming
  pub each : AllByRecursion (λ e. nat_lt (entry_came coming e) crowd.since ≡ is_crowded_entry coming entries e) entries
  pub others : (entries_since coming crowd.since entries ≡ []) ⊎ (entries_leave_room coming (entries_since coming crowd.since entries) ≡ true)

-- a segment with this number came to the stream that is open, if it is
abbrev pub IsKnown : (number : ℕ) → Option KeptSegments → Bool → Type 0
IsKnown number None known = known ≡ false
IsKnown number (Some p) known = KnowsNumber number p known

-- the room that a segment needs, by whether one with its sequence number came
abbrev pub IsNeed : NumberedSegment → Option KeptSegments → ℕ → Type 0
IsNeed c o need = (has : Bool) × IsKnown c.1.number o has × (need ≡ (if has then 0 else segment_room c.1.payload))

-- a segment that comes with a packet, and what it needs
pub record IsComing (stream : Stream) (packet : ℕ) (segment : SegmentFields) (entries : Entries) (c : Coming) : Type 0 where
  pub stream_is : c.stream ≡ stream
  pub packet_is : c.packet ≡ packet
  pub needs : (number : ℕ) (opens : List OpenStream) → number ≤ 2 ^ 50 → AllZip (KeepsOpen number) opens entries
      → Needs stream (packet, segment) opens c.need
  pub need_is : IsNeed (packet, segment) (lookup (is_same_stream stream) entries) c.need

-- ---- how much room streams take

-- at most as many streams as may be open, and at most the room that they may take
abbrev pub AreWithinRoom : Entries → Type 0
AreWithinRoom entries = (length entries ≤ max_streams) × (held_by entries ≤ max_room)

-- beside these streams, which are within the room, a segment of this stream is so too
pub record HasPlace (stream : Stream) (c : SegmentFields) (entries : Entries) : Type 0 where
  pub within : AreWithinRoom entries
  pub known : Bool
  pub is_known : IsKnown c.number (lookup (is_same_stream stream) entries) known
  pub few : sum_by (λ e. if is_same_stream stream e.0 then 0 else 1) entries + 1 ≤ max_streams
  pub room : held_by entries + (if known then 0 else segment_room c.payload) ≤ max_room

-- A segment came to its stream: there is one stream more only if that wasn't open, and no more room is taken than the
-- segment needs.
pub record Grows (stream : Stream) (c : SegmentFields) (old new : Entries) : Type 0 where
  pub count : (length new ≡ length old) ⊎ (AllByRecursion (λ e. is_same_stream stream e.0 ≡ false) old × (length new ≡ length old + 1))
  pub room : (known : Bool) → IsKnown c.number (lookup (is_same_stream stream) old) known
      → held_by new ≤ held_by old + (if known then 0 else segment_room c.payload)
