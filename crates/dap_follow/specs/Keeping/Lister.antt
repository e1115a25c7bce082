-- What the lister keeps.
use Rattle.std.specs.Prelude.{◌≡◌, ⊤, ℕ, ◌+◌, ◌^◌, ◌≤◌, Bool, List, [], Ok}
use Rattle.std.specs.List.{AllZip}
use Rattle.nsp_seg.specs.declared.packet.Packet.TheVariants.{Segment}
use Rattle.dap_listing.specs.Packets.{DecodedPacket, IsSeen}
use Rattle.decnet_frames.specs.Found.{FoundPacket}
use Rattle.dap_follow.specs.Streams.{OpenStream, stream_of, with_packet}
use Rattle.dap_follow.specs.Ends.{streams_ended, left_by}
use Rattle.dap_follow.specs.Room.{EndsForRoom, IsShortPacket, max_room, segment_room}
use Rattle.dap_follow.specs.Lines.{IsMessageText}
use Rattle.dap_follow.specs.Listed.{AreRestTexts, AreWholeTexts, IsJoinedText, IsFoundText, IsSingleText}
use Rattle.dap_follow.specs.Keeping.Kept.{IsWholeMessage}
use Rattle.dap_follow.specs.Keeping.Rest.{rest_of_each}
use Rattle.dap_follow.specs.Keeping.Room.{AreWithinRoom, HasPlace}
use Rattle.dap_follow.specs.Keeping.Endings.{is_chosen}
use Rattle.dap_follow.specs.Keeping.Streams.{Entries, KeepsOpen}
use Rattle.dap_follow.specs.declared.ending.Ending.TheVariants.{All}
use Rattle.dap_follow.specs.declared.kept.Whole.{Whole}
use Rattle.dap_follow.specs.Joined.{Fragment}
use Rattle.dap_follow.specs.declared.lister.Chosen.{Chosen}
use Rattle.dap_follow.specs.declared.lister.Lister.{Lister}

-- the streams that are open before the packet with a number
abbrev pub KeepsAll : ℕ → List OpenStream → Entries → Type 0
KeepsAll number opens entries = AllZip (KeepsOpen number) opens entries

-- what is kept before the packet with a number
pub record Keeps (chosen : Chosen) (number : ℕ) (opens : List OpenStream) (l : Lister) : Type 0 where
  pub chosen_are : l.chosen ≡ chosen
  pub number_is : number ≡ l.packets + 1
  pub streams : KeepsAll number opens l.streams.live.entries

-- no packet came yet
abbrev pub ListerStarts : Lister → Type 0
ListerStarts l = Keeps l.chosen 1 [] l

-- what is kept of streams is within their room
abbrev pub KeepsWithinRoom : Lister → Type 0
KeepsWithinRoom l = AreWithinRoom l.streams.live.entries

-- the segment that a packet is, if it is one, fits the room
abbrev pub IsSmall : DecodedPacket → Type 0
IsSmall (Ok (Segment s)) = segment_room s.payload ≤ max_room
IsSmall _ = ⊤

-- beside these streams there is room for what a packet is
abbrev pub HasRoomFor : FoundPacket → DecodedPacket → Entries → Type 0
HasRoomFor packet (Ok (Segment s)) entries = HasPlace (stream_of packet s) s entries
HasRoomFor packet _ entries = AreWithinRoom entries

-- streams ended, and this is what was left of them
abbrev pub EndsStreams : FoundPacket → (old new : Entries) → List ℕ → Type 0
EndsStreams packet old new text = (number : ℕ) (opens : List OpenStream) → KeepsAll number opens old
    → AreRestTexts (streams_ended packet opens) text × KeepsAll number (left_by packet opens) new × (AreWithinRoom old → AreWithinRoom new)

-- Streams ended for want of room for what a packet is, and this is what was left of them.
abbrev pub EndsCrowd : FoundPacket → DecodedPacket → (number : ℕ) → (old new : Entries) → List ℕ → Type 0
EndsCrowd packet seen number old new text = (opens : List OpenStream) → number ≤ 2 ^ 50 → KeepsAll number opens old
    → (crowd left : List OpenStream) × EndsForRoom number packet seen opens crowd left × AreRestTexts crowd text × KeepsAll number left new
    × (IsSmall seen → AreWithinRoom old → HasRoomFor packet seen new)

-- A packet came to the streams, and messages are whole with it.
abbrev pub TellsWhole : (in_words : Bool) → (number : ℕ) → FoundPacket → DecodedPacket → (old new : Entries) → List ℕ → Type 0
TellsWhole in_words number packet seen old new text = (opens : List OpenStream) → number ≤ 2 ^ 50 → KeepsAll number opens old
    → AreWholeTexts in_words number (with_packet number packet seen opens) text × KeepsAll (number + 1) (with_packet number packet seen opens) new
    × (HasRoomFor packet seen old → AreWithinRoom new)

-- the lines of a packet whose segment is joined with others
abbrev pub TellsJoined : FoundPacket → DecodedPacket → Lister → Lister → List ℕ → Type 0
TellsJoined packet seen old new text = (opens : List OpenStream) → IsSeen seen packet.bytes → old.packets ≤ 2 ^ 50
    → KeepsAll old.packets opens old.streams.live.entries
    → (after : List OpenStream) × IsJoinedText old.chosen.in_words old.packets packet opens after text × KeepsAll (old.packets + 1) after new.streams.live.entries
    × (IsSmall seen → KeepsWithinRoom old → KeepsWithinRoom new)

-- the lines of a packet whose segment isn't joined with others
abbrev pub TellsSingle : FoundPacket → DecodedPacket → Lister → List ℕ → Type 0
TellsSingle packet seen l text = IsSeen seen packet.bytes → (opens : List OpenStream) → IsSingleText l.chosen.in_words l.packets packet opens opens text

-- the lines of the message that is whole and has these bytes
abbrev pub IsToldText : (in_words : Bool) → (bytes : List ℕ) → Whole → List ℕ → Type 0
IsToldText in_words bytes w text = (m : Fragment) → IsWholeMessage bytes w m → IsMessageText in_words m text

-- what is left of all streams
abbrev pub rest_of : Lister → List ℕ
rest_of l = rest_of_each (is_chosen All) l.streams.live.entries

-- one packet more
abbrev pub takes : Lister → FoundPacket → Lister → List ℕ → Type 0
takes old packet new text = (chosen : Chosen) (number : ℕ) (opens : List OpenStream) → Keeps chosen number opens old
    → (after : List OpenStream) × Keeps chosen (number + 1) after new × IsFoundText chosen number packet opens after text
    × (IsShortPacket packet → KeepsWithinRoom old → KeepsWithinRoom new)
