-- The listing of packets that were found, packet by packet.
use Rattle.std.specs.Prelude.{◌≡◌, ℕ, ◌+◌, ◌==◌, ◌&&◌, Bool, List, [], ◌∷◌, ◌++◌, MatchBool, None, Ok}
use Rattle.std.specs.List.{AllZip, concat, filter, flat_map, zip}
use Rattle.hex.specs.Hex.{decode_of}
use Rattle.dap_listing.specs.Lines.{Capture}
use Rattle.dap_listing.specs.Packets.{DecodedPacket, IsSeen}
use Rattle.decnet_frames.specs.Found.{FoundPacket}
use Rattle.dap_follow.specs.Streams.{AreOrdered, OpenStream, Sequenced, with_packet}
use Rattle.dap_follow.specs.Joined.{Fragment, is_message, latest, fragments_of}
use Rattle.dap_follow.specs.Ends.{streams_ended, left_by}
use Rattle.dap_follow.specs.Room.{EndsForRoom}
use Rattle.dap_follow.specs.Lines.{IsMessageText, IsOwnText, packet_line, rest_lines}
use Rattle.dap_follow.specs.declared.lister.Chosen.{Chosen}

-- ---- messages

-- the packet with which a piece is whole
abbrev pub whole_with : Fragment → ℕ
whole_with p = latest (p.head ∷ p.others)

-- a message that is whole with the packet
abbrev pub is_whole_with : ℕ → Fragment → Bool
is_whole_with packet p = is_message p && (whole_with p == packet)

-- The messages of a stream that are whole with a packet. By the law `listed_messages_stay` they stay so, whatever
-- segments come later.
abbrev pub whole_at : ℕ → List Sequenced → List Fragment
whole_at packet ordered = filter (is_whole_with packet) (fragments_of ordered)

-- the lines of the messages of some streams that are whole with a packet
pub record AreWholeTexts (in_words : Bool) (number : ℕ) (opens : List OpenStream) (text : List ℕ) : Type 0 where
  pub ordered : List (List Sequenced)
  pub texts : List (List ℕ)
  pub are_ordered : AllZip AreOrdered opens ordered
  pub are_texts : AllZip (IsMessageText in_words) (flat_map (whole_at number) ordered) texts
  pub joined : text ≡ concat texts

-- the parts and gaps of some streams, in the order in which the streams appeared
pub record AreRestTexts (ended : List OpenStream) (text : List ℕ) : Type 0 where
  pub ordered : List (List Sequenced)
  pub are_ordered : AllZip AreOrdered ended ordered
  pub joined : text ≡ flat_map (λ (o, segments). rest_lines o.name (fragments_of segments)) (zip ended ordered)

-- ---- packets

-- Segments are joined: parts and gaps of the streams that the packet ends, and of those that end for want of room for
-- it, its own line, and the messages that are whole with it.
pub record IsJoinedText (in_words : Bool) (number : ℕ) (packet : FoundPacket) (opens after : List OpenStream) (text : List ℕ) : Type 0 where
  pub seen : DecodedPacket
  pub crowd : List OpenStream
  pub left : List OpenStream
  pub rest : List ℕ
  pub rest_of_crowd : List ℕ
  pub messages : List ℕ
  pub is_seen : IsSeen seen packet.bytes
  pub are_rest : AreRestTexts (streams_ended packet opens) rest
  pub room : EndsForRoom number packet seen (left_by packet opens) crowd left
  pub are_rest_of_crowd : AreRestTexts crowd rest_of_crowd
  pub is_after : after ≡ with_packet number packet seen left
  pub are_messages : AreWholeTexts in_words number after messages
  pub joined : text ≡ rest ++ (rest_of_crowd ++ (packet_line in_words number packet seen ++ messages))

-- Segments aren't joined: the packet's line, and the messages in a segment that is whole by itself. No stream is open.
pub record IsSingleText (in_words : Bool) (number : ℕ) (packet : FoundPacket) (opens after : List OpenStream) (text : List ℕ) : Type 0 where
  pub seen : DecodedPacket
  pub messages : List ℕ
  pub is_seen : IsSeen seen packet.bytes
  pub is_after : after ≡ opens
  pub are_messages : IsOwnText in_words seen messages
  pub joined : text ≡ packet_line in_words number packet seen ++ messages

-- what is listed of a packet with this number, and the streams that are open before it and after it
abbrev pub IsFoundText : Chosen → ℕ → FoundPacket → (opens after : List OpenStream) → (text : List ℕ) → Type 0
IsFoundText chosen number packet opens after text =
    MatchBool chosen.is_joined (IsJoinedText chosen.in_words number packet opens after text) (IsSingleText chosen.in_words number packet opens after text)

-- what is listed of packets, the first of which has this number
abbrev pub ArePacketTexts : Chosen → ℕ → List FoundPacket → (opens after : List OpenStream) → (text : List ℕ) → Type 0
ArePacketTexts chosen number [] opens after text = (after ≡ opens) × (text ≡ [])
ArePacketTexts chosen number (packet ∷ packets) opens after text =
    (between : List OpenStream) × (first others : List ℕ) × IsFoundText chosen number packet opens between first
    × ArePacketTexts chosen (number + 1) packets between after others × (text ≡ first ++ others)

-- ---- captures

-- What is listed as these packets come, and what would be listed if the input ended with them: the parts and gaps of
-- the streams that are open then.
pub record PacketsAreListed (chosen : Chosen) (packets : List FoundPacket) (written rest : List ℕ) : Type 0 where
  pub opens : List OpenStream
  pub are_texts : ArePacketTexts chosen 1 packets [] opens written
  pub are_rest : AreRestTexts opens rest

-- ---- lines

-- the packet of a line before which no frame is told
abbrev pub IsLine : Capture → FoundPacket → Type 0
IsLine capture packet = (packet.way ≡ capture.0) × (packet.nodes ≡ None) × (decode_of capture.1 ≡ Ok packet.bytes)
