-- The lines of a listing.
use Rattle.std.specs.Prelude.{◌≡◌, MatchBool, ℕ, ◌+◌, ◌-◌, ◌%◌, ◌&&◌, nat_lt, Bool, List, [], ◌∷◌, ◌++◌, length, codes, if◌then◌else◌, Ok}
use Rattle.std.specs.List.{concat}
use Rattle.std.specs.Fmt.{decimal}
use Rattle.nsp_seg.specs.declared.packet.Packet.TheVariants.{Segment}
use Rattle.texts.specs.Text.{line_feed, word_text}
use Rattle.dap_meanings.specs.Meanings.{with_words}
use Rattle.link_words.specs.PacketWords.{frame_words, packet_words}
use Rattle.dap_listing.specs.Listing.{arrow_text, heading}
use Rattle.dap_listing.specs.Messages.{IsMessagesText}
use Rattle.dap_listing.specs.Packets.{DecodedPacket, seen_line}
use Rattle.decnet_frames.specs.Found.{FoundPacket}
use Rattle.decnet_frames.specs.Nodes.{nodes_text}
use Rattle.dap_follow.specs.Joined.{Fragment, is_message, payload, tail}
use Rattle.dap_follow.specs.declared.streams.Stream.{Stream}

-- ---- packets

-- the line of a packet without words
abbrev pub plain_line : ℕ → FoundPacket → DecodedPacket → List ℕ
plain_line number packet seen = heading number packet.way ++ (nodes_text packet.nodes ++ seen_line seen)

-- the line of a packet; where words are wanted, with what its frame is called, and those of what is no segment
abbrev pub packet_line : (in_words : Bool) → ℕ → FoundPacket → DecodedPacket → List ℕ
packet_line in_words number packet seen =
    if in_words then with_words (frame_words packet.frame ++ packet_words packet.bytes seen) (plain_line number packet seen) else plain_line number packet seen

-- the lines of the messages in a segment that is a whole NSP message
abbrev pub IsOwnText : (in_words : Bool) → DecodedPacket → List ℕ → Type 0
IsOwnText in_words (Ok (Segment s)) text = MatchBool (s.first && s.last) (IsMessagesText in_words s.payload text) (text ≡ [])
IsOwnText in_words _ text = text ≡ []

-- ---- messages

-- ` seg=A..B`: two sequence numbers
abbrev pub range_text : ℕ → ℕ → List ℕ
range_text from to = concat (codes " seg=" ∷ decimal (from % 4096) ∷ codes ".." ∷ decimal (to % 4096) ∷ [])

-- ` len=N`: how many bytes
abbrev pub length_text : List ℕ → List ℕ
length_text bytes = concat (codes " len=" ∷ decimal (length bytes) ∷ line_feed ∷ [])

-- after a word, the numbers of the first and last segment, and how many bytes they have
abbrev pub piece_text : List ℕ → Fragment → List ℕ
piece_text word p = word ++ (range_text p.head.sequence (tail p).sequence ++ length_text (payload p))

-- the lines of a message: its heading, and those of the DAP messages in it
abbrev pub IsMessageText : (in_words : Bool) → Fragment → List ℕ → Type 0
IsMessageText in_words p text = (lines : List ℕ) × IsMessagesText in_words (payload p) lines × (text ≡ piece_text (codes "  message") p ++ lines)

-- ---- parts and gaps

-- ` > A.N -> A.N dst=X src=X`
abbrev pub stream_text : Stream → List ℕ
stream_text s =
    concat (codes " " ∷ arrow_text s.way ∷ codes " " ∷ nodes_text s.nodes ∷ codes "dst=" ∷ word_text s.dst ∷ codes " src=" ∷ word_text s.src ∷ [])

-- segments that are no whole message
abbrev pub part_line : Stream → Fragment → List ℕ
part_line stream p = if is_message p then [] else codes "part" ++ piece_text (stream_text stream) p

-- the segments that are missing before the next ones
abbrev pub gap_line : Stream → Fragment → List Fragment → List ℕ
gap_line stream p [] = []
gap_line stream p (next ∷ others) =
    if nat_lt ((tail p).sequence + 1) next.head.sequence
    then codes "gap" ++ (stream_text stream ++ (range_text ((tail p).sequence + 1) (next.head.sequence - 1) ++ line_feed)) else []

-- the parts and gaps of a stream, in order
abbrev pub rest_lines : Stream → List Fragment → List ℕ
rest_lines stream [] = []
rest_lines stream (p ∷ others) = part_line stream p ++ gap_line stream p others ++ rest_lines stream others
