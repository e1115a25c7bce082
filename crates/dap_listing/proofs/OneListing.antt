-- What the lines say is determined by the bytes, so an input has one listing at the most.
use Rattle.std.proofs.Common.{◌≡◌, ◌<◌, ◌+◌, ◌*◌, ◌++◌, ℕ, suc, Bool, true, false, List, [], ◌∷◌, get_or, length, codes, Ok, Err, sym, ap, ◌∙◌, subst, refl}
use Rattle.std.specs.List.{concat, flat_map}
use Rattle.std.specs.Fmt.{decimal}
use Rattle.hex.proofs.HexLemmas.{decode_of-ok, decode_of-same}
use Rattle.dap_msg.proofs.ForCallers.{have_items}
use Rattle.nsp_seg.specs.declared.packet.SegmentFields.{SegmentFields}
use Rattle.nsp_seg.specs.Packets.{Spells, marks, optional_ack}
use Rattle.nsp_seg.specs.declared.packet.Packet.TheVariants.{Segment, DataAck}
use Rattle.std.specs.Int.{w16, to_le_bytes}
use Rattle.nsp_seg.proofs.ForCallers.{spells-one, spells-apart, fault-one}
use Rattle.dap_listing.specs.Messages.{IsMessagesText, item_line_in}
use Rattle.dap_listing.specs.Packets.{IsPacketText, IsSeen, DecodedPacket, SeenMessages, seen_line}
use Rattle.dap_listing.specs.Inner.Messages.{SegmentMessages}
use Rattle.dap_listing.specs.Listing.{CaptureLines, IsCapturedText, no_capture_more, one_capture_more, captures, heading, line_limit}
use Rattle.dap_listing.specs.Lines.{Capture}
use Rattle.dap_listing.specs.declared.listing.Listed.{Listed}
use Rattle.dap_listing.specs.declared.listing.Listed.TheVariants.{Packets, Messages}
use Rattle.texts.specs.Text.{line_feed}

-- each is a byte
abbrev AreBytes : List ℕ → Type 0
AreBytes bytes = (i : ℕ) → get_or bytes i 0 < 256

-- bytes have one text of messages at most
pub one_text : (in_words : Bool) (bytes a b : List ℕ) → AreBytes bytes → IsMessagesText in_words bytes a → IsMessagesText in_words bytes b → a ≡ b
one_text in_words bytes a b are lines others =
    let all = have_items bytes are in
    lines.2 ∙ ap (flat_map (item_line_in in_words)) (all.only lines.0 lines.1 ∙ sym (all.only others.0 others.1)) ∙ sym others.2

one_of_segment : (first last : Bool) (payload a b : List ℕ) → AreBytes payload → SegmentMessages first last payload a → SegmentMessages first last payload b → a ≡ b
one_of_segment true true payload a b are lines lines' = one_text false payload a b are lines lines'
one_of_segment true false payload a b are none none' = none ∙ sym none'
one_of_segment false last payload a b are none none' = none ∙ sym none'

behind : (front payload : List ℕ) → AreBytes (front ++ payload) → AreBytes payload
behind [] payload are i = are i
behind (b ∷ front) payload are i = behind front payload (λ k. are (suc k)) i

-- a segment's payload is of bytes where it is
pub payload_of : (s : SegmentFields) (bytes : List ℕ) → AreBytes bytes → Spells (Segment s) bytes → AreBytes s.payload
payload_of s bytes are spelled =
    behind (marks s.first s.last ∷ [] ++ to_le_bytes w16 s.dst ++ to_le_bytes w16 s.src ++ optional_ack s.ack1 ++ optional_ack s.ack2
    ++ to_le_bytes w16 (0x1000 * spelled.free + s.number)) s.payload (subst AreBytes spelled.spelled are)

-- bytes are one packet, or have one fault
pub one_seen : (bytes : List ℕ) (a b : DecodedPacket) → AreBytes bytes → IsSeen a bytes → IsSeen b bytes → a ≡ b
one_seen bytes (Ok p) (Ok q) are is other = ap Ok (spells-one p q bytes is other)
one_seen bytes (Ok p) (Err fault) are is other = absurd (spells-apart p fault bytes are is other)
one_seen bytes (Err fault) (Ok p) are is other = absurd (spells-apart p fault bytes are other is)
one_seen bytes (Err fault) (Err fault') are is other = ap Err (fault-one fault fault' bytes are is other)

one_of_seen : (seen : DecodedPacket) (bytes a b : List ℕ) → AreBytes bytes → IsSeen seen bytes → SeenMessages seen a → SeenMessages seen b → a ≡ b
one_of_seen (Ok (Segment s)) bytes a b are is lines lines' = one_of_segment s.first s.last s.payload a b (payload_of s bytes are is) lines lines'
one_of_seen (Ok (DataAck v)) bytes a b are is none none' = none ∙ sym none'
one_of_seen (Err fault) bytes a b are is none none' = none ∙ sym none'

one_packet : (bytes a b : List ℕ) → AreBytes bytes → IsPacketText bytes a → IsPacketText bytes b → a ≡ b
one_packet bytes a b are text text' =
    let same : text'.seen ≡ text.seen = one_seen bytes text'.seen text.seen are text'.is text.is in
    let listed = subst (λ (seen : DecodedPacket). SeenMessages seen text'.messages) same text'.listed in
    let equal : text.messages ≡ text'.messages = one_of_seen text.seen bytes text.messages text'.messages are text.is text.listed listed in
    text.joined ∙ ap (λ (m : List ℕ). seen_line text.seen ++ m) equal ∙ ap (λ (seen : DecodedPacket). seen_line seen ++ text'.messages) (sym same) ∙ sym text'.joined

one_message : (bytes a b : List ℕ) → AreBytes bytes → IsCapturedText Messages bytes a → IsCapturedText Messages bytes b → a ≡ b
one_message bytes a b are text text' =
    let same : text.0 ≡ text'.0 = one_text false bytes text.0 text'.0 are text.1 text'.1 in
    text.2 ∙ ap (λ t. concat (codes "message len=" ∷ decimal (length bytes) ∷ line_feed ∷ []) ++ t) same ∙ sym text'.2

one_captured : (listed : Listed) (bytes a b : List ℕ) → AreBytes bytes → IsCapturedText listed bytes a → IsCapturedText listed bytes b → a ≡ b
one_captured Packets bytes a b are text text' = one_packet bytes a b are text text'
one_captured Messages bytes a b are text text' = one_message bytes a b are text text'

one_list : (listed : Listed) (number : ℕ) (captured : List Capture) (a b : List ℕ) → CaptureLines listed number captured a → CaptureLines listed number captured b → a ≡ b
one_list listed number captured a b no_capture_more no_capture_more = refl
one_list listed number captured a b (one_capture_more {direction = direction} {digits = digits} {others = others} bytes first rest decoded text lines) (one_capture_more bytes' first' rest' decoded' text' lines') =
    let same : bytes' ≡ bytes = decode_of-same digits bytes' bytes decoded' decoded in
    let firsts = one_captured listed bytes first first' (decode_of-ok digits bytes decoded).3 text (subst (λ x. IsCapturedText listed x first') same text') in
    let rests = one_list listed (number + 1) others rest rest' lines lines' in
    ap (λ t. (heading number direction ++ t) ++ rest) firsts ∙ ap (λ t. (heading number direction ++ first') ++ t) rests

pub one_listing : (listed : Listed) (input a b : List ℕ) → CaptureLines listed 1 (captures (line_limit listed) input) a
    → CaptureLines listed 1 (captures (line_limit listed) input) b → a ≡ b
one_listing listed input a b text text' = one_list listed 1 (captures (line_limit listed) input) a b text text'
