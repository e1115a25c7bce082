-- The lines of a packet, after its number and direction.
use Rattle.std.specs.Prelude.{◌≡◌, ◌&&◌, MatchBool, ℕ, Bool, true, false, List, [], ◌∷◌, ◌++◌, length, codes, Option, Some, None, Result, Ok, Err}
use Rattle.std.specs.List.{concat}
use Rattle.std.specs.Fmt.{decimal}
use Rattle.nsp_seg.specs.declared.packet.Packet.{Packet}
use Rattle.nsp_seg.specs.Packets.{Spells, HasFault}
use Rattle.nsp_seg.specs.declared.packet.Packet.TheVariants.{Segment, DataAck}
use Rattle.nsp_seg.specs.declared.packet.AckField.{AckField}
use Rattle.nsp_seg.specs.declared.packet.SegFault.{SegFault}
use Rattle.dap_meanings.specs.Faults.{fault_line}
use Rattle.texts.specs.Text.{line_feed, word_text}
use Rattle.dap_listing.specs.Messages.{IsMessagesText}

-- an acknowledgement field: its qualifier and its number
abbrev pub ack_text : AckField → List ℕ
ack_text ack = concat (decimal ack.qual ∷ codes ":" ∷ decimal ack.number ∷ [])

-- both fields
abbrev pub acks_text : Option AckField → Option AckField → List ℕ
acks_text None second = codes "-"
acks_text (Some first) None = ack_text first
acks_text (Some first) (Some second) = concat (ack_text first ∷ codes "," ∷ ack_text second ∷ [])

-- whether a segment is the first and the last of its message
abbrev pub mark_text : Bool → Bool → List ℕ
mark_text true true = codes "only"
mark_text true false = codes "first"
mark_text false true = codes "last"
mark_text false false = codes "middle"

-- a packet, or why the bytes are none
abbrev pub DecodedPacket : Type 0
DecodedPacket = Result Packet SegFault

-- the bytes are this packet, or have this fault
abbrev pub IsSeen : DecodedPacket → List ℕ → Type 0
IsSeen (Ok packet) bytes = Spells packet bytes
IsSeen (Err fault) bytes = HasFault fault bytes

-- the line of a packet, or of a fault
abbrev pub seen_line : DecodedPacket → List ℕ
seen_line (Ok (Segment s)) = concat (
    codes "segment " ∷ mark_text s.first s.last ∷ codes " dst=" ∷ word_text s.dst ∷ codes " src=" ∷ word_text s.src
    ∷ codes " seg=" ∷ decimal s.number ∷ codes " acks=" ∷ acks_text s.ack1 s.ack2 ∷ codes " len=" ∷ decimal (length s.payload) ∷ line_feed ∷ [])
seen_line (Ok (DataAck a)) = concat (
    codes "ack dst=" ∷ word_text a.dst ∷ codes " src=" ∷ word_text a.src ∷ codes " acks=" ∷ acks_text (Some a.ack1) a.ack2 ∷ line_feed ∷ [])
seen_line (Err fault) = fault_line fault

-- the lines of the messages in a segment that is a whole NSP message
abbrev pub SeenMessages : DecodedPacket → List ℕ → Type 0
SeenMessages (Ok (Segment s)) lines = MatchBool (s.first && s.last) (IsMessagesText false s.payload lines) (lines ≡ [])
SeenMessages _ lines = lines ≡ []

-- the line of what the bytes are, and the lines of its messages
pub record IsPacketText (bytes text : List ℕ) : Type 0 where
  pub seen : DecodedPacket
  pub messages : List ℕ
  pub is : IsSeen seen bytes
  pub listed : SeenMessages seen messages
  pub joined : text ≡ seen_line seen ++ messages
