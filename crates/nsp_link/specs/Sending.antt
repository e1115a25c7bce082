-- What is queued and written.
use Rattle.std.specs.Prelude.{◌≡◌, ◌⊎◌, ℕ, ◌+◌, ◌-◌, ◌<◌, ◌++◌, ◌≢◌, Bool, false, not, ◌&&◌, nat_le, IsTrue, List, [], length, slice_index_or, slice_get, Option, Some}
use Rattle.std.specs.List.{list_all}
use Rattle.nsp_seg.specs.declared.packet.Packet.{Packet}
use Rattle.nsp_link.specs.declared.fault.LinkFault.{LinkFault}
use Rattle.nsp_link.specs.declared.fault.LinkFault.TheVariants.{MessageTooLong, Failed, Exhausted, NoMemory}
use Rattle.nsp_link.specs.Cutting.{Piece, cut}
use Rattle.nsp_link.specs.Limits.{max_segments}
use Rattle.nsp_link.specs.Link.{LinkValue, AreShort, may_send, Sends, Writes, IsSpelling, written_segment, written_ack}

-- a segment under its number
abbrev pub segment_packet : LinkValue → Piece → ℕ → Packet
segment_packet v piece number = written_segment v.setup.local v.setup.remote piece number v.coming.received

-- a packet that only acknowledges
abbrev pub ack_packet_of : LinkValue → Packet
ack_packet_of v = written_ack v.setup.local v.setup.remote v.coming.received

-- if the queue has a segment at this index, the bytes are that segment under this number
abbrev pub WritesQueued : LinkValue → ℕ → ℕ → List ℕ → Type 0
WritesQueued v index number bytes =
    (piece : Piece) → slice_get v.queue index ≡ Some piece → IsSpelling (segment_packet v piece number) bytes

-- The next segment was written: it counts as sent, and nothing else changed.
abbrev pub WritesNext : LinkValue → LinkValue → List ℕ → Type 0
WritesNext old new bytes =
    IsTrue (may_send old) × (new ≡ record old { sent = old.sent + 1 }) × WritesQueued old (old.sent - old.acked) (old.sent + 1) bytes

-- why the next segment isn't written
abbrev pub NextFault : LinkValue → LinkFault → Type 0
NextFault v e = ((e ≡ NoMemory) × IsTrue (may_send v)) ⊎ ((e ≡ Failed) × IsTrue v.failed)

-- whichever messages were sent, the bytes are what this end writes of their k-th segment, or of none
abbrev pub WritesSent : LinkValue → Option ℕ → List ℕ → Type 0
WritesSent v k bytes = (messages : List (List ℕ)) → Sends v messages → Writes v messages k v.coming.received bytes

-- an end with more segments queued
abbrev pub queued_link : LinkValue → List Piece → LinkValue
queued_link v pieces = record v { queue = v.queue ++ pieces }

-- Apart from memory, the end takes these messages, all or none: it hasn't failed, each is within the limit, and the
-- direction then has at most 2^40 segments.
abbrev pub may_queue : LinkValue → List (List ℕ) → Bool
may_queue v messages =
    not v.failed && (list_all (λ m. nat_le (length m) v.setup.max_message) messages
    && nat_le (v.acked + length v.queue + length (cut v.setup.seg_size messages)) max_segments)

-- Why none of the messages is sent: the first reason in this order. An empty list is never out of memory.
abbrev pub SendAllFault : LinkValue → List (List ℕ) → LinkFault → Type 0
SendAllFault v messages Failed = IsTrue v.failed
SendAllFault v messages MessageTooLong =
    (v.failed ≡ false) × ((k : ℕ) × (k < length messages) × (v.setup.max_message < length (slice_index_or messages k [])))
SendAllFault v messages Exhausted =
    (v.failed ≡ false) × AreShort v messages × (max_segments < v.acked + length v.queue + length (cut v.setup.seg_size messages))
SendAllFault v messages NoMemory = IsTrue (may_queue v messages) × (messages ≢ [])
SendAllFault v messages _ = ⊥
