-- What a link retransmits, and what it waits for.
use Rattle.std.specs.Prelude.{◌≡◌, MatchBool, ℕ, ◌+◌, ◌-◌, Bool, ◌||◌, ◌&&◌, nat_lt, List, length, if◌then◌else◌}
use Rattle.nsp_link.specs.Link.{LinkValue, IsSpelling, may_send, waiting_bytes}
use Rattle.nsp_link.specs.Sending.{ack_packet_of, may_queue}
use Rattle.dap_end.specs.Writing.{AreSegments}
use Rattle.nsp_link.specs.declared.fault.LinkFault.TheVariants.{Failed}
use Rattle.dap_live.specs.Texts.{link_refusal, packet_text}

-- a message that came isn't processed
abbrev pub has_message : LinkValue → Bool
has_message link = nat_lt 0 (length link.coming.inbox)

-- a message that came isn't served, and fewer bytes than this wait to be sent or to be acknowledged
abbrev pub may_serve_next : (most : ℕ) → LinkValue → Bool
may_serve_next most link = has_message link && nat_lt (waiting_bytes link) most

-- The link takes the NSP messages that wait; and one waits, or a message isn't processed, or a segment may be
-- sent. That is so only after a call that ran out of memory. That it comes only then isn't part of a contract.
abbrev pub is_left : LinkValue → (outbox : List (List ℕ)) → (more : Bool) → Bool
is_left link outbox more = may_queue link outbox && (nat_lt 0 (length outbox) || (more || may_send link))

-- the segments that are sent and not acknowledged, and one more where something is left; none on a link that has
-- failed
abbrev pub waits_of : LinkValue → (left : Bool) → ℕ
waits_of link left = if link.failed then 0 else link.sent - link.acked + (if left then 1 else 0)

-- the packets of all segments that aren't acknowledged, the oldest first
abbrev pub AllAgain : LinkValue → List (List ℕ) → Type 0
AllAgain link packets = AreSegments link (link.acked + 1) packets × (length packets ≡ link.sent - link.acked)

-- on a link that has failed `refused failed` is answered and nothing is done
abbrev pub UnlessFailed : LinkValue → (text : List ℕ) → (nothing this : Type 0) → Type 0
UnlessFailed link text nothing this = MatchBool link.failed (nothing × (text ≡ (link_refusal Failed).0)) this

-- the packet of an acknowledgement
abbrev pub SaysAck : LinkValue → List ℕ → Type 0
SaysAck link text =
    UnlessFailed link text (Unit {0}) ((bytes : List ℕ) × IsSpelling (ack_packet_of link) bytes × (text ≡ packet_text bytes))
