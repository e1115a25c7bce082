-- What `receive` does with any packet, by the 12-bit numbers that it shows (NSP 4.0.0, data segment message and data
-- acknowledgement message). An address that is wrong is refused first, then an acknowledgement, then the segment.
use Rattle.std.specs.Prelude.{◌≡◌, ◌≢◌, ℕ, ◌+◌, ◌-◌, ◌≤◌, ◌&&◌, Bool, true, false, List, ◌∷◌, length, ◌⊎◌, Result, Ok, Err, IsOk, Option, Some, None, IfSome, MatchResult, nat_lt, ◌==◌, if◌then◌else◌}
use Rattle.nsp_seg.specs.Numbers.{residue}
use Rattle.nsp_link.specs.declared.fault.LinkFault.{LinkFault}
use Rattle.nsp_link.specs.declared.fault.LinkFault.TheVariants.{WrongLink, BadSequence, MessageTooLong, NoMemory, Failed, Malformed}
use Rattle.nsp_seg.specs.declared.packet.SegFault.{SegFault}
use Rattle.nsp_seg.specs.declared.packet.Packet.{Packet}
use Rattle.nsp_seg.specs.Packets.{Spells, HasFault}
use Rattle.nsp_seg.specs.declared.packet.Packet.TheVariants.{Segment, DataAck}
use Rattle.nsp_link.specs.declared.link.Got.{Got}
use Rattle.nsp_link.specs.declared.link.Got.TheVariants.{Accepted, Early, AckOnly}
use Rattle.nsp_link.specs.Cutting.{Piece}
use Rattle.nsp_link.specs.Coming.{with_all_taken, AllFitInOrder, RefusesAll}
use Rattle.nsp_link.specs.Holding.{following}
use Rattle.nsp_link.specs.Limits.{max_segments}
use Rattle.nsp_link.specs.Link.{LinkValue, got_of, held_after, Stands, SendsStill, failed_link, first_ack, piece_of, IsBetween, KeepsEarly, with_acked}
use Rattle.nsp_link.specs.Due.{IsDue, DeliversPacket, MayRefuse}

-- How many segments a field acknowledges anew. A number that is 2,048 or more ahead is old, and acknowledges none;
-- nor does a packet without a field. There is none where more are acknowledged than were sent: that is a bad
-- sequence. Everything else is believed.
abbrev pub newly_acked : LinkValue → Option ℕ → Option ℕ
newly_acked v None = Some 0
newly_acked v (Some n) =
    let ahead = residue (n + 4096 - residue v.acked) in
    if nat_lt ahead 2048 then (if nat_lt (v.sent - v.acked) ahead then None else Some ahead) else Some 0

-- the next segment and all held ones that follow it without a hole
abbrev pub run : LinkValue → Piece → List Piece
run v p = p ∷ following (v.coming.received + 1) v.held

-- The segment that has a number: less than 2,048 ahead of the next one, or else before it.
abbrev pub segment_number : LinkValue → ℕ → ℕ
segment_number v number =
    let ahead = residue (number + 4096 - residue (v.coming.received + 1)) in
    if nat_lt ahead 2048 then v.coming.received + 1 + ahead else v.coming.received + 1 + ahead - 4096

-- an end that took in the k-th segment: the next one with all that follow it, or an early one that it keeps
abbrev pub taking_in : LinkValue → ℕ → Piece → LinkValue
taking_in v k p =
    let c = if k == v.coming.received + 1 then with_all_taken v.coming (run v p) else v.coming in
    record v { coming = c; held = held_after v (Some k) p }

-- the refusals after which the end has failed
abbrev pub ends_link : LinkFault → Bool
ends_link BadSequence = true
ends_link MessageTooLong = true
ends_link _ = false

-- the end after a refusal
abbrev pub end_after_refusal : LinkFault → LinkValue → LinkValue
end_after_refusal e v = if ends_link e then failed_link v else v

-- what an acknowledgement takes from an end
abbrev pub Acknowledges : LinkValue → Option ℕ → LinkValue → LinkValue → Type 0
Acknowledges old number mid new = (count : ℕ) × (newly_acked old number ≡ Some count) × (new ≡ with_acked mid count)

-- why the k-th segment isn't taken: the next one and those that follow it misfit; or memory is refused to an early
-- one
abbrev pub NotTaken : LinkValue → ℕ → Piece → LinkFault → Type 0
NotTaken v k p e = ((k ≡ v.coming.received + 1) × RefusesAll v.setup.max_message v.coming (run v p) e) ⊎ (KeepsEarly v k × (e ≡ NoMemory))

-- why a packet from the other end is refused: its acknowledgement comes before its segment
abbrev pub Refuses : LinkValue → Packet → LinkFault → Type 0
Refuses v (Segment s) e =
    ((newly_acked v (first_ack s.ack1 s.ack2) ≡ None) × (e ≡ BadSequence))
    ⊎ ((newly_acked v (first_ack s.ack1 s.ack2) ≢ None) × NotTaken v (segment_number v s.number) (piece_of s) e)
Refuses v (DataAck s) e = (newly_acked v (first_ack (Some s.ack1) s.ack2) ≡ None) × (e ≡ BadSequence)

-- how a packet from the other end is answered, and what the end is afterwards
abbrev pub Takes : LinkValue → Packet → Got → LinkValue → Type 0
Takes old (Segment s) got new =
    let k = segment_number old s.number in
    (got ≡ got_of old.coming.received (Some k)) × (got ≡ Accepted → AllFitInOrder old.setup.max_message old.coming (run old (piece_of s)))
    × Acknowledges old (first_ack s.ack1 s.ack2) (taking_in old k (piece_of s)) new
Takes old (DataAck s) got new = (got ≡ AckOnly) × Acknowledges old (first_ack (Some s.ack1) s.ack2) old new

-- What an end that hasn't failed does with any packet: what it returns, and what it is afterwards.
abbrev pub ReceivesPacket : LinkValue → Packet → Result Got LinkFault → LinkValue → Type 0
ReceivesPacket old p (Ok got) new = IsBetween old.setup.remote old.setup.local p × Takes old p got new
ReceivesPacket old p (Err e) new =
    let way = IsBetween old.setup.remote old.setup.local p in
    (((way → ⊥) × (e ≡ WrongLink)) ⊎ (way × Refuses old p e)) × (new ≡ end_after_refusal e old)

-- ---- What an end does with any bytes.

-- the bytes are malformed, and nothing changes; or they are a packet, and its numbers decide
abbrev pub ReceivedBytes : (old new : LinkValue) → List ℕ → Result Got LinkFault → Type 0
ReceivedBytes old new bytes result =
    ((f : SegFault) × (result ≡ Err (Malformed f)) × HasFault f bytes × (new ≡ old))
    ⊎ ((p : Packet) × Spells p bytes × ReceivesPacket old p result new)

-- A packet that is due. The answer follows from the number k of its segment and the number of segments taken. The
-- counts and what is held move as `Delivered` says. The end has still taken the first segments of the same messages,
-- so it returns exactly those whose last segment it has taken, each once and in order. Only a refused allocation,
-- or the limit of 2^40 segments, refuses it, and then nothing changes.
abbrev pub ReceivedDue : (old new : LinkValue) → List ℕ → Result Got LinkFault → Type 0
ReceivedDue old new bytes result =
    (size : ℕ) (messages given : List (List ℕ)) (p : Packet) (k : Option ℕ) (a : ℕ)
    → Spells p bytes → IsDue old size messages given p k a
    → MatchResult result
    (λ got. (got ≡ got_of old.coming.received k) × DeliversPacket old new k a × Stands new size messages given)
    (λ e. MayRefuse old k e × (new ≡ old))

-- A packet that is due and only acknowledges, or whose segment was taken before, is never refused.
abbrev pub UnrefusedDue : LinkValue → List ℕ → Result Got LinkFault → Type 0
UnrefusedDue old bytes result =
    (size : ℕ) (messages given : List (List ℕ)) (p : Packet) (k : Option ℕ) (a : ℕ)
    → Spells p bytes → IsDue old size messages given p k a → IfSome k (λ n. n ≤ old.coming.received) → IsOk result

-- ---- What an end does that holds no segment with more bytes than a message may have.

-- an early segment that belongs to no message of this end: it has more bytes than a message may have
abbrev pub is_oversize : LinkValue → Packet → Bool
is_oversize v (Segment s) = nat_lt (v.coming.received + 1) (segment_number v s.number) && nat_lt v.setup.max_message (length s.payload)
is_oversize v (DataAck s) = false

-- it is answered as early and isn't held: its acknowledgement alone is taken
abbrev pub LetsGo : LinkValue → Packet → Result Got LinkFault → LinkValue → Type 0
LetsGo old (Segment s) (Ok got) new =
    IsBetween old.setup.remote old.setup.local (Segment s) × (got ≡ Early) × Acknowledges old (first_ack s.ack1 s.ack2) old new
LetsGo old (Segment s) (Err e) new =
    let way = IsBetween old.setup.remote old.setup.local (Segment s) in
    (((way → ⊥) × (e ≡ WrongLink)) ⊎ (way × (newly_acked old (first_ack s.ack1 s.ack2) ≡ None) × (e ≡ BadSequence))) × (new ≡ end_after_refusal e old)
LetsGo old (DataAck s) result new = ⊥

-- what such an end that hasn't failed does with any packet
abbrev pub ReceivesBounded : LinkValue → Packet → Result Got LinkFault → LinkValue → Type 0
ReceivesBounded old p result new =
    ((is_oversize old p ≡ true) × LetsGo old p result new) ⊎ ((is_oversize old p ≡ false) × ReceivesPacket old p result new)

-- the bytes are malformed, which changes nothing, or they are a packet, and its numbers and length decide
abbrev pub BoundedBytes : (old new : LinkValue) → List ℕ → Result Got LinkFault → Type 0
BoundedBytes old new bytes result =
    ((f : SegFault) × (result ≡ Err (Malformed f)) × HasFault f bytes × (new ≡ old))
    ⊎ ((p : Packet) × Spells p bytes × ReceivesBounded old p result new)

-- All that such an end does with any bytes. By the law `receiving_is_determined` two outcomes of one call on the same
-- end are equal, unless memory was refused.
pub record Receives (old new : LinkValue) (bytes : List ℕ) (result : Result Got LinkFault) : Type 0 where
  pub failed : old.failed ≡ true → (result ≡ Err Failed) × (new ≡ old)
  pub any : old.failed ≡ false → BoundedBytes old new bytes result
  pub due : ReceivedDue old new bytes result
  -- no end takes more segments than that
  pub few : new.coming.received ≤ max_segments
  -- the messages sent stay those that were sent
  pub sends : SendsStill old new
