-- One end of a link, as its callers see it.
use Rattle.std.specs.Prelude.{◌≡◌, ◌≢◌, ◌⊎◌, ℕ, ◌+◌, ◌-◌, ◌<◌, ◌≤◌, ◌==◌, Bool, true, false, List, [], ◌∷◌, ◌++◌, length, take, drop, Option, Some, None, IfSome, unwrap_or, nat_lt, if◌then◌else◌, slice_get, All, ◌&&◌}
use Rattle.std.specs.Option.{option_or}
use Rattle.std.specs.List.{AllByRecursion}
use Rattle.std.specs.Ordering.{nat_cmp}
use Rattle.std.specs.BTreeSet.{insert_key}
use Rattle.nsp_seg.specs.Numbers.{residue}
use Rattle.nsp_seg.specs.declared.packet.AckField.{AckField}
use Rattle.nsp_seg.specs.declared.packet.Packet.{Packet}
use Rattle.nsp_seg.specs.declared.packet.SegmentFields.{SegmentFields}
use Rattle.nsp_seg.specs.Packets.{FitsFields, spelling}
use Rattle.nsp_seg.specs.declared.packet.Packet.TheVariants.{Segment, DataAck}
use Rattle.nsp_link.specs.declared.link.LinkSetup.{LinkSetup}
use Rattle.nsp_link.specs.declared.link.Got.{Got}
use Rattle.nsp_link.specs.declared.link.Got.TheVariants.{Accepted, Repeat, Early, AckOnly}
use Rattle.nsp_link.specs.declared.fault.LinkFault.{LinkFault}
use Rattle.nsp_link.specs.declared.fault.LinkFault.TheVariants.{BadSetup, NoMemory}
use Rattle.nsp_link.specs.Cutting.{Piece, cut, bytes_in, part_after}
use Rattle.nsp_link.specs.Coming.{Coming, nothing_came, with_all_taken}
use Rattle.nsp_link.specs.Holding.{AreHeld, following}
use Rattle.nsp_link.specs.Limits.{max_segment, max_window, max_age, min_limit, max_limit, max_segments}

-- what an end keeps
pub record LinkValue : Type 0 where
  pub setup : LinkSetup
  -- how many segments were sent, how many of these are acknowledged, and the segments after those, sent or not
  pub sent : ℕ
  pub acked : ℕ
  pub queue : List Piece
  -- how many bytes of the message to which the oldest of these belongs are acknowledged
  pub part : ℕ
  -- what it has of the other's messages, and early segments by their numbers
  pub coming : Coming
  pub held : List (ℕ × Piece)
  -- whether a packet showed that the two ends have lost each other
  pub failed : Bool

-- the limits of a setup: segments of 1 to 1,400 bytes, a window of 1 to 2,047, messages of 64 to 65,535 bytes
abbrev pub IsSetup : LinkSetup → Type 0
IsSetup s =
    (1 ≤ s.seg_size) × (s.seg_size ≤ max_segment) × (1 ≤ s.window) × (s.window ≤ max_window)
    × (min_limit ≤ s.max_message) × (s.max_message ≤ max_limit)

-- why no end is made
abbrev pub SetupFault : LinkSetup → LinkFault → Type 0
SetupFault s e = ((e ≡ BadSetup) × (IsSetup s → ⊥)) ⊎ ((e ≡ NoMemory) × IsSetup s)

-- an end that has sent and taken nothing
abbrev pub new_link : LinkSetup → LinkValue
new_link s = record {
  setup = s;
  sent = 0;
  acked = 0;
  queue = [];
  part = 0;
  coming = nothing_came;
  held = [];
  failed = false;
}

-- what holds of every end
pub record IsLink (v : LinkValue) : Type 0 where
  pub setup : IsSetup v.setup
  pub acked : v.acked ≤ v.sent
  pub within : v.sent ≤ v.acked + v.setup.window
  pub queued : v.sent ≤ v.acked + length v.queue
  pub few_sent : v.acked + length v.queue ≤ max_segments
  pub few_taken : v.coming.received ≤ max_segments
  pub partial : length (unwrap_or v.coming.partial []) ≤ v.setup.max_message
  -- the sequence numbers of those that are held are above the next one, within the window
  pub held : AreHeld (v.coming.received + 1) (v.coming.received + 1 + v.setup.window) v.held

-- an end that has failed, otherwise as before
abbrev pub failed_link : LinkValue → LinkValue
failed_link v = record v { failed = true }

-- every message is short enough for this end
abbrev pub AreShort : LinkValue → List (List ℕ) → Type 0
AreShort v messages = All (λ m. length m ≤ v.setup.max_message) messages

-- ---- sending

-- These are the messages sent: what is queued are their segments after those that are acknowledged. The messages
-- themselves are stored nowhere. So contracts hold for every list of messages that fits what is queued.
pub record Sends (v : LinkValue) (messages : List (List ℕ)) : Type 0 where
  pub queue : v.queue ≡ drop v.acked (cut v.setup.seg_size messages)
  pub acked : v.acked ≤ length (cut v.setup.seg_size messages)
  pub part : v.part ≡ part_after 0 (take v.acked (cut v.setup.seg_size messages))

-- The first of these messages are acknowledged whole, and of the next one the last segment isn't: these are left.
pub record AreUnfinished (size : ℕ) (messages : List (List ℕ)) (acked : ℕ) (left : List (List ℕ)) : Type 0 where
  pub done : List (List ℕ)
  pub all : messages ≡ done ++ left
  pub whole : length (cut size done) ≤ acked
  pub next : (m : List ℕ) (later : List (List ℕ)) → left ≡ m ∷ later → acked < length (cut size (done ++ m ∷ []))

-- The bytes that wait at this end: of each message that was sent, all its bytes until its last segment is
-- acknowledged. The law `whole_messages_wait` says this of `AreUnfinished` messages.
abbrev pub waiting_bytes : LinkValue → ℕ
waiting_bytes v = v.part + bytes_in v.queue

-- whichever messages were sent, the same are sent afterwards
abbrev pub SendsStill : LinkValue → LinkValue → Type 0
SendsStill old new = (messages : List (List ℕ)) → Sends old messages → Sends new messages

-- whichever messages were sent, these are sent after them
abbrev pub SendsMore : LinkValue → LinkValue → List (List ℕ) → Type 0
SendsMore old new more = (messages : List (List ℕ)) → Sends old messages → Sends new (messages ++ more)

-- a segment waits, and the window has room
abbrev pub may_send : LinkValue → Bool
may_send v = nat_lt v.sent (v.acked + length v.queue) && nat_lt v.sent (v.acked + v.setup.window)

-- ---- packets on the way

-- the number of a field that acknowledges segments of this subchannel
abbrev pub plain_ack : Option AckField → Option ℕ
plain_ack None = None
plain_ack (Some a) = if a.qual == 0 then Some a.number else None

-- the number of the first of two fields that acknowledges segments of this subchannel
abbrev pub first_ack : Option AckField → Option AckField → Option ℕ
first_ack ack1 ack2 = option_or (plain_ack ack1) (plain_ack ack2)

-- a segment without its number and addresses
abbrev pub piece_of : SegmentFields → Piece
piece_of s = record { first = s.first; last = s.last; payload = s.payload }

-- The packet is the k-th of these segments, numbered from 1, or only an acknowledgement, and
-- acknowledges the first a segments of the other direction.
abbrev pub Carries : Packet → List Piece → Option ℕ → ℕ → Type 0
Carries (Segment s) pieces (Some k) a =
    (1 ≤ k) × (slice_get pieces (k - 1) ≡ Some (piece_of s)) × (s.number ≡ residue k) × (first_ack s.ack1 s.ack2 ≡ Some (residue a))
Carries (DataAck s) pieces None a = first_ack (Some s.ack1) s.ack2 ≡ Some (residue a)
Carries _ pieces _ a = ⊥

-- the packet goes from one address to the other
abbrev pub IsBetween : ℕ → ℕ → Packet → Type 0
IsBetween src dst (Segment s) = (s.src ≡ src) × (s.dst ≡ dst)
IsBetween src dst (DataAck s) = (s.src ≡ src) × (s.dst ≡ dst)

-- ---- packets as an end writes them

-- the one acknowledgement field of a packet that is written: of the first a segments
abbrev pub acknowledging : ℕ → AckField
acknowledging a = record { qual = 0; number = residue a }

-- the k-th segment as it is written, from one address to the other
abbrev pub written_segment : ℕ → ℕ → Piece → ℕ → ℕ → Packet
written_segment src dst piece k a = Segment (record {
  first = piece.first;
  last = piece.last;
  dst = dst;
  src = src;
  ack1 = Some (acknowledging a);
  ack2 = None;
  number = residue k;
  payload = piece.payload;
})

-- what is written that only acknowledges
abbrev pub written_ack : ℕ → ℕ → ℕ → Packet
written_ack src dst a = DataAck (record { dst = dst; src = src; ack1 = acknowledging a; ack2 = None })

-- The one packet that is written of the k-th of these segments, numbered from 1, or of none, and of an
-- acknowledgement of the first a segments of the other direction.
abbrev pub IsPacketOf : ℕ → ℕ → List Piece → Option ℕ → ℕ → Packet → Type 0
IsPacketOf src dst pieces (Some k) a p =
    (piece : Piece) × (1 ≤ k) × (slice_get pieces (k - 1) ≡ Some piece) × (p ≡ written_segment src dst piece k a)
IsPacketOf src dst pieces None a p = p ≡ written_ack src dst a

-- the bytes are a packet's as it is written, bit by bit
abbrev pub IsSpelling : Packet → List ℕ → Type 0
IsSpelling p bytes = FitsFields p × (bytes ≡ spelling p)

-- The bytes are those of that one packet: addresses, segments, k and a determine each bit.
abbrev pub IsWrittenPacket : ℕ → ℕ → List Piece → Option ℕ → ℕ → List ℕ → Type 0
IsWrittenPacket src dst pieces k a bytes =
    (p : Packet) × IsPacketOf src dst pieces k a p × IsSpelling p bytes

-- what this end writes of the k-th segment of the messages sent, or of none, and of the first a
abbrev pub Writes : LinkValue → List (List ℕ) → Option ℕ → ℕ → List ℕ → Type 0
Writes v messages k a bytes = IsWrittenPacket v.setup.local v.setup.remote (cut v.setup.seg_size messages) k a bytes

-- ---- taking

-- An end that has taken the first segments of these messages, cut by this size, and holds others of them. The
-- messages in the segments taken are those returned, those that wait, and one that is begun. By the law
-- `whole_messages_are_taken` the messages returned and those that wait are the first messages, as many as are whole
-- in the segments taken.
pub record Stands (v : LinkValue) (size : ℕ) (messages given : List (List ℕ)) : Type 0 where
  pub taken : with_all_taken nothing_came (take v.coming.received (cut size messages)) ≡ record v.coming { inbox = given ++ v.coming.inbox }
  pub held : AllByRecursion (λ h. slice_get (cut size messages) (h.0 - 1) ≡ Some h.1) v.held

-- whatever was taken and returned before, the same is afterwards
abbrev pub StandsStill : LinkValue → LinkValue → Type 0
StandsStill old new = (size : ℕ) (messages given : List (List ℕ)) → Stands old size messages given → Stands new size messages given

-- an end with these whole messages
abbrev pub with_inbox : LinkValue → List (List ℕ) → LinkValue
with_inbox v inbox = record v { coming = record v.coming { inbox = inbox } }

-- the oldest whole message was returned
abbrev pub HandsOut : LinkValue → LinkValue → List ℕ → Type 0
HandsOut old new message = (old.coming.inbox ≡ message ∷ new.coming.inbox) × (new ≡ with_inbox old new.coming.inbox)

-- The segment is at most 2,047 below the next one to be taken, and the acknowledgement at most 2,047 below the count
-- acknowledged.
abbrev pub IsTimely : LinkValue → Option ℕ → ℕ → Type 0
IsTimely v k a = IfSome k (λ n. v.coming.received + 1 ≤ n + max_age) × (v.acked ≤ a + max_age)

-- how a segment is answered, or a packet without one
abbrev pub got_of : ℕ → Option ℕ → Got
got_of received None = AckOnly
got_of received (Some k) = if k == received + 1 then Accepted else (if nat_lt received k then Early else Repeat)

-- the end keeps the k-th segment, which is early, for later
abbrev pub KeepsEarly : LinkValue → ℕ → Type 0
KeepsEarly v k = (v.coming.received + 1 < k) × (k < v.coming.received + 1 + v.setup.window) × AllByRecursion (λ h. h.0 ≢ k) v.held

-- What is held once the k-th segment was received, which says this: what follows it without a hole is taken with it,
-- and an early one within the window is held, the first copy of it.
abbrev pub held_after : LinkValue → Option ℕ → Piece → List (ℕ × Piece)
held_after v None p = v.held
held_after v (Some k) p =
    if k == v.coming.received + 1 then drop (length (following k v.held)) v.held else
    (if nat_lt v.coming.received k && nat_lt k (v.coming.received + 1 + v.setup.window) then insert_key (λ a b. nat_cmp a.0 b.0) v.held (k, p) else v.held)

-- an end whose oldest segments are acknowledged
abbrev pub with_acked : LinkValue → ℕ → LinkValue
with_acked v count =
    record v { acked = v.acked + count; queue = drop count v.queue; part = part_after v.part (take count v.queue) }

-- A packet of a peer, which cuts these messages, none longer than this end takes, by this size: the k-th of their
-- segments or none, with an acknowledgement of the first a of this end's. It isn't stale, and not further ahead than
-- its number identifies.
pub record IsOfPeer (v : LinkValue) (size : ℕ) (messages : List (List ℕ)) (p : Packet) (k : Option ℕ) (a : ℕ) : Type 0 where
  pub positive : 0 < size
  pub short : AreShort v messages
  pub way : IsBetween v.setup.remote v.setup.local p
  pub carries : Carries p (cut size messages) k a
  pub fresh : IsTimely v k a
  pub near : IfSome k (λ n. n ≤ v.coming.received + max_window)
  pub believable : a ≤ v.sent
