-- What the crates above may cite of this one's proofs. No other file here is for them.
use Rattle.std.proofs.Common.{◌≡◌, ℕ, ◌+◌, List, [], ◌∷◌, ◌++◌, length, drop, Option}
use Rattle.nsp_seg.specs.declared.packet.Packet.{Packet}
use Rattle.nsp_seg.specs.Packets.{Spells}
use Rattle.nsp_link.specs.declared.link.LinkSetup.{LinkSetup}
use Rattle.nsp_link.specs.Cutting.{Piece, cut}
use Rattle.nsp_link.specs.Holding.{following, closed_up}
use Rattle.std.specs.Ordering.{nat_cmp}
use Rattle.std.specs.Map.{keys_of}
use Rattle.std.specs.BTreeSet.{insert_key}
pub use Rattle.nsp_link.proofs.Held.{inserted}
use Rattle.nsp_link.specs.Link.{LinkValue, IsBetween, Carries, IsWrittenPacket, Writes, Sends, Stands, new_link, with_inbox}
-- a packet that is due, by the counts for which its numbers stand
pub use Rattle.nsp_link.proofs.Came.{came_due}
-- what taking any bytes in comes to is determined, out of memory aside; and how many segments are taken then
pub use Rattle.nsp_link.proofs.Refusing.{receives_same, taken_count}
-- what an end stands after, by the messages that are whole and the one that is begun; and back
pub use Rattle.nsp_link.proofs.Taken.{whole_of, taken_of}
use Rattle.nsp_link.specs.Sending.{queued_link}
use Rattle.nsp_link.proofs.Growing as growing
use Rattle.nsp_link.proofs.Numbers as by_number
use Rattle.nsp_link.proofs.Written as written
-- the bytes that wait: of what is queued too, and of what is acknowledged
pub use Rattle.nsp_link.proofs.Waiting.{bytes_queued, fewer_wait, none_waits}
-- what an end may do, part by part
pub use Rattle.nsp_link.proofs.Allowed.{may_send_by, may_send_parts, may_queue_by, may_queue_parts}

-- what is written is a packet between these addresses that carries the k-th segment, or none, and a
pub written_spells : (src dst : ℕ) (pieces : List Piece) (k : Option ℕ) (a : ℕ) (bytes : List ℕ) → IsWrittenPacket src dst pieces k a bytes
    → (p : Packet) × Spells p bytes × IsBetween src dst p × Carries p pieces k a
written_spells = written.written_spells

-- it is one list of bytes
pub written_one : (src dst : ℕ) (pieces : List Piece) (k : Option ℕ) (a : ℕ) (one two : List ℕ) → IsWrittenPacket src dst pieces k a one → IsWrittenPacket src dst pieces k a two → one ≡ two
written_one = written.written_one

-- it stays so when messages are sent after
pub writes_more : (v : LinkValue) (ms more : List (List ℕ)) (k : Option ℕ) (a : ℕ) (bytes : List ℕ) → Writes v ms k a bytes → Writes v (ms ++ more) k a bytes
writes_more = growing.writes_more

-- what a packet carries stays so when messages are sent after
pub carries_more : (p : Packet) (size : ℕ) (ms more : List (List ℕ)) (k : Option ℕ) (a : ℕ) → Carries p (cut size ms) k a → Carries p (cut size (ms ++ more)) k a
carries_more = growing.carries_more

-- what was taken stays the first of the messages when more are sent
pub stands_more : (v : LinkValue) (size : ℕ) (ms more given : List (List ℕ)) → Stands v size ms given → Stands v size (ms ++ more) given
stands_more = growing.stands_more

-- the oldest message that waits is handed out
pub stands_given : (v : LinkValue) (bytes : List ℕ) (later : List (List ℕ)) (size : ℕ) (messages given : List (List ℕ)) → v.coming.inbox ≡ bytes ∷ later → Stands v size messages given → Stands (with_inbox v later) size messages (given ++ bytes ∷ [])
stands_given = growing.stands_given

-- a new end stands before any messages
pub stands_new : (s : LinkSetup) (size : ℕ) (ms : List (List ℕ)) → Stands (new_link s) size ms []
stands_new = growing.stands_new

-- a new end sent none
pub sends_new : (s : LinkSetup) → Sends (new_link s) []
sends_new = growing.sends_new

-- more messages are sent
pub sends_all : (v : LinkValue) (messages more : List (List ℕ)) → Sends v messages → Sends (queued_link v (cut v.setup.seg_size more)) (messages ++ more)
sends_all = growing.sends_all

-- what is taken in after the k-th, and what stays held, by the numbers alone
pub closes : (k : ℕ) (held : List (ℕ × Piece)) → closed_up k (keys_of held) ≡ (k + length (following k held), keys_of (drop (length (following k held)) held))
closes = by_number.closes

-- one more is held, by the numbers alone
pub keeps : (k : ℕ) (p : Piece) (held : List (ℕ × Piece)) → keys_of (inserted k p held) ≡ insert_key nat_cmp (keys_of held) k
keeps = by_number.keeps
