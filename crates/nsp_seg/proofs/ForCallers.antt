-- What the crates above may cite of this one's proofs. No other file here is for them.
use Rattle.std.proofs.Common.{◌≡◌, ℕ, ◌<◌, List, get_or}
use Rattle.nsp_seg.specs.declared.packet.SegFault.{SegFault}
use Rattle.nsp_seg.specs.Packets.{Packet, Spells, FitsFields, HasFault, spelling}
use Rattle.nsp_seg.proofs.Exactness as exactness
-- a segment's payload may be any other, after 11 bytes at most; and these tell an acknowledgement and each fault
pub use Rattle.nsp_seg.proofs.Payloads.{carrying, other_payload, head_few, other_ack, other_fault}

-- bytes spell one packet at most
pub spells-one : (p q : Packet) (bytes : List ℕ) → Spells p bytes → Spells q bytes → p ≡ q
spells-one = exactness.spells-one

-- bytes that spell a packet have no fault
pub spells-apart : (p : Packet) (f : SegFault) (bytes : List ℕ) → ((i : ℕ) → get_or bytes i 0 < 256) → Spells p bytes → HasFault f bytes → ⊥
spells-apart = exactness.spells-apart

-- bytes have one fault at most
pub fault-one : (f g : SegFault) (bytes : List ℕ) → ((i : ℕ) → get_or bytes i 0 < 256) → HasFault f bytes → HasFault g bytes → f ≡ g
fault-one = exactness.fault-one

-- what is written spells the packet
pub spells-written : (p : Packet) → FitsFields p → Spells p (spelling p)
spells-written = exactness.spells-written
