-- Bytes spell one packet at most, and have a fault where they spell none.
use Rattle.std.proofs.Common.{◌≡◌, ◌⊎◌, ℕ, ◌<◌, List, Result, Ok, Err, get_or, refl, arith, inl, inr}
use Rattle.nsp_seg.specs.declared.packet.SegFault.{SegFault}
use Rattle.nsp_seg.specs.Packets.{Packet, Spells, FitsFields, HasFault, spelling}
use Rattle.nsp_seg.specs.Inner.Reading.{read_packet}
use Rattle.nsp_seg.proofs.Spelled.{read-spelled}
use Rattle.nsp_seg.proofs.Found.{read_found}
use Rattle.nsp_seg.proofs.Faults.{read_fault, IsBytes}
use Rattle.nsp_seg.proofs.Faulty.{read-fault}

pub spells-one : (p q : Packet) (bytes : List ℕ) → Spells p bytes → Spells q bytes → p ≡ q
spells-one p q bytes a b =
    let x = read-spelled p bytes a in
    let y = read-spelled q bytes b in
    (cc)

either : (bytes : List ℕ) (r : Result Packet SegFault) → IsBytes bytes → read_packet bytes ≡ r → ((p : Packet) × Spells p bytes) ⊎ ((f : SegFault) × HasFault f bytes)
either bytes (Ok p) fits e = inl (p, read_found bytes p fits e)
either bytes (Err f) fits e = inr (f, read_fault bytes f fits e)

pub spells_or_fault : (bytes : List ℕ) → ((i : ℕ) → get_or bytes i 0 < 256) → ((p : Packet) × Spells p bytes) ⊎ ((f : SegFault) × HasFault f bytes)
spells_or_fault bytes fits = either bytes (read_packet bytes) fits refl

pub spells-written : (p : Packet) → FitsFields p → Spells p (spelling p)
spells-written p fits = record { fits = fits; free = 0; few = omega arith; spelled = refl }

pub fault-one : (f g : SegFault) (bytes : List ℕ) → ((i : ℕ) → get_or bytes i 0 < 256) → HasFault f bytes → HasFault g bytes → f ≡ g
fault-one f g bytes fits a b =
    let x = read-fault f bytes fits a in
    let y = read-fault g bytes fits b in
    (cc)

pub spells-apart : (p : Packet) (f : SegFault) (bytes : List ℕ) → ((i : ℕ) → get_or bytes i 0 < 256) → Spells p bytes → HasFault f bytes → ⊥
spells-apart p f bytes fits a b =
    let x = read-spelled p bytes a in
    let y = read-fault f bytes fits b in
    absurd cc

pub spelling-one : (p q : Packet) → FitsFields p → Spells q (spelling p) → q ≡ p
spelling-one p q fits s = spells-one q p (spelling p) s (spells-written p fits)
