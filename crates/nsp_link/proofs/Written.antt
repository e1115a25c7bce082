-- What is written determines the bytes, and is a packet that carries what it shall.
use Rattle.std.proofs.Common.{◌≡◌, ℕ, List, Option, Some, None, refl, sym, ap, ◌∙◌, arith, subst}
use Rattle.nsp_seg.specs.declared.packet.Packet.{Packet}
use Rattle.nsp_seg.specs.Packets.{Spells, spelling}
use Rattle.nsp_link.specs.Cutting.{Piece}
use Rattle.nsp_link.specs.Link.{IsPacketOf, IsWrittenPacket, IsBetween, Carries, written_segment}

packet_carries : (src dst : ℕ) (pieces : List Piece) (k : Option ℕ) (a : ℕ) (p : Packet) → IsPacketOf src dst pieces k a p → IsBetween src dst p × Carries p pieces k a
packet_carries src dst pieces (Some k) a p (piece, some, at, is) =
    subst (λ (q : Packet). IsBetween src dst q × Carries q pieces (Some k) a) (sym is) ((refl, refl), (some, at, refl, refl))
packet_carries src dst pieces None a p is =
    subst (λ (q : Packet). IsBetween src dst q × Carries q pieces None a) (sym is) ((refl, refl), refl)

pub written_spells : (src dst : ℕ) (pieces : List Piece) (k : Option ℕ) (a : ℕ) (bytes : List ℕ) → IsWrittenPacket src dst pieces k a bytes
    → (p : Packet) × Spells p bytes × IsBetween src dst p × Carries p pieces k a
written_spells src dst pieces k a bytes (p, is, (fits, e)) =
    let carries = packet_carries src dst pieces k a p is in
    (p, record { fits = fits; free = 0; few = omega arith; spelled = e }, carries.0, carries.1)

packet_one : (src dst : ℕ) (pieces : List Piece) (k : Option ℕ) (a : ℕ) (p q : Packet) → IsPacketOf src dst pieces k a p → IsPacketOf src dst pieces k a q → p ≡ q
packet_one src dst pieces (Some k) a p q (one, some, at, is) (two, _, there, also) =
    let same : one ≡ two = (cc) in
    is ∙ ap (λ (x : Piece). written_segment src dst x k a) same ∙ sym also
packet_one src dst pieces None a p q is also = is ∙ sym also

pub written_one : (src dst : ℕ) (pieces : List Piece) (k : Option ℕ) (a : ℕ) (one two : List ℕ) → IsWrittenPacket src dst pieces k a one → IsWrittenPacket src dst pieces k a two → one ≡ two
written_one src dst pieces k a one two (p, is, (_, e)) (q, also, (_, f)) =
    e ∙ ap (λ (x : Packet). spelling x) (packet_one src dst pieces k a p q is also) ∙ sym f
