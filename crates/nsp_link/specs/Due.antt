-- A packet of a peer that is due, and what it does to an end, by numbers without modulus.
use Rattle.std.specs.Prelude.{◌≡◌, ◌⊎◌, ℕ, ◌+◌, ◌-◌, ◌<◌, ◌≤◌, ◌==◌, max, false, List, length, drop, Option, Some, None, if◌then◌else◌}
use Rattle.nsp_seg.specs.declared.packet.Packet.{Packet}
use Rattle.nsp_link.specs.declared.fault.LinkFault.{LinkFault}
use Rattle.nsp_link.specs.declared.fault.LinkFault.TheVariants.{Exhausted, NoMemory}
use Rattle.nsp_link.specs.Cutting.{Piece}
use Rattle.nsp_link.specs.Holding.{following}
use Rattle.nsp_link.specs.Limits.{max_segments}
use Rattle.nsp_link.specs.Link.{LinkValue, Stands, IsOfPeer, KeepsEarly, held_after}

-- The end hasn't failed and has taken some of the peer's messages, and the packet is of that peer.
abbrev pub IsDue : LinkValue → (size : ℕ) → (messages given : List (List ℕ)) → Packet → Option ℕ → ℕ → Type 0
IsDue v size messages given p k a = (v.failed ≡ false) × Stands v size messages given × IsOfPeer v size messages p k a

-- how many segments are taken once the k-th was received: the next one, and all held ones that follow it without a
-- hole
abbrev pub taken_after : LinkValue → Option ℕ → ℕ
taken_after v None = v.coming.received
taken_after v (Some k) = if k == v.coming.received + 1 then k + length (following k v.held) else v.coming.received

-- The k-th segment was received, or none, with an acknowledgement of the first a. The greatest acknowledgement
-- counts, and what is acknowledged leaves the queue. The next segment is taken with all held ones that follow it
-- without a hole. An early one is held if the window has room for it and it isn't held yet. One that was taken
-- changes nothing.
pub record DeliversPacket (old new : LinkValue) (k : Option ℕ) (a : ℕ) : Type 0 where
  pub acked : new.acked ≡ max old.acked a
  pub queue : new.queue ≡ drop (a - old.acked) old.queue
  pub received : new.coming.received ≡ taken_after old k
  pub held : (p : Piece) × (new.held ≡ held_after old k p)
  -- nothing else moves
  pub sent : new.sent ≡ old.sent
  pub setup : new.setup ≡ old.setup
  pub failed : new.failed ≡ old.failed

-- Why a packet that is due is refused. Memory may be refused to the next segment, and to an early one that would be
-- held. The next segment is also refused where more than 2^40 segments would be taken. Nothing else is refused.
abbrev pub MayRefuse : LinkValue → Option ℕ → LinkFault → Type 0
MayRefuse v None e = ⊥
MayRefuse v (Some k) e =
    ((e ≡ NoMemory) × ((k ≡ v.coming.received + 1) ⊎ KeepsEarly v k) × (taken_after v (Some k) ≤ max_segments))
    ⊎ ((e ≡ Exhausted) × (k ≡ v.coming.received + 1) × (max_segments < taken_after v (Some k)))
