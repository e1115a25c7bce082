-- What is said of a run of an end's calls: `every_run_is_served` and `every_run_is_told` for any peer, and more where
-- all packets are those of one peer.
use Rattle.std.specs.Prelude.{ℕ, List, map, Option}
use Rattle.std.specs.List.{AllByRecursion}
use Rattle.nsp_seg.specs.declared.packet.Packet.{Packet}
use Rattle.nsp_seg.specs.Packets.{Spells}
use Rattle.nsp_link.specs.Link.{LinkValue, IsOfPeer, Writes}

-- ---- Packets.

-- bytes that came, and the link before they came
abbrev pub Arrival : Type 0
Arrival = LinkValue × List ℕ

-- a packet that was written, with the number of its segment, if it has one, and how many segments it acknowledges
pub record WrittenPacket : Type 0 where
  pub bytes : List ℕ
  pub segment : Option ℕ
  pub acks : ℕ

-- the bytes alone
abbrev pub written_bytes : List WrittenPacket → List (List ℕ)
written_bytes wrote = map (λ w. w.bytes) wrote

-- each packet has its segment of what was passed to the link, and its acknowledgement
abbrev pub AreWrittenOf : LinkValue → (handed : List (List ℕ)) → List WrittenPacket → Type 0
AreWrittenOf v handed wrote = AllByRecursion (λ w. Writes v handed w.segment w.acks w.bytes) wrote

-- ---- A peer.

-- the bytes are a packet of a peer that cuts these NSP messages by this size
abbrev pub IsFromPeer : (size : ℕ) (messages : List (List ℕ)) → LinkValue → List ℕ → Type 0
IsFromPeer size messages v bytes =
    (packet : Packet) × (segment : Option ℕ) × (acks : ℕ) × Spells packet bytes × IsOfPeer v size messages packet segment acks
