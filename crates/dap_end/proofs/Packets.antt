-- The packets that an end wrote carry what was handed to its link.
use Rattle.std.proofs.Common.{ℕ, ◌+◌, refl, sym, subst, List, [], ◌∷◌, ◌++◌}
use Rattle.std.specs.Prelude.{Option, None}
use Rattle.nsp_link.specs.Cutting.{cut}
use Rattle.nsp_link.specs.declared.link.LinkSetup.{LinkSetup}
use Rattle.nsp_link.specs.Link.{LinkValue, Sends, Writes, IsWrittenPacket, IsSpelling}
use Rattle.nsp_link.specs.Sending.{WritesSent, ack_packet_of}
use Rattle.nsp_link.proofs.ForCallers.{writes_more}
use Rattle.dap_end.specs.Writing.{AreSegments}
use Rattle.dap_end.specs.Headline.{WrittenPacket, AreWrittenOf}
use Rattle.dap_end.specs.Calls.{numbered_packets, WroteOne}
use Rattle.dap_end.proofs.Taking.{Grown}

pub all_written : (v : LinkValue) (handed : List (List ℕ)) (xs ys : List WrittenPacket) → AreWrittenOf v handed xs → AreWrittenOf v handed ys → AreWrittenOf v handed (xs ++ ys)
all_written v handed [] ys h k = k
all_written v handed (x ∷ xs) ys h k = (h.0, all_written v handed xs ys h.1 k)

-- more was passed on
pub still_written : (v : LinkValue) (handed more : List (List ℕ)) (ws : List WrittenPacket) → AreWrittenOf v handed ws → AreWrittenOf v (handed ++ more) ws
still_written v handed more [] h = tt
still_written v handed more (w ∷ ws) h = (writes_more v handed more w.segment w.acks w.bytes h.0, still_written v handed more ws h.1)

-- the link took a packet in
pub written_on : (old new : LinkValue) → Grown old new → (handed : List (List ℕ)) (ws : List WrittenPacket) → AreWrittenOf old handed ws → AreWrittenOf new handed ws
written_on old new g handed [] h = tt
written_on old new g handed (w ∷ ws) h = (
  subst (λ (s : LinkSetup). IsWrittenPacket s.local s.remote (cut s.seg_size handed) w.segment w.acks w.bytes) (sym g.setup) h.0,
  written_on old new g handed ws h.1,
)

-- segments one after another
pub numbered_written : (v : LinkValue) (handed : List (List ℕ)) (k : ℕ) (packets : List (List ℕ)) → Sends v handed → AreSegments v k packets → AreWrittenOf v handed (numbered_packets k v.coming.received packets)
numbered_written v handed k [] sends h = tt
numbered_written v handed k (p ∷ packets) sends h = (h.0 handed sends, numbered_written v handed (k + 1) packets sends h.1)

pub one_written : (v : LinkValue) (handed : List (List ℕ)) (k : Option ℕ) (w : WrittenPacket) → Sends v handed → WroteOne v k w → Writes v handed w.segment w.acks w.bytes
one_written v handed k w sends h =
    subst (λ (s : Option ℕ). Writes v handed s w.acks w.bytes) (sym h.0) (subst (λ (a : ℕ). Writes v handed k a w.bytes) (sym h.1) (h.2 handed sends))

-- an acknowledgement
pub ack_written : (v : LinkValue) (bytes : List ℕ) → IsSpelling (ack_packet_of v) bytes → WritesSent v None bytes
ack_written v bytes h = λ messages sends. (ack_packet_of v, refl, h)
