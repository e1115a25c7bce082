-- The packets that an end writes.
use Rattle.std.specs.Prelude.{◌≡◌, ◌⊎◌, ℕ, ◌+◌, ◌<◌, ◌≤◌, ◌==◌, Bool, true, false, List, [], ◌∷◌, ◌++◌, length, Some, IsTrue}
use Rattle.nsp_link.specs.declared.link.Got.{Got}
use Rattle.nsp_link.specs.declared.link.Got.TheVariants.{AckOnly}
use Rattle.nsp_link.specs.Link.{LinkValue, may_send, IsSpelling}
use Rattle.nsp_link.specs.Sending.{WritesSent, ack_packet_of}
use Rattle.dap_end.specs.Ports.{PortValue}

-- what follows that which was there is as this says
abbrev pub Extends : {A : Type 0} → (out all : List A) → (Are : List A → Type 0) → Type 0
Extends {A} out all Are = (more : List A) × (all ≡ out ++ more) × Are more

-- whatever was passed to the link, these are the packets of its segments from this number on
abbrev pub AreSegments : LinkValue → (from : ℕ) → List (List ℕ) → Type 0
AreSegments v k [] = Unit {0}
AreSegments v k (bytes ∷ packets) = WritesSent v (Some k) bytes × AreSegments v (k + 1) packets

-- The next segments were written, as far as there are some and the window allows them.
pub record WroteMore (old new : PortValue) (packets : List (List ℕ)) : Type 0 where
  pub sent : new ≡ record old { link = record old.link { sent = old.link.sent + length packets } }
  pub writes : AreSegments old.link (old.link.sent + 1) packets
  pub there : 0 < length packets → new.link.sent ≤ new.link.acked + length new.link.queue
  pub within : 0 < length packets → new.link.sent ≤ new.link.acked + new.link.setup.window

-- ---- What answers a packet.

-- a segment came, and no segment is written that acknowledges it
abbrev pub wants_ack : Got → (written : ℕ) → Bool
wants_ack AckOnly written = false
wants_ack got written = written == 0

-- if it is wanted, one acknowledgement of all that was taken follows what was there
abbrev pub AcknowledgesIf : PortValue → (wanted : Bool) → (out all : List (List ℕ)) → Type 0
AcknowledgesIf p true out all = (bytes : List ℕ) × (all ≡ out ++ bytes ∷ []) × IsSpelling (ack_packet_of p.link) bytes
AcknowledgesIf p false out all = all ≡ out

-- all segments that the window allows, and if there is none and a segment came, an acknowledgement
abbrev pub WroteAnswer : (old new : PortValue) → Got → (packets : List (List ℕ)) → Type 0
WroteAnswer old new got packets =
    (written : List (List ℕ)) × WroteMore old new written × (may_send new.link ≡ false)
    × AcknowledgesIf new (wants_ack got (length written)) written packets

-- some of these, and one is left
abbrev pub WrotePart : (old new : PortValue) → Got → (packets : List (List ℕ)) → Type 0
WrotePart old new got packets =
    WroteMore old new packets × (IsTrue (may_send new.link) ⊎ (wants_ack got (length packets) ≡ true))
