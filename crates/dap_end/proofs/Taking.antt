-- What taking a packet in leaves as it was.
use Rattle.std.proofs.Common.{◌≡◌, ℕ, arith, refl, sym, ◌∙◌, subst, ap, append_assoc, true, false, List, [], ◌∷◌, ◌++◌, inl, inr}
use Rattle.std.specs.Prelude.{◌<◌, length, Bool, ◌+◌, ◌==◌, Result, Ok, Err, if◌then◌else◌}
use Rattle.std.proofs.lemmas.List.{append-nil, length-append}
use Rattle.nsp_seg.specs.declared.packet.Packet.{Packet}
use Rattle.nsp_seg.specs.declared.packet.Packet.TheVariants.{Segment, DataAck}
use Rattle.nsp_link.specs.declared.link.Got.{Got}
use Rattle.nsp_link.specs.declared.fault.LinkFault.{LinkFault}
use Rattle.nsp_link.specs.Cutting.{Piece}
use Rattle.nsp_link.specs.Coming.{Coming, with_taken, with_all_taken, body_with}
use Rattle.nsp_link.specs.Link.{LinkValue, piece_of, failed_link, with_acked}
use Rattle.nsp_link.specs.Receiving.{ReceivesPacket, run, segment_number, taking_in, ends_link, ReceivesBounded, BoundedBytes, LetsGo, Receives}
use Rattle.dap_msg.specs.Items.{IsOffset}
use Rattle.dap_end.specs.Ports.{PortValue}
use Rattle.dap_end.specs.Moved.{with_link}
use Rattle.dap_end.specs.Going.{oldest_message}
use Rattle.dap_end.specs.Inner.Kept.{IsPort}

-- more messages may wait, and the link is the same
pub record Grown (old new : LinkValue) : Type 0 where
  pub more : List (List ℕ)
  pub inbox : new.coming.inbox ≡ old.coming.inbox ++ more
  pub setup : new.setup ≡ old.setup

same : (v : LinkValue) → Grown v v
same v = record { more = []; inbox = sym (append-nil v.coming.inbox); setup = refl }

along : (old new other : LinkValue) → new ≡ other → Grown old other → Grown old new
along old new other e g = subst (Grown old) (sym e) g

taken_one : (c : Coming) (p : Piece) (last : Bool) → p.last ≡ last → (more : List (List ℕ)) × ((with_taken c p).inbox ≡ c.inbox ++ more)
taken_one c p true e = (body_with c p.payload ∷ [], ap (λ (b : Bool). if b then c.inbox ++ body_with c p.payload ∷ [] else c.inbox) e)
taken_one c p false e = ([], ap (λ (b : Bool). if b then c.inbox ++ body_with c p.payload ∷ [] else c.inbox) e ∙ sym (append-nil c.inbox))

taken_more : (c : Coming) (ps : List Piece) → (more : List (List ℕ)) × ((with_all_taken c ps).inbox ≡ c.inbox ++ more)
unfolding with_all_taken
taken_more c [] = ([], sym (append-nil c.inbox))
taken_more c (p ∷ ps) =
    let one = taken_one c p p.last refl in
    let rest = taken_more (with_taken c p) ps in
    (one.0 ++ rest.0, rest.1 ∙ ap (λ (l : List (List ℕ)). l ++ rest.0) one.1 ∙ append_assoc c.inbox one.0 rest.0)

taken_by : (v : LinkValue) (p : Piece) (next : Bool) → (more : List (List ℕ)) × ((if next then with_all_taken v.coming (run v p) else v.coming).inbox ≡ v.coming.inbox ++ more)
taken_by v p true = taken_more v.coming (run v p)
taken_by v p false = ([], sym (append-nil v.coming.inbox))

in_grown : (v : LinkValue) (k : ℕ) (p : Piece) → Grown v (taking_in v k p)
in_grown v k p = let m = taken_by v p (k == v.coming.received + 1) in record { more = m.0; inbox = m.1; setup = refl }

stopped_by : (v : LinkValue) (ends : Bool) → Grown v (if ends then failed_link v else v)
stopped_by v true = record { more = []; inbox = sym (append-nil v.coming.inbox); setup = refl }
stopped_by v false = same v

forgotten_grown : (old mid : LinkValue) (count : ℕ) → Grown old mid → Grown old (with_acked mid count)
forgotten_grown old mid count g = record { more = g.more; inbox = g.inbox; setup = g.setup }

received : (old new : LinkValue) (p : Packet) (r : Result Got LinkFault) → ReceivesPacket old p r new → Grown old new
received old new (Segment s) (Ok got) (_, (_, _, acks)) =
    let mid = taking_in old (segment_number old s.number) (piece_of s) in
    along old new _ acks.2 (forgotten_grown old mid acks.0 (in_grown old (segment_number old s.number) (piece_of s)))
received old new (DataAck s) (Ok got) (_, (_, acks)) = along old new _ acks.2 (forgotten_grown old old acks.0 (same old))
received old new p (Err e) (_, left) = along old new _ left (stopped_by old (ends_link e))

let_go : (old new : LinkValue) (p : Packet) (r : Result Got LinkFault) → LetsGo old p r new → Grown old new
let_go old new (Segment s) (Ok got) (_, _, acks) = along old new _ acks.2 (forgotten_grown old old acks.0 (same old))
let_go old new (Segment s) (Err e) (_, left) = along old new _ left (stopped_by old (ends_link e))
let_go old new (DataAck s) r h = absurd h

bounded : (old new : LinkValue) (p : Packet) (r : Result Got LinkFault) → ReceivesBounded old p r new → Grown old new
bounded old new p r (inl h) = let_go old new p r h.1
bounded old new p r (inr h) = received old new p r h.1

from_bytes : (old new : LinkValue) (bytes : List ℕ) (r : Result Got LinkFault) → BoundedBytes old new bytes r → Grown old new
from_bytes old new bytes r (inl h) = along old new old h.3 (same old)
from_bytes old new bytes r (inr h) = bounded old new h.0 r h.2

grown_by : (old new : LinkValue) (bytes : List ℕ) (r : Result Got LinkFault) (failed : Bool) → old.failed ≡ failed → Receives old new bytes r → Grown old new
grown_by old new bytes r true e h = along old new old (h.failed e).1 (same old)
grown_by old new bytes r false e h = from_bytes old new bytes r (h.any e)

pub grown : (old new : LinkValue) (bytes : List ℕ) (r : Result Got LinkFault) → Receives old new bytes r → Grown old new
grown old new bytes r h = grown_by old new bytes r old.failed refl h

-- ---- The offset stays one in the oldest NSP message.

pub first_offset : (bytes : List ℕ) → IsOffset 0 bytes
first_offset [] = inr (refl, refl)
first_offset (b ∷ bytes) = inl (omega arith)

pub offset_stays : (offset : ℕ) (inbox more : List (List ℕ)) → IsOffset offset (oldest_message inbox) → IsOffset offset (oldest_message (inbox ++ more))
offset_stays offset [] more (inl h) = absurd (omega arith)
offset_stays offset [] more (inr h) = subst (λ (n : ℕ). IsOffset n (oldest_message more)) (sym h.0) (first_offset (oldest_message more))
offset_stays offset (m ∷ inbox) more h = h

pub port_stays : (p : PortValue) (link : LinkValue) → Grown p.link link → IsPort p → IsPort (with_link p link)
port_stays p link g h =
    record {
      offset = subst (λ (l : List (List ℕ)). IsOffset p.offset (oldest_message l)) (sym g.inbox) (offset_stays p.offset p.link.coming.inbox g.more h.offset);
      short = h.short;
    }

-- and where some did, some still waits
pub still_left : (old new : LinkValue) → Grown old new → 0 < length old.coming.inbox → 0 < length new.coming.inbox
still_left old new g some = subst (λ (l : List (List ℕ)). 0 < length l) (sym g.inbox) (omega (arith, length-append old.coming.inbox g.more, some))
