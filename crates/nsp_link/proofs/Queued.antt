-- The segment at an index of the queue, and results that say more.
use Rattle.std.proofs.Common.{◌≡◌, ℕ, ◌<◌, List, length, get_or, Some, None, Result, Ok, Err, refl, ap}
use Rattle.std.specs.Prelude.{IfOk, IfErr, IsErrAnd, slice_get}
use Rattle.std.proofs.lemmas.Option.{slice_get_read, slice_get-map}
use Rattle.nsp_link.specs.Inner.Pieces.{Segment}
use Rattle.std.proofs.Common.{subst}
use Rattle.nsp_seg.specs.Numbers.{residue}
use Rattle.nsp_seg.specs.declared.packet.AckField.{AckField}
use Rattle.nsp_seg.specs.declared.packet.Packet.{Packet}
use Rattle.nsp_seg.specs.declared.packet.Packet.TheVariants as packet
use Rattle.nsp_link.specs.Link.{LinkValue, IsSpelling, acknowledging}
use Rattle.nsp_link.specs.Sending.{segment_packet}
use Rattle.nsp_link.specs.Cutting.{Piece}
use Rattle.nsp_link.specs.Inner.Pieces.{piece, piece_values}

pub if_ok_map : {X E : Type 0} (r : Result X E) (P Q : X → Type 0) → IfOk r P → ((x : X) → P x → Q x) → IfOk r Q
if_ok_map (Ok x) P Q h f = f x h
if_ok_map (Err e) P Q h f = h

-- what is read at an index of the queue
pub piece_read : (items : List Segment) (index : ℕ) (s : Segment) (p : Piece) → index < length items → s ≡ get_or items index s → slice_get (piece_values items) index ≡ Some p → piece s ≡ p
piece_read items index s p lt read at =
    let got : slice_get items index ≡ Some s = slice_get_read items (length items) index s refl lt read in
    let mapped = slice_get-map piece items index in
    (cc)

-- the packet that the code makes is the definition's
pub packet_is : (v : LinkValue) (s : Segment) (p : Piece) (ack : AckField) (dst src number k : ℕ) (payload : List ℕ)
    → piece s ≡ p → payload ≡ s.payload → ack ≡ acknowledging v.coming.received → number ≡ residue k → dst ≡ v.setup.remote → src ≡ v.setup.local
    → packet.Segment (record { first = s.first; last = s.last; dst = dst; src = src; ack1 = Some ack; ack2 = None; number = number; payload = payload }) ≡ segment_packet v p k
packet_is v s p ack dst src number k payload same bytes acks numbers to from =
    rw (bytes, acks, numbers, to, from) (ap (λ (q : Piece). segment_packet v q k) same)

pub spelling_same : (p q : Packet) (bytes : List ℕ) → p ≡ q → IsSpelling p bytes → IsSpelling q bytes
spelling_same p q bytes e s = subst (λ (x : Packet). IsSpelling x bytes) e s

pub if_err_and : {X E : Type 0} (r : Result X E) (P Q : E → Type 0) → IsErrAnd r P → ((e : E) → P e → Q e) → IfErr r Q
if_err_and (Ok x) P Q h f = tt
if_err_and (Err e) P Q h f = f e h
