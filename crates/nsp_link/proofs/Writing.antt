-- What is written is a segment of the messages sent.
use Rattle.std.proofs.Common.{◌≡◌, ℕ, true, false, cond, ◌+◌, ◌-◌, ◌<◌, ◌≤◌, List, [], ◌++◌, length, take, get_or, Option, Some, None, refl, sym, ap, ◌∙◌, arith}
use Rattle.std.specs.Prelude.{slice_get}
use Rattle.std.proofs.Math.Seq.{take-add}
use Rattle.std.proofs.lemmas.List.{length-drop, get_or-drop, drop-drop}
use Rattle.std.proofs.lemmas.Option.{slice_get-get_or}
use Rattle.nsp_link.specs.Cutting.{Piece, cut, part_after}
use Rattle.nsp_link.proofs.Waiting.{part-append}
use Rattle.nsp_link.specs.Link.{LinkValue, Sends, Writes, with_acked}
use Rattle.std.proofs.Common.{Result, Ok, Err, inl, inr}
use Rattle.std.proofs.lemmas.Bool.{cases_lt, lt-ltb, le-ltb}
use Rattle.nsp_seg.specs.Numbers.{residue}
use Rattle.nsp_seg.specs.declared.packet.Packet.{Packet}
use Rattle.nsp_seg.specs.declared.packet.Packet.TheVariants.{Segment, DataAck}
use Rattle.nsp_link.specs.declared.fault.LinkFault.{LinkFault}
use Rattle.nsp_link.specs.declared.link.Got.{Got}
use Rattle.nsp_link.specs.Link.{IsLink, failed_link, first_ack, piece_of}
use Rattle.nsp_link.specs.Receiving.{newly_acked, Acknowledges, ReceivesPacket, segment_number, taking_in, end_after_refusal, ends_link}
use Rattle.nsp_link.specs.Sending.{WritesQueued, segment_packet}

pub writes_segment : (v : LinkValue) (messages : List (List ℕ)) (bytes : List ℕ) (index : ℕ) → index < length v.queue
    → WritesQueued v index (v.acked + 1 + index) bytes → Sends v messages → Writes v messages (Some (v.acked + 1 + index)) v.coming.received bytes
writes_segment v messages bytes index lt spelled sends =
    let pieces = cut v.setup.seg_size messages in
    let d : Piece = record { first = false; last = false; payload = [] } in
    let p = get_or v.queue index d in
    let at : slice_get v.queue index ≡ Some p = slice_get-get_or v.queue index d lt in
    let long : v.acked + index < length pieces = omega (arith, ap length sends.queue, length-drop v.acked pieces) in
    let same : get_or pieces (v.acked + index) d ≡ p = sym (get_or-drop v.acked pieces index d) ∙ ap (λ (q : List Piece). get_or q index d) (sym sends.queue) in
    let back : (v.acked + 1 + index) - 1 ≡ v.acked + index = omega arith in
    let there : slice_get pieces ((v.acked + 1 + index) - 1) ≡ Some p = rw back (slice_get-get_or pieces (v.acked + index) d long ∙ ap (λ (q : Piece). Some q) same) in
    (segment_packet v p (v.acked + 1 + index), (p, omega arith, there, refl), spelled p at)

-- what is acknowledged is forgotten
pub sends_forgotten : (v : LinkValue) (messages : List (List ℕ)) (count : ℕ) → count ≤ length v.queue → Sends v messages → Sends (with_acked v count) messages
sends_forgotten v messages count few sends =
    let pieces = cut v.setup.seg_size messages in
    let front : take (v.acked + count) pieces ≡ take v.acked pieces ++ take count v.queue =
    take-add v.acked count pieces ∙ ap (λ (ps : List Piece). take v.acked pieces ++ take count ps) (sym sends.queue) in
    record {
      queue = rw sends.queue (drop-drop count v.acked (cut v.setup.seg_size messages));
      acked = omega (arith, few, sends.acked, ap length sends.queue, length-drop v.acked (cut v.setup.seg_size messages));
      part = ap (λ (n : ℕ). part_after n (take count v.queue)) sends.part
          ∙ sym (ap (part_after 0) front ∙ part-append 0 (take v.acked pieces) (take count v.queue));
    }

newly-few : (v : LinkValue) (number : Option ℕ) (count : ℕ) → newly_acked v number ≡ Some count → count ≤ v.sent - v.acked
newly-few v None count e = let z : 0 ≡ count = (cc) in omega arith
newly-few v (Some n) count e =
    let ahead = residue (n + 4096 - residue v.acked) in
    elim (cases_lt ahead 2048) [
      | inl lt ↦ elim (cases_lt (v.sent - v.acked) ahead) [
        | inl over ↦ let f = rw (lt-ltb ahead 2048 lt, lt-ltb (v.sent - v.acked) ahead over) at e in absurd cc
        | inr within ↦ let f = rw (lt-ltb ahead 2048 lt, le-ltb (v.sent - v.acked) ahead within) at e in let g : ahead ≡ count = (cc) in omega arith
      ]
      | inr le ↦ let f = rw (le-ltb ahead 2048 le) at e in let z : 0 ≡ count = (cc) in omega arith
    ]

-- the parts of an end that sending reads
sends_like : (v w : LinkValue) (messages : List (List ℕ)) → w.queue ≡ v.queue → w.part ≡ v.part → w.acked ≡ v.acked → w.setup.seg_size ≡ v.setup.seg_size → Sends v messages → Sends w messages
sends_like v w messages queue part acked size sends =
    record { queue = rw (queue, acked, size) sends.queue; acked = rw (acked, size) sends.acked; part = rw (part, acked, size) sends.part }

pub sends_acked : (old mid new : LinkValue) (number : Option ℕ) (messages : List (List ℕ)) → IsLink old → mid.queue ≡ old.queue → mid.part ≡ old.part → mid.acked ≡ old.acked → mid.setup.seg_size ≡ old.setup.seg_size → Acknowledges old number mid new → Sends old messages → Sends new messages
sends_acked old mid new number messages link queue part acked size acks sends =
    let few = newly-few old number acks.0 acks.1 in
    let long : acks.0 ≤ length mid.queue = rw queue (omega (arith, few, link.acked, link.queued)) in
    rw acks.2 (sends_forgotten mid messages acks.0 long (sends_like old mid messages queue part acked size sends))

sends_failed : (v : LinkValue) (messages : List (List ℕ)) → Sends v messages → Sends (failed_link v) messages
sends_failed v messages sends = record { queue = sends.queue; acked = sends.acked; part = sends.part }

pub sends_stopped : (v : LinkValue) (e : LinkFault) (messages : List (List ℕ)) → Sends v messages → Sends (end_after_refusal e v) messages
sends_stopped v e messages sends = elim (ends_link e) as (λ b. Sends (cond b (failed_link v) v) messages) [
  | true ↦ sends_failed v messages sends
  | false ↦ sends
]

-- whatever comes, the messages sent stay
pub sends_received : (old new : LinkValue) (p : Packet) (r : Result Got LinkFault) (messages : List (List ℕ)) → IsLink old → ReceivesPacket old p r new → Sends old messages → Sends new messages
sends_received old new (Segment s) (Ok got) messages link (_, (_, _, acks)) sends = sends_acked old (taking_in old (segment_number old s.number) (piece_of s)) new (first_ack s.ack1 s.ack2) messages link refl refl refl refl acks sends
sends_received old new (DataAck s) (Ok got) messages link (_, (_, acks)) sends = sends_acked old old new (first_ack (Some s.ack1) s.ack2) messages link refl refl refl refl acks sends
sends_received old new p (Err e) messages link (_, left) sends = rw left (sends_stopped old e messages sends)
