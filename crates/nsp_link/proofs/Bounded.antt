-- An end that holds no segment which is longer than its longest message.
use Rattle.std.proofs.Common.{◌≡◌, ◌⊎◌, ℕ, ◌-◌, ◌<◌, ◌≤◌, List, length, Option, Some, None, Result, Ok, Err, refl, sym, ap, ◌∙◌, arith, Bool, true, false, inl, inr}
use Rattle.std.specs.Prelude.{◌&&◌, nat_lt}
use Rattle.std.proofs.lemmas.Bool.{and_right, le-ltb}
use Rattle.nsp_seg.specs.declared.packet.Packet.{Packet}
use Rattle.nsp_seg.specs.declared.packet.Packet.TheVariants.{Segment, DataAck}
use Rattle.nsp_link.specs.declared.link.Got.{Got}
use Rattle.nsp_link.specs.declared.fault.LinkFault.{LinkFault}
use Rattle.nsp_link.specs.Link.{LinkValue, IsLink, Sends, first_ack, piece_of}
use Rattle.nsp_link.specs.Due.{IsDue}
use Rattle.nsp_link.specs.Receiving.{ReceivesPacket, ReceivesBounded, LetsGo, is_oversize, segment_number, end_after_refusal}
use Rattle.nsp_link.proofs.Taken.{piece_short}
use Rattle.nsp_link.proofs.Writing.{sends_received, sends_acked, sends_stopped}

-- no segment of a peer is, whose messages are short enough
none_oversize : (old : LinkValue) (size : ℕ) (messages given : List (List ℕ)) (p : Packet) (k : Option ℕ) (a : ℕ) → IsDue old size messages given p k a → is_oversize old p ≡ false
none_oversize old size messages given (Segment s) (Some n) a due =
    let few = piece_short size old.setup.max_message messages (n - 1) (piece_of s) due.2.positive due.2.short due.2.carries.1 in
    and_right _ (nat_lt old.setup.max_message (length s.payload)) (le-ltb old.setup.max_message (length s.payload) few)
none_oversize old size messages given (Segment s) None a due = absurd due.2.carries
none_oversize old size messages given (DataAck s) k a due = refl

-- so what is due is received as by any end
pub due_received_as : (old new : LinkValue) (r : Result Got LinkFault) (size : ℕ) (messages given : List (List ℕ)) (p : Packet) (k : Option ℕ) (a : ℕ) → IsDue old size messages given p k a → ReceivesBounded old p r new → ReceivesPacket old p r new
due_received_as old new r size messages given p k a due (inl (long, _)) = let no = sym long ∙ none_oversize old size messages given p k a due in absurd cc
due_received_as old new r size messages given p k a due (inr (_, h)) = h

sends_let_go : (old new : LinkValue) (p : Packet) (r : Result Got LinkFault) (messages : List (List ℕ)) → IsLink old → LetsGo old p r new → Sends old messages → Sends new messages
sends_let_go old new (Segment s) (Ok got) messages link (_, _, acks) sends = sends_acked old old new (first_ack s.ack1 s.ack2) messages link refl refl refl refl acks sends
sends_let_go old new (Segment s) (Err e) messages link (_, left) sends = rw left (sends_stopped old e messages sends)
sends_let_go old new (DataAck s) r messages link h sends = absurd h

-- whatever comes, the messages sent stay
pub sends_bounded : (old new : LinkValue) (p : Packet) (r : Result Got LinkFault) (messages : List (List ℕ)) → IsLink old → ReceivesBounded old p r new → Sends old messages → Sends new messages
sends_bounded old new p r messages link (inl (_, h)) sends = sends_let_go old new p r messages link h sends
sends_bounded old new p r messages link (inr (_, h)) sends = sends_received old new p r messages link h sends
