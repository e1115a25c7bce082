-- Of a packet that is due: its numbers tell by the counts what becomes of it.
use Rattle.std.proofs.Common.{◌≡◌, ◌⊎◌, ℕ, ◌+◌, ◌-◌, ◌<◌, ◌≤◌, max, List, [], length, drop, Option, Some, None, Result, Ok, Err, refl, sym, ap, ◌∙◌, arith, false, inl, inr, cond, subst, rules, ◌==◌}
use Rattle.std.specs.Prelude.{MatchResult, IfSome, IsOk}
use Rattle.std.proofs.lemmas.Bool.{cases_eq, eq-eqb, ne_eqb}
use Rattle.nsp_seg.specs.declared.packet.Packet.{Packet}
use Rattle.nsp_seg.specs.declared.packet.Packet.TheVariants.{Segment, DataAck}
use Rattle.nsp_seg.specs.Packets.{Spells}
use Rattle.nsp_seg.specs.declared.packet.SegmentFields.{SegmentFields}
use Rattle.nsp_link.specs.declared.link.Got.{Got}
use Rattle.nsp_link.specs.declared.fault.LinkFault.{LinkFault}
use Rattle.nsp_link.specs.declared.fault.LinkFault.TheVariants.{BadSequence, Exhausted, NoMemory}
use Rattle.nsp_link.specs.Coming.{Coming, with_all_taken, RefusesAll}
use Rattle.nsp_link.specs.Cutting.{Piece}
use Rattle.nsp_link.specs.Holding.{following}
use Rattle.nsp_link.specs.Limits.{max_segments}
use Rattle.nsp_link.specs.Link.{LinkValue, IsLink, Stands, KeepsEarly, got_of, held_after, piece_of, with_acked}
use Rattle.nsp_link.specs.Receiving.{segment_number, taking_in, run, ReceivesPacket, Receives}
use Rattle.nsp_link.specs.Due.{IsDue, DeliversPacket, MayRefuse, taken_after}
use Rattle.nsp_link.proofs.Taking.{received-all}
use Rattle.nsp_link.proofs.Delivering.{segment_found, Due, due_received}

-- an end that took in this, holds these early segments, and forgot what is acknowledged
delivered_with : (old : LinkValue) (c : Coming) (held : List (ℕ × Piece)) (count : ℕ) (k : Option ℕ) (a : ℕ) (p : Piece) → count ≡ max old.acked a - old.acked → c.received ≡ taken_after old k → held ≡ held_after old k p
    → DeliversPacket old (with_acked (record old { coming = c; held = held }) count) k a
delivered_with old c held count k a p e on keeps =
    let same : count ≡ a - old.acked = omega arith in
    record {
      acked = omega arith;
      queue = ap (λ (n : ℕ). drop n old.queue) same;
      received = on;
      held = (p, keeps);
      sent = refl;
      setup = refl;
      failed = refl;
    }

delivered_in : (old : LinkValue) (p : Piece) (count k a : ℕ) → count ≡ max old.acked a - old.acked → DeliversPacket old (with_acked (taking_in old k p) count) (Some k) a
delivered_in old p count k a e =
    let c : Coming = cond (k == old.coming.received + 1) (with_all_taken old.coming (run old p)) old.coming in
    let on : c.received ≡ taken_after old (Some k) = elim (cases_eq k (old.coming.received + 1)) [
      | inl next ↦
          let same : following (old.coming.received + 1) old.held ≡ following k old.held = ap (λ (n : ℕ). following n old.held) (sym next) in
          rw (eq-eqb k (old.coming.received + 1) next) (received-all old.coming (run old p) ∙ omega (arith, ap length same, next))
      | inr ne ↦ rw (ne_eqb k (old.coming.received + 1) ne) refl
    ] in
    delivered_with old c (held_after old (Some k) p) count (Some k) a p e on refl

found : (old : LinkValue) (size : ℕ) (messages given : List (List ℕ)) (s : SegmentFields) (n a : ℕ) → IsDue old size messages given (Segment s) (Some n) a → segment_number old s.number ≡ n
found old size messages given s n a due = rw due.2.carries.2 (segment_found old n due.2.fresh.0 due.2.near)

-- it was taken in
took : (old new : LinkValue) (got : Got) (size : ℕ) (messages given : List (List ℕ)) (p : Packet) (k : Option ℕ) (a : ℕ) → IsDue old size messages given p k a → new.acked ≡ max old.acked a → ReceivesPacket old p (Ok got) new → DeliversPacket old new k a
took old new got size messages given (Segment s) (Some n) a due acked (_, (same, _, (count, newly, e))) =
    let left : new ≡ with_acked (taking_in old n (piece_of s)) count = e ∙ ap (λ (k : ℕ). with_acked (taking_in old k (piece_of s)) count) (found old size messages given s n a due) in
    let moved : new.acked ≡ old.acked + count = ap (λ (v : LinkValue). v.acked) e in
    rw left (delivered_in old (piece_of s) count n a (omega (arith, moved, acked)))
took old new got size messages given (DataAck s) None a due acked (_, (same, (count, newly, e))) =
    let moved : new.acked ≡ old.acked + count = ap (λ (v : LinkValue). v.acked) e in
    rw e (delivered_with old old.coming old.held count None a (record { first = false; last = false; payload = [] }) (omega (arith, moved, acked)) refl refl)
took old new got size messages given (Segment s) None a due acked rec = absurd due.2.carries
took old new got size messages given (DataAck s) (Some n) a due acked rec = absurd due.2.carries

no_sequence : (e : LinkFault) → (e ≡ NoMemory) ⊎ (e ≡ Exhausted) → e ≡ BadSequence → ⊥
no_sequence e (inl memory) bad = cc
no_sequence e (inr many) bad = cc

-- the next one was refused
refused_next : (old : LinkValue) (p : Piece) (n : ℕ) (e : LinkFault) → n ≡ old.coming.received + 1 → (e ≡ NoMemory) ⊎ (e ≡ Exhausted) → RefusesAll old.setup.max_message old.coming (run old p) e → MayRefuse old (Some n) e
refused_next old p n e next (inl memory) out =
    let few = (subst (RefusesAll old.setup.max_message old.coming (run old p)) memory out).1 in
    let same : following (old.coming.received + 1) old.held ≡ following n old.held = ap (λ (k : ℕ). following k old.held) (sym next) in
    let within : n + length (following n old.held) ≤ max_segments = omega (arith, few, ap length same, next) in
    inl (memory, inl next, rw (eq-eqb n (old.coming.received + 1) next) within)
refused_next old p n e next (inr many) out =
    let over = (subst (RefusesAll old.setup.max_message old.coming (run old p)) many out).1 in
    let same : following (old.coming.received + 1) old.held ≡ following n old.held = ap (λ (k : ℕ). following k old.held) (sym next) in
    let beyond : max_segments < n + length (following n old.held) = omega (arith, over, ap length same, next) in
    inr (many, next, rw (eq-eqb n (old.coming.received + 1) next) beyond)

-- it was refused
refused : (old new : LinkValue) (e : LinkFault) (size : ℕ) (messages given : List (List ℕ)) (p : Packet) (k : Option ℕ) (a : ℕ) → IsDue old size messages given p k a → old.coming.received ≤ max_segments → (e ≡ NoMemory) ⊎ (e ≡ Exhausted) → ReceivesPacket old p (Err e) new → MayRefuse old k e
refused old new e size messages given p k a due few why (inl (out, _), _) = absurd (out due.2.way)
refused old new e size messages given (DataAck s) k a due few why (inr (_, (_, bad)), _) = absurd (no_sequence e why bad)
refused old new e size messages given (Segment s) k a due few why (inr (_, inl (_, bad)), _) = absurd (no_sequence e why bad)
refused old new e size messages given (Segment s) (Some n) a due few why (inr (_, inr (_, inl (next, out))), _) =
    refused_next old (piece_of s) n e (sym (found old size messages given s n a due) ∙ next) why out
refused old new e size messages given (Segment s) (Some n) a due few why (inr (_, inr (_, inr (keeps, memory))), _) =
    let kept = subst (λ (k : ℕ). KeepsEarly old k) (found old size messages given s n a due) keeps in
    inl (memory, inr kept, rw (ne_eqb n (old.coming.received + 1) (λ x. omega (arith, kept.0, x))) few)
refused old new e size messages given (Segment s) None a due few why (inr (_, inr _), _) = absurd due.2.carries

-- a packet that is due, by the counts
pub due_counted : (old new : LinkValue) (r : Result Got LinkFault) (size : ℕ) (messages given : List (List ℕ)) (p : Packet) (k : Option ℕ) (a : ℕ) → IsLink old → IsDue old size messages given p k a → ReceivesPacket old p r new
    → MatchResult r (λ got. (got ≡ got_of old.coming.received k) × DeliversPacket old new k a × Stands new size messages given)
    (λ e. MayRefuse old k e × (new ≡ old))
due_counted old new (Ok got) size messages given p k a link due rec =
    let told : Due old new (Ok got) size messages given k a = due_received old new (Ok got) size messages given p k a link due rec in
    (told.0, took old new got size messages given p k a due told.1 rec, told.2)
due_counted old new (Err e) size messages given p k a link due rec =
    let told : Due old new (Err e) size messages given k a = due_received old new (Err e) size messages given p k a link due rec in
    (refused old new e size messages given p k a due link.few_taken told.0 rec, told.1)

-- it is a reason to refuse no segment that was taken
taken_unrefused : (old : LinkValue) (k : Option ℕ) (e : LinkFault) → IfSome k (λ n. n ≤ old.coming.received) → MayRefuse old k e → ⊥
taken_unrefused old None e before refused = absurd refused
taken_unrefused old (Some k) e before (inl (memory, inl next, few)) = omega (arith, next, before)
taken_unrefused old (Some k) e before (inl (memory, inr keeps, few)) = omega (arith, keeps.0, before)
taken_unrefused old (Some k) e before (inr (many, next, over)) = omega (arith, next, before)

pub unrefused : (old new : LinkValue) (r : Result Got LinkFault) (size : ℕ) (messages given : List (List ℕ)) (p : Packet) (k : Option ℕ) (a : ℕ) → IsLink old → IsDue old size messages given p k a → ReceivesPacket old p r new
    → IfSome k (λ n. n ≤ old.coming.received) → IsOk r
unrefused old new (Ok got) size messages given p k a link due rec before = search rules
unrefused old new (Err e) size messages given p k a link due rec before =
    absurd (taken_unrefused old k e before (due_counted old new (Err e) size messages given p k a link due rec).0)

-- what taking in any bytes comes to, where these are a packet that is due
pub came_due : (old new : LinkValue) (bytes : List ℕ) (r : Result Got LinkFault) (size : ℕ) (messages given : List (List ℕ)) (p : Packet) (k : Option ℕ) (a : ℕ) → Receives old new bytes r → Spells p bytes → IsDue old size messages given p k a
    → MatchResult r (λ got. (got ≡ got_of old.coming.received k) × DeliversPacket old new k a × Stands new size messages given)
    (λ e. MayRefuse old k e × (new ≡ old))
came_due old new bytes r size messages given p k a h spelled due = h.due size messages given p k a spelled due
