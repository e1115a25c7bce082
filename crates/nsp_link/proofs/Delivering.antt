-- What becomes of a packet that is due: the numbers that go round tell which it is.
use Rattle.std.proofs.Common.{◌≡◌, ◌⊎◌, ℕ, ◌+◌, ◌-◌, ◌<◌, ◌≤◌, max, List, length, Option, Some, None, Result, Ok, Err, refl, sym, ap, ◌∙◌, arith, true, false, inl, inr, cond, subst}
use Rattle.std.specs.Prelude.{slice_get, nat_lt, ◌&&◌}
use Rattle.std.proofs.lemmas.Bool.{lt-ltb, le-ltb, cases_lt, cases_eq, eq-eqb, ne_eqb}
use Rattle.nsp_seg.specs.Numbers.{residue}
use Rattle.nsp_seg.specs.declared.packet.Packet.{Packet}
use Rattle.nsp_seg.specs.declared.packet.SegmentFields.{SegmentFields}
use Rattle.nsp_seg.specs.declared.packet.Packet.TheVariants.{Segment, DataAck}
use Rattle.nsp_seg.specs.declared.packet.AckFields.{AckFields}
use Rattle.nsp_link.specs.declared.fault.LinkFault.{LinkFault}
use Rattle.nsp_link.specs.declared.fault.LinkFault.TheVariants.{Malformed, Exhausted, NoMemory}
use Rattle.nsp_link.specs.declared.link.Got.{Got}
use Rattle.nsp_seg.specs.declared.packet.SegFault.{SegFault}
use Rattle.nsp_link.specs.Cutting.{cut}
use Rattle.std.specs.List.{AllByRecursion}
use Rattle.nsp_link.specs.Coming.{with_all_taken, AllFitInOrder, RefusesAll}
use Rattle.nsp_link.specs.Holding.{following}
use Rattle.nsp_link.specs.Link.{LinkValue, IsLink, Stands, got_of, piece_of, with_acked}
use Rattle.nsp_link.specs.Due.{IsDue}
use Rattle.nsp_link.specs.Inner.Whole.{HasTaken}
use Rattle.nsp_link.specs.Receiving.{newly_acked, segment_number, taking_in, run, end_after_refusal, ReceivesPacket}
use Rattle.nsp_link.proofs.Taking.{AreNext, fits_all, refuses-all}
use Rattle.nsp_link.proofs.Taken.{taken_more, whole_of}
use Rattle.nsp_link.proofs.Held.{inserted, following_next, all_drop, all_inserted}

-- Separation: a number less than 4,096 from another is found from the two residues alone.
pub ahead : (x y : ℕ) → y ≤ x → x < y + 4096 → residue (residue x + 4096 - residue y) ≡ x - y
unfolding residue
ahead x y le lt = omega arith

pub behind : (x y : ℕ) → x < y → y ≤ x + 4096 → residue (residue x + 4096 - residue y) ≡ 4096 - (y - x)
unfolding residue
behind x y lt le = omega arith

-- of the first a, this many are acknowledged anew
pub newly_acked-of : (v : LinkValue) (a : ℕ) → v.acked ≤ v.sent → v.sent ≤ v.acked + 2047 → a ≤ v.sent → v.acked ≤ a + 2047 → newly_acked v (Some (residue a)) ≡ Some (max v.acked a - v.acked)
newly_acked-of v a ordered window believable fresh =
    elim (cases_lt a v.acked) [
      | inl lt ↦
          let none : max v.acked a - v.acked ≡ 0 = omega arith in
          rw (behind a v.acked lt (omega arith), le-ltb (4096 - (v.acked - a)) 2048 (omega arith), none) refl
      | inr le ↦
          let some : max v.acked a - v.acked ≡ a - v.acked = omega arith in
          rw (ahead a v.acked le (omega arith), lt-ltb (a - v.acked) 2048 (omega arith), le-ltb (v.sent - v.acked) (a - v.acked) (omega arith), some) refl
    ]

-- a number less than 2,048 from the next one's says which segment it is
pub segment_found : (v : LinkValue) (k : ℕ) → v.coming.received + 1 ≤ k + 2047 → k ≤ v.coming.received + 2047 → segment_number v (residue k) ≡ k
segment_found v k fresh near =
    elim (cases_lt k (v.coming.received + 1)) [
      | inl lt ↦ rw (behind k (v.coming.received + 1) lt (omega arith), le-ltb (4096 - (v.coming.received + 1 - k)) 2048 (omega arith)) (omega arith)
      | inr le ↦ rw (ahead k (v.coming.received + 1) le (omega arith), lt-ltb (k - (v.coming.received + 1)) 2048 (omega arith)) (omega arith)
    ]

stands_forgotten : (v : LinkValue) (count size : ℕ) (messages given : List (List ℕ)) → Stands v size messages given → Stands (with_acked v count) size messages given
stands_forgotten v count size messages given st = record { taken = st.taken; held = st.held }

-- what the definition says of a packet that is due
abbrev pub Due : LinkValue → LinkValue → Result Got LinkFault → ℕ → List (List ℕ) → List (List ℕ) → Option ℕ → ℕ → Type 0
Due old new (Ok got) size messages given k a = (got ≡ got_of old.coming.received k) × (new.acked ≡ max old.acked a) × Stands new size messages given
Due old new (Err e) size messages given k a = ((e ≡ NoMemory) ⊎ (e ≡ Exhausted)) × (new ≡ old)

count_is : (old : LinkValue) (size : ℕ) (messages given : List (List ℕ)) (p : Packet) (k : Option ℕ) (a count : ℕ) (number : Option ℕ) → IsLink old → IsDue old size messages given p k a → number ≡ Some (residue a) → newly_acked old number ≡ Some count → count ≡ max old.acked a - old.acked
count_is old size messages given p k a count number link due e newly =
    let is = newly_acked-of old a link.acked (omega (arith, link.within, link.setup.3)) due.2.believable due.2.fresh.1 in
    let f = rw e at newly in
    (cc)

count_some : (old : LinkValue) (size : ℕ) (messages given : List (List ℕ)) (p : Packet) (k : Option ℕ) (a : ℕ) (number : Option ℕ) → IsLink old → IsDue old size messages given p k a → number ≡ Some (residue a) → newly_acked old number ≡ None → ⊥
count_some old size messages given p k a number link due e newly =
    let is = newly_acked-of old a link.acked (omega (arith, link.within, link.setup.3)) due.2.believable due.2.fresh.1 in
    let f = rw e at newly in
    cc

due_ack : (old new : LinkValue) (r : Result Got LinkFault) (size : ℕ) (messages given : List (List ℕ)) (s : AckFields) (a : ℕ) → IsLink old → IsDue old size messages given (DataAck s) None a → ReceivesPacket old (DataAck s) r new → Due old new r size messages given None a
due_ack old new (Ok got) size messages given s a link due (_, (same, (count, newly, e))) =
    let is = count_is old size messages given (DataAck s) None a count _ link due due.2.carries newly in
    (same, ap (λ (v : LinkValue). v.acked) e ∙ omega (arith, is), rw e (stands_forgotten old count size messages given due.1))
due_ack old new (Err e) size messages given s a link due (inl (out, _), _) = absurd (out due.2.way)
due_ack old new (Err e) size messages given s a link due (inr (_, (none, _)), _) = absurd (count_some old size messages given (DataAck s) None a _ link due due.2.carries none)

module _ (old : LinkValue) (size : ℕ) (messages given : List (List ℕ)) (s : SegmentFields) (n a : ℕ) (link : IsLink old) (due : IsDue old size messages given (Segment s) (Some n) a) where
  found : segment_number old s.number ≡ n
  found = rw due.2.carries.2 (segment_found old n due.2.fresh.0 due.2.near)

  -- the next segment and all that follow it are segments of the messages
  next_taken : n ≡ old.coming.received + 1 → AllFitInOrder old.setup.max_message old.coming (run old (piece_of s)) × HasTaken (with_all_taken old.coming (run old (piece_of s))) size messages given
  unfolding AreNext
  next_taken e =
      let back : n - 1 ≡ old.coming.received = omega arith in
      let at : slice_get (cut size messages) old.coming.received ≡ Some (piece_of s) = rw back at due.2.carries.1 in
      let next : AreNext (cut size messages) old.coming.received (run old (piece_of s)) = (at, following_next (old.coming.received + 1) (cut size messages) old.held due.1.held) in
      let whole = whole_of old.coming size messages given due.2.positive due.1.taken in
      (fits_all old.coming size messages given (run old (piece_of s)) old.setup.max_message due.2.positive due.2.short whole next, taken_more old.coming size messages given (run old (piece_of s)) due.1.taken next)

  stands_in : Stands (taking_in old n (piece_of s)) size messages given
  stands_in = elim (cases_eq n (old.coming.received + 1)) [
    | inl e ↦ rw (eq-eqb n (old.coming.received + 1) e) (record {
      taken = (next_taken e).1;
      held = all_drop (cut size messages) (length (following n old.held)) old.held due.1.held;
    })
    | inr ne ↦ rw (ne_eqb n (old.coming.received + 1) ne) (record {
      taken = due.1.taken;
      held = elim (nat_lt old.coming.received n && nat_lt n (old.coming.received + 1 + old.setup.window)) as (λ b. AllByRecursion (λ h. slice_get (cut size messages) (h.0 - 1) ≡ Some h.1) (cond b (inserted n (piece_of s) old.held) old.held)) [
        | true ↦ all_inserted (cut size messages) n (piece_of s) old.held due.2.carries.1 due.1.held
        | false ↦ due.1.held
      ];
    })
  ]

  -- the next one isn't taken: what is refused leaves the end as it was
  due_not_taken : (new : LinkValue) (e : LinkFault) → n ≡ old.coming.received + 1 → RefusesAll old.setup.max_message old.coming (run old (piece_of s)) e → new ≡ end_after_refusal e old → Due old new (Err e) size messages given (Some n) a
  due_not_taken new e next out left =
      elim (refuses-all old.setup.max_message old.coming (run old (piece_of s)) e (next_taken next).0 out) [
        | inl m ↦ (inl m.0, left ∙ ap (λ (f : LinkFault). end_after_refusal f old) m.0)
        | inr x ↦ (inr x.0, left ∙ ap (λ (f : LinkFault). end_after_refusal f old) x.0)
      ]

  due_segment : (new : LinkValue) (r : Result Got LinkFault) → ReceivesPacket old (Segment s) r new → Due old new r size messages given (Some n) a
  due_segment new (Ok got) (_, (same, _, (count, newly, e))) =
      let is = count_is old size messages given (Segment s) (Some n) a count _ link due due.2.carries.3 newly in
      let left : new ≡ with_acked (taking_in old n (piece_of s)) count = e ∙ ap (λ (k : ℕ). with_acked (taking_in old k (piece_of s)) count) found in
      (same ∙ ap (λ (k : ℕ). got_of old.coming.received (Some k)) found, ap (λ (v : LinkValue). v.acked) e ∙ omega (arith, is), rw left (stands_forgotten (taking_in old n (piece_of s)) count size messages given stands_in))
  due_segment new (Err e) (inl (out, _), _) = absurd (out due.2.way)
  due_segment new (Err e) (inr (_, inl (none, _)), _) = absurd (count_some old size messages given (Segment s) (Some n) a _ link due due.2.carries.3 none)
  due_segment new (Err e) (inr (_, inr (_, inl (next, out))), left) = due_not_taken new e (sym found ∙ next) out left
  due_segment new (Err e) (inr (_, inr (_, inr (keeps, memory))), left) = (inl memory, left ∙ ap (λ (f : LinkFault). end_after_refusal f old) memory)

-- a packet that is due does what the definition says
pub due_received : (old new : LinkValue) (r : Result Got LinkFault) (size : ℕ) (messages given : List (List ℕ)) (p : Packet) (k : Option ℕ) (a : ℕ) → IsLink old → IsDue old size messages given p k a → ReceivesPacket old p r new → Due old new r size messages given k a
due_received old new r size messages given (Segment s) (Some n) a link due rec = due_segment old size messages given s n a link due new r rec
due_received old new r size messages given (Segment s) None a link due rec = absurd due.2.carries
due_received old new r size messages given (DataAck s) None a link due rec = due_ack old new r size messages given s a link due rec
due_received old new r size messages given (DataAck s) (Some n) a link due rec = absurd due.2.carries

-- a packet that was read is not malformed
pub received_read : (old new : LinkValue) (p : Packet) (r : Result Got LinkFault) (f : SegFault) → ReceivesPacket old p r new → r ≡ Err (Malformed f) → ⊥
received_read old new p (Ok got) f rec e = cc
received_read old new p (Err g) f (inl out, _) e = cc
received_read old new (Segment s) (Err g) f (inr (_, inl out), _) e = cc
received_read old new (Segment s) (Err g) f (inr (_, inr (_, inl out)), _) e =
    let same : g ≡ Malformed f = (cc) in
    subst (λ (h : LinkFault). RefusesAll old.setup.max_message old.coming (run old (piece_of s)) h) same out.1
received_read old new (Segment s) (Err g) f (inr (_, inr (_, inr out)), _) e = cc
received_read old new (DataAck s) (Err g) f (inr out, _) e = cc
