-- What isn't stale is told apart by its numbers modulo 4,096.
use Rattle.std.proofs.Common.{◌≡◌, ℕ, ◌+◌, ◌≤◌, arith, subst}
use Rattle.std.specs.Prelude.{Option, Some, None, IfSome}
use Rattle.nsp_seg.specs.Numbers.{residue}
use Rattle.nsp_link.specs.Separation.{IsSegmentNear, IsAckNear}
use Rattle.dap_events.specs.declared.event.End.{End}
use Rattle.dap_world.specs.Machine.{State, Sending, end_of, other_end, is_old, MayDeliver}
use Rattle.dap_world.specs.Runs.{IsReached}
use Rattle.nsp_link.specs.Limits.{max_window}
use Rattle.dap_world.specs.Inner.Ways.{is_old_segment}
use Rattle.dap_world.specs.Inner.Worlds.{IsWorld, WasSent}
use Rattle.dap_world.proofs.Steps.Arriving.{young_segment, young_ack, neither}
use Rattle.dap_world.proofs.Headline.Kept.{runs_sound, back, direction, true_of}

segment_near : (taken sent : ℕ) (k : Option ℕ) → sent ≤ taken + 2047 → WasSent sent k → IfSome k (λ n. taken + 1 ≤ n + 2047) → IfSome k (IsSegmentNear taken)
segment_near taken sent None le was young = tt
segment_near taken sent (Some k) le was young = (young, omega (arith, le, was.1))

module _ (s : State) (end : End) (h : IsWorld s) where
  near_is : (j : ℕ) (p : Sending) → MayDeliver s end j p → IfSome p.segment (IsSegmentNear (end_of s end).taken) × IsAckNear (end_of s end).acked p.acks
  near_is j p fresh =
      let comes = back s end h in
      let there = direction s end h in
      let was = true_of s end j p h fresh.0 in
      let young = neither (is_old_segment (end_of s end).taken p.segment) (is_old p.acks (end_of s end).acked) fresh.1 in (
        segment_near (end_of s end).taken (end_of s (other_end end)).sent p.segment
            (omega (arith, comes.counts.within_window, comes.counts.acked_taken, h.window)) was.0 (young_segment (end_of s end).taken p.segment young.0),
        (young_ack p.acks (end_of s end).acked young.1, omega (arith, was.1, there.counts.taken_sent, there.counts.within_window, h.window)),
      )

  numbered : (taken k : ℕ) (segment : Option ℕ) → segment ≡ Some k → IfSome segment (IsSegmentNear taken) → IsSegmentNear taken k
  numbered taken k segment is near = subst (λ (o : Option ℕ). IfSome o (IsSegmentNear taken)) is near

  segments_apart : (taken k l : ℕ) → IsSegmentNear taken k → IsSegmentNear taken l → residue k ≡ residue l → k ≡ l
  unfolding residue
  segments_apart taken k l near also same = omega arith

  acks_apart : (acked a b : ℕ) → IsAckNear acked a → IsAckNear acked b → residue a ≡ residue b → a ≡ b
  unfolding residue
  acks_apart acked a b near also same = omega arith

pub reached_sound : (s : State) → IsReached s → IsWorld s
reached_sound s r = runs_sound r.0 r.1 s r.2 r.3

pub counts_in_order : (s : State) → IsReached s → (end : End) → ((end_of s end).acked ≤ (end_of s (other_end end)).taken) × ((end_of s (other_end end)).taken ≤ (end_of s end).sent)
counts_in_order s r end = let counts = (direction s end (reached_sound s r)).counts in (counts.acked_taken, counts.taken_sent)

pub within_window : (s : State) → IsReached s → (end : End) → ((end_of s end).sent ≤ (end_of s end).acked + s.window) × (s.window ≤ max_window)
within_window s r end = let h = reached_sound s r in ((direction s end h).counts.within_window, h.window)

pub are_near : (s : State) → IsReached s → (end : End) (j : ℕ) (p : Sending) → MayDeliver s end j p → IfSome p.segment (IsSegmentNear (end_of s end).taken) × IsAckNear (end_of s end).acked p.acks
are_near s r end = near_is s end (reached_sound s r)

pub segments_told : (s : State) → IsReached s → (end : End) (i j k l : ℕ) (p q : Sending) → MayDeliver s end i p → MayDeliver s end j q
    → p.segment ≡ Some k → q.segment ≡ Some l → residue k ≡ residue l → k ≡ l
segments_told s r end i j k l p q one two is also same =
    let taken = (end_of s end).taken in
    let h = reached_sound s r in
    segments_apart s end h taken k l (numbered s end h taken k p.segment is (near_is s end h i p one).0) (numbered s end h taken l q.segment also (near_is s end h j q two).0) same

pub acks_told : (s : State) → IsReached s → (end : End) (i j : ℕ) (p q : Sending) → MayDeliver s end i p → MayDeliver s end j q → residue p.acks ≡ residue q.acks → p.acks ≡ q.acks
acks_told s r end i j p q one two same =
    let h = reached_sound s r in acks_apart s end h (end_of s end).acked p.acks q.acks (near_is s end h i p one).1 (near_is s end h j q two).1 same
