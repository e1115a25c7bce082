-- Few messages were served.
use Rattle.std.proofs.Common.{ℕ, ◌<◌, ◌≤◌, ◌^◌, arith, subst, ap, List, length, take}
use Rattle.std.proofs.lemmas.List.{length-append}
use Rattle.dap_msg.specs.Blocked.{messages_in}
use Rattle.nsp_link.specs.Cutting.{cut}
use Rattle.nsp_link.specs.Limits.{max_segments}
use Rattle.std.specs.Prelude.{◌≢◌, Option, Some, None}
use Rattle.dap_accessing.specs.declared.pending.Pending.{Pending}
use Rattle.dap_accessing.specs.Present.{FitsDue}
use Rattle.dap_accessing.specs.Told.{Due, NothingDue, AnswersDue, Wrong, due_after}
use Rattle.dap_world.specs.Machine.{answers_read, arrived_messages, reports_by_a}
use Rattle.dap_world.specs.Inner.Settling.{IsOneDue}
use Rattle.dap_world.specs.Inner.Parts.{Parts, AreParts, asked_messages, state_of}
use Rattle.dap_world.specs.Inner.Sides.{AreWithinLimit}
use Rattle.dap_world.proofs.Steps.Serving.{fit-take}
use Rattle.dap_world.proofs.Steps.Counting.{handed-bytes}
use Rattle.dap_world.proofs.Steps.Growing.{few_messages}
use Rattle.dap_world.proofs.Steps.Packets.{arrived-front}

pub few_served : (p : Parts) → AreParts p → p.served < 2 ^ 56
few_served p h =
    let s = state_of p in
    let packets = take p.a.posted (asked_messages p) in
    let front = arrived-front s.seg_size s.b.taken s.a.handed in
    few_messages p.a.link.setup.seg_size packets p.served (omega (arith, h.world.served, ap length front.1, length-append (messages_in (arrived_messages s.seg_size s.b.taken s.a.handed)) front.0))
    (fit-take p.a.posted (asked_messages p) h.from_a.fit) p.b.link.setup.max_message
    (subst (AreWithinLimit p.b.link.setup.max_message) (handed-bytes p.a.posted h.from_a.handed p.a.outbox (asked_messages p) h.from_a.posted h.from_a.bytes) h.from_a.way.short) (omega (arith, h.most, h.alike.limit))
    (subst (λ (l : List (List ℕ)). length (cut p.a.link.setup.seg_size l) ≤ max_segments) (handed-bytes p.a.posted h.from_a.handed p.a.outbox (asked_messages p) h.from_a.posted h.from_a.bytes) h.from_a.way.few)

-- at most one request has no report yet
pub one_due : (p : Parts) → AreParts p → IsOneDue (state_of p)
unfolding reports_by_a
one_due p h = h.asking.1.asking.alone

-- no answer was out of sequence
not_wrong : (d : Due) (p : Option Pending) → FitsDue d p → d ≢ Wrong
not_wrong NothingDue p h = λ e. cc
not_wrong (AnswersDue r so_far) p h = λ e. cc
not_wrong Wrong None h = absurd h
not_wrong Wrong (Some p) h = absurd h

pub none_out_of_sequence : (p : Parts) → AreParts p → due_after (state_of p).requests (answers_read (state_of p)) ≢ Wrong
none_out_of_sequence p h = not_wrong (due_after p.requests (answers_read (state_of p))) p.accessing.pending h.asking.1.asking.pending
