-- A packet that was put on a wire.
use Rattle.std.proofs.Common.{◌≡◌, ℕ, ◌+◌, ◌≤◌, arith, ◌∙◌, ap, subst, List, [], ◌∷◌, ◌++◌, length, IsTrue}
use Rattle.std.specs.Prelude.{Option}
use Rattle.nsp_link.specs.Link.{LinkValue, may_send}
use Rattle.nsp_link.specs.Sending.{WritesSent}
use Rattle.nsp_link.proofs.ForCallers.{may_send_by}
use Rattle.dap_end.specs.Ports.{PortValue}
use Rattle.dap_end.specs.Writing.{WroteMore}
use Rattle.dap_world.specs.declared.side.Wired.{Wired}
use Rattle.dap_events.specs.declared.event.Step.{Step}
use Rattle.dap_events.specs.declared.event.Step.TheVariants as step
use Rattle.dap_world.specs.Inner.Sides.{WroteWired}

pub wrote_put : (v : LinkValue) (old mid new : List Wired) (w : Wired) (k : Option ℕ) (answer : Step) → mid ≡ old → new ≡ mid ++ w ∷ [] → answer ≡ step.Packet (length mid)
    → w.segment ≡ k → w.acks ≡ v.coming.received → WritesSent v k w.packet.items → WroteWired v old new k answer
wrote_put v old mid new w k answer same wire index segment acks writes =
    record {
      index = index ∙ ap (λ (l : List Wired). step.Packet (length l)) same;
      wired = w;
      wire = wire ∙ ap (λ (l : List Wired). l ++ w ∷ []) same;
      segment = segment;
      acks = acks;
      writes = writes;
    }

-- one segment was written, so one might be
pub may_wrote : (old new : PortValue) (bytes : List ℕ) → WroteMore old new (bytes ∷ []) → IsTrue (may_send old.link)
may_wrote old new bytes w =
    let there = subst (λ (p : PortValue). p.link.sent ≤ p.link.acked + length p.link.queue) w.sent (w.there (omega arith)) in
    let within = subst (λ (p : PortValue). p.link.sent ≤ p.link.acked + p.link.setup.window) w.sent (w.within (omega arith)) in
    may_send_by old.link (omega arith) (omega arith)
