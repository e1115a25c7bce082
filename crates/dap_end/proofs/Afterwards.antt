-- What the calls of a serving end leave of what it did.
use Rattle.std.proofs.Common.{◌≡◌, ℕ, sym, ◌∙◌, subst, ap, List, ◌++◌, length, IsTrue}
use Rattle.std.specs.Prelude.{Result, Ok, Err, IfOk, OnOk}
use Rattle.std.proofs.lemmas.List.{append-nil}
use Rattle.nsp_link.specs.declared.fault.LinkFault.{LinkFault}
use Rattle.nsp_link.specs.Link.{LinkValue, SendsStill}
use Rattle.nsp_link.specs.Sending.{may_queue}
use Rattle.nsp_link.proofs.ForCallers.{sends_all}
use Rattle.dap_end.specs.Ports.{EndValue, HandsOver, PortValue}
use Rattle.dap_end.specs.Moved.{with_link, with_outbox_sent}
use Rattle.dap_end.specs.Going.{GoneThrough}
use Rattle.dap_end.specs.Serving.{IsAfter}
use Rattle.dap_end.specs.Done.{ServingValue, ServerHistory}
use Rattle.dap_end.proofs.Taking.{Grown}
use Rattle.dap_end.proofs.Going.{gone_stays}

-- a packet came
pub after_received : (past : ServerHistory) (v : ServingValue) (link : LinkValue) → Grown v.port.link link → SendsStill v.port.link link → IsAfter past v → IsAfter past (record v { port = with_link v.port link })
after_received past v link g sends h =
    record {
      serving = h.serving;
      gone = subst (λ (l : List (List ℕ)). GoneThrough past.given l v.port.offset past.items) (sym g.inbox) (gone_stays past.given v.port.link.coming.inbox g.more v.port.offset past.items h.gone);
      sends = sends past.handed h.sends;
      answers = h.answers;
      fit = h.fit;
    }

-- what waited was passed on
pub after_posted : (past : ServerHistory) (v : ServingValue) → IsAfter past v → IsAfter (record past { handed = past.handed ++ v.port.outbox }) (record v { port = with_outbox_sent v.port })
after_posted past v h =
    record {
      serving = h.serving;
      gone = h.gone;
      sends = sends_all v.port.link past.handed v.port.outbox h.sends;
      answers = append-nil (past.handed ++ v.port.outbox) ∙ h.answers;
      fit = h.fit;
    }

pub hands_over : {P : Type 0} (v : EndValue P) (port : PortValue) (r : Result ℕ LinkFault) → OnOk r (IsTrue (may_queue v.port.link v.port.outbox)) → IfOk r (λ n. (port ≡ with_outbox_sent v.port) × (n ≡ length v.port.outbox))
    → IfOk r (λ n. HandsOver v (record v { port = port }) n)
hands_over v port (Ok n) may h = (may, ap (λ (p : PortValue). record v { port = p }) h.0, h.1)
hands_over v port (Err f) may h = h

-- the end then
pub posted_is : (old new : ServingValue) (n : ℕ) → HandsOver old new n → new ≡ record old { port = with_outbox_sent old.port }
posted_is old new n h = h.1

pub posted_history : (old new : ServingValue) (n : ℕ) → HandsOver old new n → (past : ServerHistory) → IsAfter past old → IsAfter (record past { handed = past.handed ++ old.port.outbox }) new
posted_history old new n h past a = subst (IsAfter (record past { handed = past.handed ++ old.port.outbox })) (sym (posted_is old new n h)) (after_posted past old a)
