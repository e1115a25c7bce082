use Rattle.std.proofs.Common.{◌≡◌, ℕ, List, refl, subst, inl, inr, false}
use Rattle.nsp_link.specs.Link.{LinkValue}
use Rattle.nsp_link.specs.Receiving.{Receives}
use Rattle.dap_world.specs.Inner.Ways.{NotDue, is_old_wired}
use Rattle.dap_world.proofs.calls.deliver_to.Goals as goal

pub returns-in-Ok-clause-comes : goal.returns-in-Ok-clause-comes
returns-in-Ok-clause-comes g c =
    inr (
      c.in-Ok.wired.now,
      c.in-Ok.ensures.ok.0,
      subst (λ (v : LinkValue). is_old_wired v c.in-Ok.wired.now ≡ false) c.link.ensures c.in-Ok.ensures.ok.1,
      c.receive.result,
      subst (λ (bytes : List ℕ). Receives c.args.end.now.port.link c.receive.new.self.port.link bytes c.receive.result) c.deref.ensures.value c.receive.ensures.receives,
      c.delivered.ensures,
    )

pub returns-in-Err-clause-comes : goal.returns-in-Err-clause-comes
returns-in-Err-clause-comes g c =
    inl (c.in-Err.fault, subst (λ (v : LinkValue). NotDue v c.args.wire.now c.args.j c.in-Err.fault) c.link.ensures c.in-Err.ensures.err, refl, refl)
