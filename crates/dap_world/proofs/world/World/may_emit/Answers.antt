use Rattle.std.proofs.Common.{◌≡◌, ◌∙◌, sym, subst, false, IsTrue}
use Rattle.nsp_link.specs.Link.{LinkValue, may_send}
use Rattle.dap_events.specs.declared.event.End.TheVariants.{A, B}
use Rattle.dap_world.specs.Inner.WorldView.{parts_of}
use Rattle.dap_world.proofs.Steps.Wrote.{can, cannot}
use Rattle.dap_world.proofs.world.World.may_emit.Goals as goal

pub returns-in-A : goal.returns-in-A
returns-in-A c =
    rw (← c.self.view_is, c.in-A.is)
    (record {
      yes = λ e. can (parts_of c.self.inside) A c.self.invariant (subst (λ (v : LinkValue). IsTrue (may_send v)) c.link.ensures (sym c.may_send.ensures ∙ e));
      no = λ e. cannot (parts_of c.self.inside) A c.self.invariant (subst (λ (v : LinkValue). may_send v ≡ false) c.link.ensures (sym c.may_send.ensures ∙ e));
    })

pub returns-in-B : goal.returns-in-B
returns-in-B c =
    rw (← c.self.view_is, c.in-B.is)
    (record {
      yes = λ e. can (parts_of c.self.inside) B c.self.invariant (subst (λ (v : LinkValue). IsTrue (may_send v)) c.link-in-B.ensures (sym c.may_send-in-B.ensures ∙ e));
      no = λ e. cannot (parts_of c.self.inside) B c.self.invariant (subst (λ (v : LinkValue). may_send v ≡ false) c.link-in-B.ensures (sym c.may_send-in-B.ensures ∙ e));
    })
