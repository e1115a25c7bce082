use Rattle.std.proofs.Common.{◌≢◌, ◌∙◌, sym, subst, refl, arith}
use Rattle.dap_accessing.specs.declared.fault.AskFault.TheVariants as fault
use Rattle.dap_msg.specs.Sendable.{AreSendable}
use Rattle.dap_accessing.specs.Present.{ClientState}
use Rattle.dap_accessing.specs.Outgoing.{AreCounted, first_of, last_of}
use Rattle.dap_accessing.specs.Calls.{AskRefused}
use Rattle.dap_accessing.specs.Prepared.{MayAsk}
use Rattle.dap_accessing.specs.contracts.accessing.Accessing.{the_view}
use Rattle.dap_accessing.proofs.Laws.{refuse_busy, refuse_phase, refuse_large, may_ask, admit}
use Rattle.dap_accessing.proofs.accessing.Accessing.prepare.Goals as goal

pub returns-then-is_some-clause-refused : goal.returns-then-is_some-clause-refused
returns-then-is_some-clause-refused c =
    subst (λ (v : ClientState). (fault.Busy ≢ fault.NoMemory) × AskRefused c.args.request.now v fault.Busy) c.self.view_is
    ((λ e. cc), (c.if-self.false, refuse_busy c.args.request.now (the_view c.self.inside) (sym c.is_some.ensures ∙ c.if-is_some.true)))

pub returns-then-not-fits-clause-refused : goal.returns-then-not-fits-clause-refused
returns-then-not-fits-clause-refused c =
    subst (λ (v : ClientState). (fault.WrongPhase ≢ fault.NoMemory) × AskRefused c.args.request.now v fault.WrongPhase) c.self.view_is
    ((λ e. cc), (c.if-self.false, refuse_phase c.args.request.now (the_view c.self.inside) (sym c.is_some.ensures ∙ c.if-is_some.false) (sym c.fits.ensures ∙ c.if-not-fits.true)))

pub returns-in-None-clause-refused : goal.returns-in-None-clause-refused
returns-in-None-clause-refused c =
    subst (λ (v : ClientState). (fault.TooLarge ≢ fault.NoMemory) × AskRefused c.args.request.now v fault.TooLarge) c.self.view_is (
      (λ e. cc),
      (
        c.if-self.false,
        refuse_large c.args.request.now (the_view c.self.inside) (sym c.is_some.ensures ∙ c.if-is_some.false) (sym c.fits.ensures ∙ c.if-not-fits.false)
            (λ s. c.in-None.ensures.no refl (subst (λ l. AreSendable c.self.inside.limit l) (sym c.of-outgoing.ensures.messages) s)),
      ),
    )

pub returns-in-Some-clause-prepared : goal.returns-in-Some-clause-prepared
returns-in-Some-clause-prepared c = record {
  may = subst (λ (v : ClientState). MayAsk v c.args.request.now) c.self.view_is
      (may_ask c.args.request.now (the_view c.self.inside) c.if-self.false (sym c.is_some.ensures ∙ c.if-is_some.false) (sym c.fits.ensures ∙ c.if-not-fits.false)
      (subst (λ l. AreSendable c.self.inside.limit l) c.of-outgoing.ensures.messages c.in-Some.ensures.yes) (omega arith));
  number = c.number-number.ensures;
  counted = subst (λ (v : ClientState). AreCounted (first_of v.identity c.args.request.now) (last_of c.args.request.now) c.in-Some.counts) c.self.view_is
      (rw (c.of-outgoing.ensures.first, c.of-outgoing.ensures.last) at c.in-Some.ensures.counted);
}

pub returns-in-Some-clause-admissible : goal.returns-in-Some-clause-admissible
returns-in-Some-clause-admissible c = admit c.args.request.now c.args.self.now (returns-in-Some-clause-prepared c).may
