use Rattle.std.proofs.Common.{refl, subst, sym, []}
use Rattle.dap_end.specs.Ports.{PortValue}
use Rattle.dap_end.specs.Asking.{HasAsked}
use Rattle.dap_end.specs.Done.{nothing_asked}
use Rattle.dap_end.specs.Inner.AskingView.{asking_of}
use Rattle.nsp_link.proofs.ForCallers.{sends_new}
use Rattle.dap_end.proofs.Going.{gone_nothing}
use Rattle.dap_end.proofs.asking.End+Accessing.with_identity.Goals as goal

pub returns-clause-ok : goal.returns-clause-ok
returns-clause-ok c = (
  subst (λ (p : PortValue). HasAsked nothing_asked (asking_of p c.with_identity.result)) (sym c.in_ok-port.ensures.ok.1)
      (record { asking = c.with_identity.ensures.stands; gone = gone_nothing []; sends = sends_new c.args.setup; messages = refl; waiting = refl; fit = tt; full = tt }),
  c.in_ok-port.ensures.ok.1,
  c.with_identity.ensures.identity,
)
