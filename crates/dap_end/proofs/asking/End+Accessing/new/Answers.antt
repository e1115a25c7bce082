use Rattle.std.proofs.Common.{refl, subst, sym, []}
use Rattle.dap_end.specs.Ports.{PortValue}
use Rattle.dap_end.specs.Asking.{HasAsked}
use Rattle.dap_end.specs.Done.{nothing_asked}
use Rattle.dap_end.specs.Inner.AskingView.{asking_of}
use Rattle.nsp_link.proofs.ForCallers.{sends_new}
use Rattle.dap_end.proofs.Going.{gone_nothing}
use Rattle.dap_end.proofs.asking.End+Accessing.new.Goals as goal

pub returns-clause-ok : goal.returns-clause-ok
returns-clause-ok c = (
  subst (λ (p : PortValue). HasAsked nothing_asked (asking_of p c.new-2.result)) (sym c.in_ok-port.ensures.ok.1)
      (record { asking = c.new-2.ensures.stands; gone = gone_nothing []; sends = sends_new c.args.setup; messages = refl; waiting = refl; fit = tt; full = tt }),
  c.in_ok-port.ensures.ok.1,
  c.new-2.ensures.own,
)

pub returns-clause-identity : goal.returns-clause-identity
returns-clause-identity c = c.new-2.ensures.identity
