use Rattle.std.proofs.Common.{refl, subst, sym, []}
use Rattle.nsp_link.proofs.ForCallers.{sends_new}
use Rattle.dap_end.specs.Ports.{PortValue}
use Rattle.dap_end.specs.Asking.{HasAsked}
use Rattle.dap_end.specs.Done.{nothing_asked}
use Rattle.dap_end.specs.Inner.AskingView.{asking_of}
use Rattle.dap_end.proofs.Going.{gone_nothing}
use Rattle.dap_end.proofs.asking.End+Accessing.renew.Goals as goal

pub returns-clause-ok : goal.returns-clause-ok
returns-clause-ok c = rw (← c.self.view_is) (
  subst (λ (p : PortValue). HasAsked nothing_asked (asking_of p c.renew.new.self)) (sym c.in_ok-port.ensures.ok.1)
      (record { asking = c.renew.ensures.stands; gone = gone_nothing []; sends = sends_new c.args.setup; messages = refl; waiting = refl; fit = tt; full = tt }),
  c.in_ok-port.ensures.ok.1,
  c.renew.ensures.own,
)
