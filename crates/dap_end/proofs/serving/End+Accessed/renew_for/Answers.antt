use Rattle.std.proofs.Common.{refl, subst, sym, []}
use Rattle.nsp_link.proofs.ForCallers.{sends_new}
use Rattle.dap_end.specs.Ports.{PortValue}
use Rattle.dap_end.specs.Serving.{IsAfter}
use Rattle.dap_end.specs.Done.{nothing_yet}
use Rattle.dap_end.specs.Inner.ServingView.{serving_of}
use Rattle.dap_end.proofs.Going.{gone_nothing}
use Rattle.dap_end.proofs.serving.End+Accessed.renew_for.Goals as goal

pub returns-clause-ok : goal.returns-clause-ok
returns-clause-ok c = rw (← c.self.view_is) (
  subst (λ (p : PortValue). IsAfter (nothing_yet c.self.inside.role.files) (serving_of p c.renew_for.new.self)) (sym c.in_ok-fresh.ensures.ok.1)
      (record { serving = c.renew_for.ensures.stands; gone = gone_nothing []; sends = sends_new c.args.setup; answers = refl; fit = tt }),
  c.in_ok-fresh.ensures.ok.1,
)

pub returns-clause-own : goal.returns-clause-own
returns-clause-own c = rw (← c.self.view_is) c.renew_for.ensures.setup
