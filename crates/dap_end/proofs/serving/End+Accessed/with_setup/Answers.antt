use Rattle.std.proofs.Common.{refl, subst, sym, []}
use Rattle.dap_end.specs.Ports.{PortValue}
use Rattle.dap_end.specs.Serving.{IsAfter}
use Rattle.dap_end.specs.Done.{ServingValue, nothing_yet}
use Rattle.nsp_link.proofs.ForCallers.{sends_new}
use Rattle.dap_end.proofs.Going.{gone_nothing}
use Rattle.dap_end.proofs.serving.End+Accessed.with_setup.Goals as goal

pub returns-clause-ok : goal.returns-clause-ok
returns-clause-ok c = (
  subst (λ (p : PortValue). let v : ServingValue = record { port = p; present = c.with_setup.result } in IsAfter (nothing_yet []) v) (sym c.in_ok-port.ensures.ok.1)
      (record { serving = c.with_setup.ensures.stands; gone = gone_nothing []; sends = sends_new c.args.setup; answers = refl; fit = tt }),
  c.in_ok-port.ensures.ok.1,
  c.with_setup.ensures.setup,
)
