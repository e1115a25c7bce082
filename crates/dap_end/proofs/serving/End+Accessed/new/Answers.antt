use Rattle.std.proofs.Common.{refl, subst, sym, []}
use Rattle.dap_end.specs.Ports.{PortValue}
use Rattle.dap_end.specs.Serving.{IsAfter}
use Rattle.dap_end.specs.Done.{ServingValue, nothing_yet}
use Rattle.nsp_link.proofs.ForCallers.{sends_new}
use Rattle.dap_end.proofs.Going.{gone_nothing}
use Rattle.dap_end.proofs.serving.End+Accessed.new.Goals as goal

pub returns-clause-ok : goal.returns-clause-ok
returns-clause-ok c = (
  subst (λ (p : PortValue). let v : ServingValue = record { port = p; present = c.new-2.result } in IsAfter (nothing_yet []) v) (sym c.in_ok-port.ensures.ok.1)
      (record { serving = c.new-2.ensures.stands; gone = gone_nothing []; sends = sends_new c.args.setup; answers = refl; fit = tt }),
  c.in_ok-port.ensures.ok.1,
  c.new-2.ensures.own,
)

pub returns-clause-plain : goal.returns-clause-plain
returns-clause-plain c = c.new-2.ensures.setup
