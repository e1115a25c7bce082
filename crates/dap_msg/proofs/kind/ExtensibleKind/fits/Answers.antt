use Rattle.std.proofs.Common.{◌<◌, subst}
use Rattle.std.specs.Prelude.{IsTrue, ◌↔◌}
use Rattle.dap_msg.proofs.Powers.{power_of_groups}
use Rattle.dap_msg.proofs.kind.ExtensibleKind.fits.Goals as goal

pub returns : goal.returns
returns g c = rw c.wide.ensures at (subst (λ n. IsTrue c.ex_fits.result ↔ c.wide.result < n) (power_of_groups c.args.self.0) c.ex_fits.ensures)
