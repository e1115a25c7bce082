use Rattle.std.proofs.Common.{arith}
use Rattle.dap_msg.proofs.Powers.{power-le}
use Rattle.dap_msg.proofs.kind.ExtensibleKind.field.Goals as goal

pub returns-clause-can : goal.returns-clause-can
returns-clause-can g c =
    omega (arith, c.requires.fits, c.wide.ensures, power-le c.args.self.0 12 (omega (arith, c.requires.known.1, g.met.N.Number.few)))
