use Rattle.std.proofs.Common.{arith}
use Rattle.dap_msg.specs.Grammar.{Image}
use Rattle.dap_msg.proofs.Fields.{field_reader}
use Rattle.dap_msg.proofs.kind.ImageKindBytes.read.Goals as goal

pub returns-in-Ok-clause-exact : goal.returns-in-Ok-clause-exact
returns-in-Ok-clause-exact c = c.in-Ok.ensures.only _ ((field_reader (Image c.args.self.0) _).exact (λ i. omega (arith, c.type_inv.bytes i)))

pub returns-in-Err-clause-exact : goal.returns-in-Err-clause-exact
returns-in-Err-clause-exact c = c.in-Err.ensures.only _ ((field_reader (Image c.args.self.0) _).exact (λ i. omega (arith, c.type_inv.bytes i)))
