use Rattle.std.proofs.Common.{arith}
use Rattle.dap_msg.specs.Grammar.{Extensible}
use Rattle.dap_msg.proofs.Fields.{field_reader}
use Rattle.dap_msg.proofs.Powers.{power-le}
use Rattle.dap_msg.proofs.kind.ExtensibleKind.read.Goals as goal

pub of-requires : goal.of-requires
of-requires g c = omega (arith, c.in-Ok.ensures.small, power-le c.args.self.0 g.N.Number.most c.requires.1)

pub returns-in-Ok-clause-exact : goal.returns-in-Ok-clause-exact
returns-in-Ok-clause-exact g c = rw c.of.ensures (c.in-Ok.ensures.only _ ((field_reader (Extensible c.args.self.0) _).exact (λ i. omega (arith, c.type_inv.bytes i))))

pub returns-in-Err-clause-exact : goal.returns-in-Err-clause-exact
returns-in-Err-clause-exact g c = c.in-Err.ensures.only _ ((field_reader (Extensible c.args.self.0) _).exact (λ i. omega (arith, c.type_inv.bytes i)))
