use Rattle.std.proofs.Common.{◌∙◌, arith}
use Rattle.dap_msg.specs.Grammar.{Word}
use Rattle.dap_msg.proofs.Fields.{field_given, seen_same}
use Rattle.dap_msg.proofs.kind.WordKindU16.read.Goals as goal

pub returns-clause-exact : goal.returns-clause-exact
returns-clause-exact c = field_given Word (λ v. v) _ c.read_u16.result (λ i. omega (arith, c.type_inv.bytes i)) (λ other o. c.read_u16.ensures.only other o ∙ seen_same _)
