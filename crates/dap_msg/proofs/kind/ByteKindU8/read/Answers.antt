use Rattle.std.proofs.Common.{◌∙◌, arith}
use Rattle.dap_msg.specs.Grammar.{Byte}
use Rattle.dap_msg.proofs.Fields.{field_given, seen_same}
use Rattle.dap_msg.proofs.kind.ByteKindU8.read.Goals as goal

pub returns-clause-exact : goal.returns-clause-exact
returns-clause-exact c = field_given Byte (λ v. v) _ c.read_u8.result (λ i. omega (arith, c.type_inv.bytes i)) (λ other o. c.read_u8.ensures.only other o ∙ seen_same _)
