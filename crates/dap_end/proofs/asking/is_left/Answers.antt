use Rattle.std.proofs.Common.{arith}
use Rattle.dap_end.proofs.asking.is_left.Goals as goal

pub returns-clause-bytes : goal.returns-clause-bytes
returns-clause-bytes c = λ i. omega (arith, c.type_inv.message i)
