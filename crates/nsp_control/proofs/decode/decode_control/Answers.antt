use Rattle.std.proofs.Common.{arith, ap}
use Rattle.std.specs.Result.{result_ok}
use Rattle.nsp_control.proofs.Spelled.{given-spelled}
use Rattle.nsp_control.proofs.Found.{given-found}
use Rattle.nsp_control.proofs.Faults.{given-fault, given-faulty}
use Rattle.nsp_control.proofs.decode.decode_control.Goals as goal

pub returns-clause-only : goal.returns-clause-only
returns-clause-only c = λ p s. given-spelled c.control.result p c.args.bytes.now c.control.ensures s

pub returns-clause-found : goal.returns-clause-found
returns-clause-found c = given-found c.control.result c.args.bytes.now (λ i. omega (arith, c.type_inv.bytes i)) c.control.ensures

pub returns-clause-fault_found : goal.returns-clause-fault_found
returns-clause-fault_found c = λ f h. given-faulty c.control.result f c.args.bytes.now c.control.ensures h

pub returns-clause-fault : goal.returns-clause-fault
returns-clause-fault c = given-fault c.control.result c.args.bytes.now c.control.ensures

pub returns-clause-read : goal.returns-clause-read
returns-clause-read c = ap result_ok c.control.ensures
