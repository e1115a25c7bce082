use Rattle.std.proofs.Common.{arith, ap}
use Rattle.std.specs.Result.{result_ok}
use Rattle.nsp_session.proofs.Spelled.{given-spelled}
use Rattle.nsp_session.proofs.Found.{given-found}
use Rattle.nsp_session.proofs.Faults.{given-fault, given-faulty}
use Rattle.nsp_session.proofs.decode.decode_session.Goals as goal

pub returns-clause-only : goal.returns-clause-only
returns-clause-only c = λ s k. given-spelled c.session.result s c.args.bytes.now c.session.ensures k

pub returns-clause-found : goal.returns-clause-found
returns-clause-found c = given-found c.session.result c.args.bytes.now (λ i. omega (arith, c.type_inv.bytes i)) c.session.ensures

pub returns-clause-fault_found : goal.returns-clause-fault_found
returns-clause-fault_found c = λ f h. given-faulty c.session.result f c.args.bytes.now c.session.ensures h

pub returns-clause-fault : goal.returns-clause-fault
returns-clause-fault c = given-fault c.session.result c.args.bytes.now c.session.ensures

pub returns-clause-read : goal.returns-clause-read
returns-clause-read c = ap result_ok c.session.ensures
