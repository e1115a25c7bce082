use Rattle.std.proofs.Common.{arith}
use Rattle.nsp_seg.proofs.Spelled.{given-spelled}
use Rattle.nsp_seg.proofs.Faults.{given-fault}
use Rattle.nsp_seg.proofs.Found.{given-found}
use Rattle.nsp_seg.proofs.Faulty.{given-faulty}
use Rattle.nsp_seg.proofs.decode.decode_value.Goals as goal

pub returns-clause-only : goal.returns-clause-only
returns-clause-only c = λ p s. given-spelled c.packet.result p c.args.bytes.now c.packet.ensures s

pub returns-clause-found : goal.returns-clause-found
returns-clause-found c = given-found c.packet.result c.args.bytes.now (λ i. omega (arith, c.type_inv.bytes i)) c.packet.ensures

pub returns-clause-fault_found : goal.returns-clause-fault_found
returns-clause-fault_found c = λ f h. given-faulty c.packet.result f c.args.bytes.now (λ i. omega (arith, c.type_inv.bytes i)) c.packet.ensures h

pub returns-clause-fault : goal.returns-clause-fault
returns-clause-fault c = given-fault c.packet.result c.args.bytes.now (λ i. omega (arith, c.type_inv.bytes i)) c.packet.ensures
