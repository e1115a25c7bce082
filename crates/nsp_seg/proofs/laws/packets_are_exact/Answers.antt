use Rattle.nsp_seg.proofs.Exactness.{spells-one, spells_or_fault, spells-written, fault-one, spells-apart, spelling-one}
use Rattle.nsp_seg.proofs.laws.packets_are_exact.Goals as goal

pub returns-clause-some : goal.returns-clause-some
returns-clause-some c = spells_or_fault

pub returns-clause-one : goal.returns-clause-one
returns-clause-one c = spells-one

pub returns-clause-one_fault : goal.returns-clause-one_fault
returns-clause-one_fault c = fault-one

pub returns-clause-apart : goal.returns-clause-apart
returns-clause-apart c = spells-apart

pub returns-clause-written : goal.returns-clause-written
returns-clause-written c = spells-written

pub returns-clause-read_back : goal.returns-clause-read_back
returns-clause-read_back c = spelling-one
