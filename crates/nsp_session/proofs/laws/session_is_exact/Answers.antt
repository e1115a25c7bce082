use Rattle.std.proofs.Common.{ap, refl}
use Rattle.std.specs.Result.{result_ok}
use Rattle.nsp_session.proofs.Spelled.{given-spelled, spells-one, spells-written, spelling-one}
use Rattle.nsp_session.proofs.Found.{given-found, some_found}
use Rattle.nsp_session.specs.Reading.{read_session}
use Rattle.nsp_session.proofs.Faults.{spells_or_fault, fault-one, spells-apart}
use Rattle.nsp_session.proofs.laws.session_is_exact.Goals as goal

pub returns-clause-some : goal.returns-clause-some
returns-clause-some c = spells_or_fault

pub returns-clause-one : goal.returns-clause-one
returns-clause-one c = spells-one

pub returns-clause-one_fault : goal.returns-clause-one_fault
returns-clause-one_fault c = fault-one

pub returns-clause-apart : goal.returns-clause-apart
returns-clause-apart c = spells-apart

pub returns-clause-written : goal.returns-clause-written
returns-clause-written c = spells-written

pub returns-clause-read_back : goal.returns-clause-read_back
returns-clause-read_back c = spelling-one

pub returns-clause-is_read : goal.returns-clause-is_read
returns-clause-is_read c = λ s bytes k. ap result_ok (given-spelled (read_session bytes) s bytes refl k)

pub returns-clause-read : goal.returns-clause-read
returns-clause-read c = λ bytes fits. some_found (read_session bytes) bytes (given-found (read_session bytes) bytes fits refl)
