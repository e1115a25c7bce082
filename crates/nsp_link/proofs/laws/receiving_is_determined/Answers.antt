use Rattle.nsp_link.proofs.Refusing.{bytes_same, receives_same}
use Rattle.nsp_link.proofs.laws.receiving_is_determined.Goals as goal

pub returns-clause-any : goal.returns-clause-any
returns-clause-any c = bytes_same

pub returns-clause-bounded : goal.returns-clause-bounded
returns-clause-bounded c = λ old one two bytes r s fits nr ns a b. receives_same old one two bytes r s fits nr ns a b
