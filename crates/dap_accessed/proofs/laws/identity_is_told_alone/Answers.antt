use Rattle.dap_accessed.proofs.Twins.{same-files, same-limit, same-answers, same-added}
use Rattle.dap_accessed.proofs.laws.identity_is_told_alone.Goals as goal

pub returns-clause-files : goal.returns-clause-files
returns-clause-files c = λ one other first items twins. same-files one other twins first items

pub returns-clause-limit : goal.returns-clause-limit
returns-clause-limit c = λ one other first items twins. same-limit one other twins first items

pub returns-clause-answers : goal.returns-clause-answers
returns-clause-answers c = λ one other first items twins. same-answers one other twins first items

pub returns-clause-added : goal.returns-clause-added
returns-clause-added c = λ one other first items item twins. same-added one other twins first items item
