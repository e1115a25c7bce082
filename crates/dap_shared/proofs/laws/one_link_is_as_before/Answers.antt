use Rattle.std.proofs.Common.{ap}
use Rattle.dap_accessed.specs.Groups.{answers_in}
use Rattle.dap_shared.specs.Nodes.{Node, end_at, exchange_at}
use Rattle.dap_shared.proofs.OneLink.{one-begun, one-link}
use Rattle.dap_shared.proofs.laws.one_link_is_as_before.Goals as goal

pub returns-clause-stands : goal.returns-clause-stands
returns-clause-stands c = λ own first items. ap (end_at 0) (one-link own first items)

pub returns-clause-files : goal.returns-clause-files
returns-clause-files c = λ own first items. ap (λ (n : Node). n.files) (one-link own first items)

pub returns-clause-answers : goal.returns-clause-answers
returns-clause-answers c = λ own first items. ap (λ (n : Node). answers_in (exchange_at 0 n).past) (one-link own first items)

pub returns-clause-rights : goal.returns-clause-rights
returns-clause-rights c = λ own most first items. ap (end_at 0) (one-begun own most first items)
