use Rattle.std.proofs.Common.{◌∙◌, sym}
use Rattle.capture_file.proofs.KindLemmas.{can_become, kind_same}
use Rattle.capture_file.proofs.kinds.may_become_file.Goals as goal

pub returns-clause-closed : goal.returns-clause-closed
returns-clause-closed c = λ closed more. kind_same c.args.front.now more (sym c.may_begin_any.ensures.value ∙ closed)

pub returns-clause-open : goal.returns-clause-open
returns-clause-open c = λ begins. can_become c.args.front.now (sym c.may_begin_any.ensures.value ∙ begins)
