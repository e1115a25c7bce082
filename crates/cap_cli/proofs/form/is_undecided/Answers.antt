use Rattle.cap_cli.proofs.FormLemmas.{form_same}
use Rattle.cap_cli.proofs.form.is_undecided.Goals as goal

pub returns-else-may_become_file-clause-closed : goal.returns-else-may_become_file-clause-closed
returns-else-may_become_file-clause-closed c = λ _. form_same c.args.front.now (c.may_become_file.ensures.closed c.if-may_become_file.false)
