use Rattle.std.proofs.Common.{sym, ◌∙◌}
use Rattle.dap_end.proofs.Determined.{may_or_not, refused_one}
use Rattle.dap_end.proofs.laws.posting_is_determined.Goals as goal

pub returns-clause-one : goal.returns-clause-one
returns-clause-one c = λ old one two n m a b. (a.1 ∙ sym b.1, a.2 ∙ sym b.2)

pub returns-clause-apart : goal.returns-clause-apart
returns-clause-apart c = λ old new n f want a h. may_or_not old.port.link old.port.outbox f want a.0 h

pub returns-clause-asking : goal.returns-clause-asking
returns-clause-asking c = λ old new n f want a h. may_or_not old.port.link old.port.outbox f want a.0 h

pub returns-clause-why : goal.returns-clause-why
returns-clause-why c = λ old f g nf ng a b. refused_one old.link old.outbox f g nf ng a b
