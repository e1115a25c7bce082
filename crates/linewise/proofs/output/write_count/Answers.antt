use Rattle.linewise.proofs.OutputLemmas.{front_of_first, front_behind}
use Rattle.linewise.specs.Inner.Endings.{waits_text}
use Rattle.linewise.proofs.output.write_count.Goals as goal

pub returns-clause-front : goal.returns-clause-front
returns-clause-front g c = rw c.refusal_line.ensures at (front_behind _ _ _ _ (waits_text c.args.waits) c.in_ok-write_part.ensures.whole c.write_waits.ensures.front)

pub returns-in_err-write_part-clause-front : goal.returns-in_err-write_part-clause-front
returns-in_err-write_part-clause-front g c = rw c.refusal_line.ensures at (front_of_first _ _ _ (waits_text c.args.waits) c.in_err-write_part.ensures.front)
