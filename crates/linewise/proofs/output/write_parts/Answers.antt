use Rattle.linewise.proofs.OutputLemmas.{front_of_first, front_behind}
use Rattle.linewise.proofs.output.write_parts.Goals as goal

pub returns-clause-front : goal.returns-clause-front
returns-clause-front g c = front_behind _ _ _ _ _ c.in_ok-write_part.ensures.whole c.write_ending.ensures.front

pub returns-in_err-write_part-clause-front : goal.returns-in_err-write_part-clause-front
returns-in_err-write_part-clause-front g c = front_of_first _ _ _ _ c.in_err-write_part.ensures.front
