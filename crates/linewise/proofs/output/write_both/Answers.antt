use Rattle.linewise.proofs.OutputLemmas.{both, front_of_first, front_behind}
use Rattle.std.proofs.lemmas.Result.{on_ok_weaker}
use Rattle.linewise.proofs.output.write_both.Goals as goal

pub returns-clause-whole : goal.returns-clause-whole
returns-clause-whole g c = on_ok_weaker c.write_part-2.result (both _ _ _ _ _ c.in_ok-write_part.ensures.whole) c.write_part-2.ensures.whole

pub returns-clause-front : goal.returns-clause-front
returns-clause-front g c = front_behind _ _ _ _ _ c.in_ok-write_part.ensures.whole c.write_part-2.ensures.front

pub returns-in_err-write_part-clause-front : goal.returns-in_err-write_part-clause-front
returns-in_err-write_part-clause-front g c = front_of_first _ _ _ _ c.in_err-write_part.ensures.front
