use Rattle.linewise.proofs.OutputLemmas.{front_of_first, front_behind}
use Rattle.std.specs.Prelude.{codes, ◌++◌}
use Rattle.std.specs.Fmt.{decimal}
use Rattle.linewise.proofs.output.write_waits.Goals as goal

pub returns-clause-front : goal.returns-clause-front
returns-clause-front g c = rw (c.as_bytes.ensures.value, c.format.ensures.text) at (front_behind _ _ _ (codes "waits ") _ c.in_ok-write_part.ensures.whole c.write_both.ensures.front)

pub returns-in_err-write_part-clause-front : goal.returns-in_err-write_part-clause-front
returns-in_err-write_part-clause-front g c = front_of_first _ _ (codes "waits ") (decimal c.args.waits ++ codes "\n") c.in_err-write_part.ensures.front
