use Rattle.std.proofs.Common.{inl}
use Rattle.dap_live.proofs.asking.answer_one.Goals as goal

pub returns-in-Ok : goal.returns-in-Ok
returns-in-Ok c = inl (c.act.new.asking, c.in-Ok.came, c.in-Ok.ensures.ok, c.end_answer.ensures)
