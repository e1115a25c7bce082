use Rattle.dap_end.proofs.asking.End+Accessing.take.Goals as goal

pub returns-in-Ok-answer-clause-takes : goal.returns-in-Ok-answer-clause-takes
returns-in-Ok-answer-clause-takes c =
    (c.receive.new.self, record { receives = c.in-Ok.ensures.receives; rest = c.receive.ensures.rest }, c.in-Ok-answer.ensures.writes)

pub returns-in-Err-answer-clause-takes : goal.returns-in-Err-answer-clause-takes
returns-in-Err-answer-clause-takes c =
    (c.receive.new.self, record { receives = c.in-Ok.ensures.receives; rest = c.receive.ensures.rest }, c.in-Err-answer.ensures.writes)
