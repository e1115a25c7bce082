use Rattle.dap_end.specs.By.{end_with}
use Rattle.std.proofs.Common.{ap}
use Rattle.dap_end.specs.Ports.{PortValue}
use Rattle.dap_end.proofs.turns.take.Goals as goal

pub returns-in-Ok-answer-clause-takes : goal.returns-in-Ok-answer-clause-takes
returns-in-Ok-answer-clause-takes g c =
    (end_with c.receive.new.self c.args.server.now, record { receives = c.in-Ok.ensures.receives; rest = ap (λ (p : PortValue). end_with p c.args.server.now) c.receive.ensures.rest }, c.in-Ok-answer.ensures.answered)

pub returns-in-Err-answer-clause-takes : goal.returns-in-Err-answer-clause-takes
returns-in-Err-answer-clause-takes g c =
    (end_with c.receive.new.self c.args.server.now, record { receives = c.in-Ok.ensures.receives; rest = ap (λ (p : PortValue). end_with p c.args.server.now) c.receive.ensures.rest }, c.in-Err-answer.ensures.answered)
