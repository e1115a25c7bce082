use Rattle.std.proofs.Common.{refl}
use Rattle.dap_msg.specs.Blocked.{bodies}
use Rattle.dap_end.specs.By.{end_with, serves_by}
use Rattle.dap_end.proofs.Turning.{answered_by}
use Rattle.dap_end.proofs.turns.answer.Goals as goal

pub returns-clause-answered : goal.returns-clause-answered
returns-clause-answered g c =
    answered_by (serves_by (g.S.Serving.serves c.args.link) c.args.most_waiting) (end_with c.args.port.now c.args.server.now) (end_with c.serve_all.new.port c.serve_all.new.server) (end_with c.answer.new.self c.serve_all.new.server) c.args.got
    (bodies c.args.out.now.items) (bodies c.answer.new.out.items) c.answer.result c.in_ok-serve_all.ensures.did refl c.answer.ensures.ok c.answer.ensures.err
