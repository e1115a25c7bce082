use Rattle.dap_msg.specs.Blocked.{bodies}
use Rattle.dap_end.specs.By.{end_with, serves_by}
use Rattle.dap_end.proofs.ByTurns.{gone_by}
use Rattle.dap_end.proofs.turns.go_on.Goals as goal

pub returns-clause-went : goal.returns-clause-went
returns-clause-went g c =
    gone_by (serves_by (g.S.Serving.serves c.args.link) c.args.most_waiting) (end_with c.args.port.now c.args.server.now) (end_with c.serve_all.new.port c.serve_all.new.server) c.emit_all.new.self
    (bodies c.args.out.now.items) (bodies c.emit_all.new.out.items) c.emit_all.result c.in_ok-serve_all.ensures.did c.emit_all.ensures.wrote c.emit_all.ensures.all c.emit_all.ensures.err
