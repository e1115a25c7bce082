use Rattle.dap_end.specs.Inner.ServingView.{serving_of}
use Rattle.dap_end.proofs.ByTurns.{did_err, did_ok}
use Rattle.dap_end.proofs.serving.End+Accessed.serve_all.Goals as goal

pub returns-clause-ok : goal.returns-clause-ok
returns-clause-ok c =
    rw (← c.self.view_is)
    (did_ok c.args.most_waiting (serving_of c.self.inside.port c.self.inside.role) (serving_of c.serve_all.new.port c.serve_all.new.server) c.serve_all.result c.serve_all.ensures.did)

pub returns-clause-err : goal.returns-clause-err
returns-clause-err c =
    rw (← c.self.view_is)
    (did_err c.args.most_waiting (serving_of c.self.inside.port c.self.inside.role) (serving_of c.serve_all.new.port c.serve_all.new.server) c.serve_all.result c.serve_all.ensures.did)
