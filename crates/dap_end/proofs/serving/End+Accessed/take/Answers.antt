use Rattle.dap_msg.specs.Blocked.{bodies}
use Rattle.dap_accessed.specs.Served.{ServesItemAt}
use Rattle.dap_end.specs.By.{serves_by}
use Rattle.dap_end.specs.Taking.{serves}
use Rattle.dap_end.specs.Inner.ServingView.{serving_of}
use Rattle.dap_end.proofs.ByTurns.{map_takes, one_link}
use Rattle.dap_end.proofs.serving.End+Accessed.take.Goals as goal

pub returns : goal.returns
returns c =
    rw (← c.self.view_is)
    (map_takes (serves_by ServesItemAt c.args.most_waiting) (serves c.args.most_waiting) (one_link c.args.most_waiting) (serving_of c.self.inside.port c.self.inside.role) (serving_of c.take.new.port c.take.new.server) c.args.packet.now
    (bodies c.args.out.now.items) (bodies c.take.new.out.items) c.take.result c.take.ensures.takes)
