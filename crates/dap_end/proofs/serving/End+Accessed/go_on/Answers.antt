use Rattle.std.specs.Result.{result_map_both}
use Rattle.dap_msg.specs.Blocked.{bodies}
use Rattle.nsp_link.specs.declared.link.Got.TheVariants.{AckOnly}
use Rattle.dap_accessed.specs.Served.{ServesItemAt}
use Rattle.dap_end.specs.declared.fault.EndFault.TheVariants as end_fault
use Rattle.dap_end.specs.By.{serves_by}
use Rattle.dap_end.specs.Taking.{serves}
use Rattle.dap_end.specs.Inner.ServingView.{serving_of}
use Rattle.dap_end.proofs.ByTurns.{map_answered, one_link}
use Rattle.dap_end.proofs.serving.End+Accessed.go_on.Goals as goal

pub returns-clause-went : goal.returns-clause-went
returns-clause-went c =
    rw (← c.self.view_is)
    (map_answered (serves_by ServesItemAt c.args.most_waiting) (serves c.args.most_waiting) (one_link c.args.most_waiting) (serving_of c.self.inside.port c.self.inside.role) (serving_of c.go_on.new.port c.go_on.new.server) AckOnly
    (bodies c.args.out.now.items) (bodies c.go_on.new.out.items) (result_map_both (λ done. done) end_fault.Link c.go_on.result) c.go_on.ensures.went)
