use Rattle.dap_end.specs.Inner.PortView.{port_view}
use Rattle.dap_end.proofs.Emitting.{wrote_known}
use Rattle.dap_end.proofs.port.Port.write_next.Goals as goal

pub returns-clause-wrote : goal.returns-clause-wrote
returns-clause-wrote c = rw (← c.self.view_is) (wrote_known (port_view c.self.inside) c.write_next.new.self c.write_next.result c.write_next.ensures.segment c.write_next.ensures.carries)
