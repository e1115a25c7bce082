use Rattle.dap_end.specs.By.{end_with}
use Rattle.dap_end.proofs.Afterwards.{hands_over}
use Rattle.dap_end.proofs.end.End.post.Goals as goal

pub returns-clause-ok : goal.returns-clause-ok
returns-clause-ok g c =
    rw (← c.self.view_is) (hands_over (end_with c.self.inside.port c.self.inside.role) c.post.new.self c.post.result c.post.ensures.may c.post.ensures.ok)
