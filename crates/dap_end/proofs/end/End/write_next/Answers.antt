use Rattle.std.proofs.Common.{subst, sym}
use Rattle.dap_end.specs.By.{end_with}
use Rattle.dap_end.specs.Ports.{PortValue}
use Rattle.dap_end.specs.Moved.{sent_more}
use Rattle.dap_end.specs.Histories.{Still}
use Rattle.dap_end.proofs.Roles.{sent}
use Rattle.dap_end.proofs.end.End.write_next.Goals as goal

pub returns-clause-still : goal.returns-clause-still
returns-clause-still g c =
    let p = c.self.inside.port in
    let state = c.self.inside.role in
    let n = c.write_next.ensures.sent.0 in
    rw (← c.self.view_is)
    (subst (λ (q : PortValue). Still g.R.Role.fits (end_with p state) (end_with q state)) (sym c.write_next.ensures.sent.1)
    (g.R.Role.still_fits (end_with p state) (sent_more p n).link (sent p n)))
