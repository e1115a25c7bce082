use Rattle.std.proofs.Common.{subst, sym}
use Rattle.dap_end.specs.By.{end_with}
use Rattle.dap_end.specs.Ports.{PortValue}
use Rattle.dap_end.specs.Histories.{Still}
use Rattle.dap_end.proofs.Roles.{received}
use Rattle.dap_end.proofs.Taking.{grown}
use Rattle.dap_end.proofs.end.End.receive.Goals as goal

pub returns-clause-still : goal.returns-clause-still
returns-clause-still g c =
    let p = c.self.inside.port in
    let state = c.self.inside.role in
    rw (← c.self.view_is)
    (subst (λ (q : PortValue). Still g.R.Role.fits (end_with p state) (end_with q state)) (sym c.receive.ensures.rest)
    (g.R.Role.still_fits (end_with p state) c.receive.new.self.link (received p.link c.receive.new.self.link c.args.packet.now c.receive.result c.receive.ensures.receives)))

pub invariant_of-self : goal.invariant_of-self
invariant_of-self g c =
    let r = grown _ _ c.args.packet.now c.receive.result c.receive.ensures.receives in
    record {
      port = c.receive.ensures.kept c.self.invariant.port;
      left = subst (λ l. g.R.Role.is_left l c.self.inside.role) (sym r.inbox) (g.R.Role.left_more _ r.more _ c.self.invariant.left);
    }
