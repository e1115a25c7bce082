use Rattle.std.proofs.Common.{refl, subst, sym}
use Rattle.std.specs.Prelude.{Ok}
use Rattle.dap_msg.specs.Blocked.{bodies}
use Rattle.dap_end.specs.Turns.{DidAll, WentOn}
use Rattle.dap_end.specs.Hearing.{hears}
use Rattle.dap_end.specs.By.{end_with}
use Rattle.dap_end.proofs.Turning.{went_by}
use Rattle.dap_end.proofs.asking.End+Accessing.go_on.Goals as goal

pub returns-clause-went : goal.returns-clause-went
returns-clause-went c =
    let end = hears c.args.reports.now.items c.hear_all.new.reports.items in
    let old = c.args.self.now in
    let heard = end_with c.self.inside.port c.self.inside.role in
    let hears = subst (λ v. DidAll end old v (Ok tt)) (sym c.self.view_is) c.in_ok-hear_all.ensures.all in
    subst (WentOn end old _ (bodies c.args.out.now.items) (bodies c.emit_all.new.out.items)) (sym c.ended.ensures)
    (went_by end old heard _ (bodies c.args.out.now.items) (bodies c.emit_all.new.out.items) c.emit_all.result hears refl c.emit_all.ensures.wrote c.emit_all.ensures.all c.emit_all.ensures.err)
