use Rattle.std.proofs.Common.{refl, subst, sym}
use Rattle.std.specs.Prelude.{Ok}
use Rattle.dap_msg.specs.Blocked.{bodies}
use Rattle.dap_end.specs.Turns.{WritesReplies, DidAll}
use Rattle.dap_end.specs.Hearing.{hears}
use Rattle.dap_end.specs.By.{end_with}
use Rattle.dap_end.proofs.Turning.{answered_by}
use Rattle.dap_end.proofs.asking.End+Accessing.answer.Goals as goal

pub returns-clause-writes : goal.returns-clause-writes
returns-clause-writes c =
    let end = hears c.args.reports.now.items c.hear_all.new.reports.items in
    let old = c.args.self.now in
    let heard = end_with c.self.inside.port c.self.inside.role in
    let hears = subst (λ v. DidAll end old v (Ok tt)) (sym c.self.view_is) c.in_ok-hear_all.ensures.all in
    subst (WritesReplies end old _ c.args.got (bodies c.args.out.now.items) (bodies c.answer.new.out.items)) (sym c.ended.ensures)
    (answered_by end old heard _ c.args.got (bodies c.args.out.now.items) (bodies c.answer.new.out.items) c.answer.result hears refl c.answer.ensures.ok c.answer.ensures.err)
