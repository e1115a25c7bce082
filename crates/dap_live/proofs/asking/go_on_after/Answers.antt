use Rattle.std.proofs.Common.{refl, ◌++◌}
use Rattle.dap_msg.specs.Blocked.{bodies}
use Rattle.dap_live.specs.declared.asking.Came.TheVariants.{Told}
use Rattle.dap_live.specs.Each.{told_text}
use Rattle.dap_live.specs.Texts.{done_said}
use Rattle.dap_live.specs.Inner.Saying.{front_text}
use Rattle.dap_live.proofs.ResultLemmas.{err_always}
use Rattle.dap_live.proofs.asking.go_on_after.Goals as goal

pub returns-in_err-push_front-clause-err : goal.returns-in_err-push_front-clause-err
returns-in_err-push_front-clause-err c =
    let gone = c.go_on-gone.result in
    let packets = bodies c.go_on-gone.new.packets.items in
    let now = record c.args.asking.now { end = c.go_on-gone.new.end; reports = c.go_on-gone.new.reports } in
    err_always c.from_residual.result (
      front_text c.args.front ++ (done_said (told_text now) packets gone).0,
      Told (done_said (told_text now) packets gone).1,
      record { gone = gone; packets = packets; went = c.go_on-gone.ensures; rest = refl; says = refl; ended = refl },
    )

pub returns-in_err-push_done-clause-err : goal.returns-in_err-push_done-clause-err
returns-in_err-push_done-clause-err c =
    let gone = c.go_on-gone.result in
    let packets = bodies c.go_on-gone.new.packets.items in
    let now = record c.args.asking.now { end = c.go_on-gone.new.end; reports = c.go_on-gone.new.reports } in
    err_always c.from_residual-in_err-push_done.result (
      front_text c.args.front ++ (done_said (told_text now) packets gone).0,
      Told (done_said (told_text now) packets gone).1,
      record { gone = gone; packets = packets; went = c.go_on-gone.ensures; rest = refl; says = refl; ended = refl },
    )
