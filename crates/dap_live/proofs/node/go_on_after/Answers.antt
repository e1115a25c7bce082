use Rattle.std.proofs.Common.{refl, ◌++◌}
use Rattle.dap_msg.specs.Blocked.{bodies}
use Rattle.dap_live.specs.Texts.{done_said, locked_text}
use Rattle.dap_live.proofs.ResultLemmas.{err_always}
use Rattle.dap_live.proofs.node.go_on_after.Goals as goal

-- what was done is done, also where it isn't told
pub returns-clause-err : goal.returns-clause-err
returns-clause-err c =
    let gone = c.go_on-gone.result in
    let packets = bodies c.go_on-gone.new.packets.items in
    let locked = locked_text c.go_on-gone.new.node.noted.locked in
    err_always c.push_served.result (
      c.args.text.now.items ++ (done_said locked packets gone).0,
      (done_said locked packets gone).1,
      record { gone = gone; packets = packets; went = c.go_on-gone.ensures; rest = refl; says = refl; ended = refl },
    )
