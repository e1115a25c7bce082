use Rattle.std.proofs.Common.{refl}
use Rattle.dap_msg.specs.Blocked.{bodies}
use Rattle.dap_live.specs.Texts.{locked_text, taken_said}
use Rattle.dap_live.proofs.ResultLemmas.{err_always}
use Rattle.dap_live.proofs.node.take_on.Goals as goal

-- what was done is done, also where it isn't told
pub returns-clause-err : goal.returns-clause-err
returns-clause-err c =
    let taken = c.take-taken.result in
    let packets = bodies c.take-taken.new.packets.items in
    let locked = locked_text c.take-taken.new.node.noted.locked in
    err_always c.push_node_taken.result (
      (taken_said taken locked packets).0,
      (taken_said taken locked packets).1,
      record { taken = taken; packets = packets; took = c.take-taken.ensures; rest = refl; used = c.use_link.ensures; says = refl; ended = refl },
    )
