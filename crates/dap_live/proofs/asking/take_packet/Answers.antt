use Rattle.std.proofs.Common.{refl, inr}
use Rattle.dap_msg.specs.Blocked.{bodies}
use Rattle.dap_live.specs.Each.{told_text}
use Rattle.dap_live.specs.Texts.{taken_said}
use Rattle.dap_live.specs.Asking.{came_by}
use Rattle.dap_live.proofs.ResultLemmas.{err_always}
use Rattle.dap_live.proofs.asking.take_packet.Goals as goal

-- what was done is done, also where it isn't told
pub returns-in_err-became-clause-err : goal.returns-in_err-became-clause-err
returns-in_err-became-clause-err c =
    let taken = c.take-taken.result in
    let packets = bodies c.take-taken.new.packets.items in
    let now = record c.args.asking.now { end = c.take-taken.new.end; reports = c.take-taken.new.reports } in
    err_always c.from_residual-in_err-became.result (inr (
      (taken_said taken (told_text now) packets).0,
      came_by taken (taken_said taken (told_text now) packets).1,
      record {
        taken = taken;
        packets = packets;
        took = rw (c.deref.ensures.value, c.in_ok-bytes.ensures) at c.take-taken.ensures;
        rest = refl;
        says = refl;
        ended = refl;
      },
    ))
