use Rattle.std.proofs.Common.{◌+◌}
use Rattle.dap_world.proofs.Stretch.Settles.{ran_both}
use Rattle.dap_events.specs.declared.event.End.TheVariants.{A}
use Rattle.dap_world.proofs.Stretch.Posting.{still_other}
use Rattle.dap_world.proofs.Stretch.SentBoth.{sent_both, settled_b}
use Rattle.dap_world.proofs.world.World.send_both.Goals as goal

pub send_waiting-requires-clause-due : goal.send_waiting-requires-clause-due
send_waiting-requires-clause-due c = (c.requires.a, c.requires.b)

pub send_waiting-requires-2-clause-due : goal.send_waiting-requires-2-clause-due
send_waiting-requires-2-clause-due c = (c.in-Ok.ensures.ok.0.empty, settled_b c.args.self.now c.send_waiting.new.self c.in-Ok.count c.requires.b c.in-Ok.ensures.ok.0)

pub returns-in-Ok-send_waiting-clause-ok : goal.returns-in-Ok-send_waiting-clause-ok
returns-in-Ok-send_waiting-clause-ok c =
    let b = c.in-Ok-send_waiting.ensures.ok in
    (sent_both c.args.self.now c.send_waiting.new.self c.send_waiting-2.new.self c.in-Ok.count c.in-Ok-send_waiting.more c.in-Ok.ensures.ok.0 b.0, b.1)

pub returns-in-Err-clause-err : goal.returns-in-Err-clause-err
returns-in-Err-clause-err c = let err = c.in-Err.ensures.err in (err.0, err.1, λ e. err.2 e.0)

pub returns-in-Err-send_waiting-clause-err : goal.returns-in-Err-send_waiting-clause-err
returns-in-Err-send_waiting-clause-err c =
    let err = c.in-Err-send_waiting.ensures.err in
    let a = c.in-Ok.ensures.ok.0 in (
      err.0,
      (c.in-Ok.count + err.1.0, ran_both c.args.self.now c.send_waiting.new.self c.send_waiting-2.new.self c.in-Ok.count err.1.0 a.ran err.1.1),
      λ e. err.2 (still_other c.args.self.now c.send_waiting.new.self A c.in-Ok.count e.1 a),
    )
