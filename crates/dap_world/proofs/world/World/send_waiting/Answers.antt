use Rattle.std.proofs.Common.{◌+◌, ◌∙◌}
use Rattle.dap_world.proofs.Stretch.Settles.{ran_both}
use Rattle.dap_world.proofs.Stretch.Exhausting.{due_settled, memory}
use Rattle.dap_world.proofs.Stretch.Posting.{emptied, posted_read, posted_settled, sent_left, not_empty, waits_then}
use Rattle.dap_world.proofs.Stretch.Onward.{ran_none_is}
use Rattle.dap_world.proofs.world.World.send_waiting.Goals as goal

pub send_every-requires-clause-settled : goal.send_every-requires-clause-settled
send_every-requires-clause-settled c = posted_settled c.args.self.now c.post_waiting.new.self c.args.end c.in-Ok.posted c.in-Ok.ensures.ok.0 (due_settled c.args.self.now c.args.end c.requires.due)

pub returns-in-Err-clause-err : goal.returns-in-Err-clause-err
returns-in-Err-clause-err c =
    let err = c.in-Err.ensures.err in
    (err.0, ran_none_is c.args.self.now c.post_waiting.new.self err.1, waits_then c.args.self.now c.args.end c.in-Err.ensures.waits)

pub returns-in-Ok-send_every-clause-ok : goal.returns-in-Ok-send_every-clause-ok
returns-in-Ok-send_every-clause-ok c =
    let done = c.in-Ok-send_every.ensures.ok in
    (emptied c.args.self.now c.post_waiting.new.self c.send_every.new.self c.args.end c.in-Ok.posted c.in-Ok-send_every.count done.1 c.in-Ok.ensures.ok.0 done.0, done.1)

pub returns-in-Ok-send_every-clause-read : goal.returns-in-Ok-send_every-clause-read
returns-in-Ok-send_every-clause-read c = c.send_every.ensures.same.read ∙ posted_read c.args.self.now c.post_waiting.new.self c.args.end c.in-Ok.posted c.in-Ok.ensures.ok.0

pub returns-in-Err-send_every-clause-read : goal.returns-in-Err-send_every-clause-read
returns-in-Err-send_every-clause-read c = c.send_every.ensures.same.read ∙ posted_read c.args.self.now c.post_waiting.new.self c.args.end c.in-Ok.posted c.in-Ok.ensures.ok.0

pub returns-in-Err-send_every-clause-err : goal.returns-in-Err-send_every-clause-err
returns-in-Err-send_every-clause-err c =
    let err = c.in-Err-send_every.ensures.err in
    let posted = c.in-Ok.ensures.ok.0 in (
      memory c.send_every.new.self c.in-Err-send_every.fault err.0
          (sent_left c.args.self.now c.post_waiting.new.self c.send_every.new.self c.args.end c.in-Ok.posted c.requires.due posted c.send_every.ensures.same c.in-Err-send_every.ensures.left),
      (c.in-Ok.posted + err.1.0, ran_both c.args.self.now c.post_waiting.new.self c.send_every.new.self c.in-Ok.posted err.1.0 posted.ran err.1.1),
      not_empty c.args.self.now c.post_waiting.new.self c.args.end c.in-Ok.posted posted c.in-Err-send_every.ensures.more,
    )
