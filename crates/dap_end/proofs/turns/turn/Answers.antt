use Rattle.std.proofs.Common.{arith}
use Rattle.dap_end.proofs.ByTurns.{hands}
use Rattle.dap_end.proofs.Did.{by_item, by_limit, by_want}
use Rattle.dap_end.proofs.turns.turn.Goals as goal

pub returns-then-waiting_bytes-most_waiting-clause-turned : goal.returns-then-waiting_bytes-most_waiting-clause-turned
returns-then-waiting_bytes-most_waiting-clause-turned g c =
    let given = hands c.args.port.now c.post.new.self c.args.server.now c.in_ok-post.field-0 c.in_ok-post.ensures.may c.in_ok-post.ensures.ok in
    by_limit (g.S.Serving.serves c.args.link) c.args.most_waiting c.waiting_bytes.result c.args.port.now c.post.new.self c.args.server.now c.in_ok-post.field-0 given c.waiting_bytes.ensures.value c.waiting_bytes.ensures.valid
    (omega (arith, c.if-waiting_bytes-most_waiting.true))

pub returns-in-Ok-clause-turned : goal.returns-in-Ok-clause-turned
returns-in-Ok-clause-turned g c =
    let given = hands c.args.port.now c.post.new.self c.args.server.now c.in_ok-post.field-0 c.in_ok-post.ensures.may c.in_ok-post.ensures.ok in
    by_item (g.S.Serving.serves c.args.link) c.args.most_waiting c.waiting_bytes.result c.args.port.now c.post.new.self c.args.server.now c.in_ok-post.field-0 given c.waiting_bytes.ensures.value c.waiting_bytes.ensures.valid
    c.serve_next.new.port c.serve_next.new.server c.in-Ok.served c.is_some.result (omega (arith, c.if-waiting_bytes-most_waiting.false)) c.in-Ok.ensures.ok c.is_some.ensures

pub returns-in-Err-clause-turned : goal.returns-in-Err-clause-turned
returns-in-Err-clause-turned g c =
    let given = hands c.args.port.now c.post.new.self c.args.server.now c.in_ok-post.field-0 c.in_ok-post.ensures.may c.in_ok-post.ensures.ok in
    by_want (g.S.Serving.serves c.args.link) c.args.most_waiting c.waiting_bytes.result c.args.port.now c.post.new.self c.args.server.now c.in_ok-post.field-0 given c.waiting_bytes.ensures.value c.waiting_bytes.ensures.valid
    c.serve_next.new.port c.serve_next.new.server (omega (arith, c.if-waiting_bytes-most_waiting.false)) c.in-Err.ensures.err
