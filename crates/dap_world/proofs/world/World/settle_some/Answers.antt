use Rattle.std.proofs.Common.{◌≡◌, ◌+◌, ◌-◌, ◌∙◌, ℕ, arith, subst, length, refl}
use Rattle.dap_world.specs.Settling.{RanBy}
use Rattle.dap_world.proofs.Stretch.Settles.{there_again, wire_grew, came_unacked, same_unacked, all_taken, wire_length, ran_both}
use Rattle.dap_world.proofs.Stretch.Resting.{rest_both}
use Rattle.dap_world.proofs.world.World.settle_some.Goals as goal

pub deliver_all-requires-clause-order : goal.deliver_all-requires-clause-order
deliver_all-requires-clause-order c =
    let before = wire_length c.args.self.now c.args.end c.wire-first.result.now c.wire-first.ensures.sendings in
    let after = wire_length c.resend_all.new.self c.args.end c.wire-last.result.now c.wire-last.ensures.sendings in
    let grew = wire_grew c.args.self.now c.resend_all.new.self c.args.end c.args.count c.in-Ok.ensures.ok.0 in
    omega (arith, before, after, grew)

pub deliver_all-requires-clause-few : goal.deliver_all-requires-clause-few
deliver_all-requires-clause-few c =
    let before = wire_length c.args.self.now c.args.end c.wire-first.result.now c.wire-first.ensures.sendings in
    let after = wire_length c.resend_all.new.self c.args.end c.wire-last.result.now c.wire-last.ensures.sendings in
    let grew = wire_grew c.args.self.now c.resend_all.new.self c.args.end c.args.count c.in-Ok.ensures.ok.0 in
    let same = same_unacked c.args.self.now c.resend_all.new.self c.args.end c.args.count c.in-Ok.ensures.ok.0 in
    omega (arith, before, after, grew, same, c.requires.all)

pub deliver_all-requires-clause-there : goal.deliver_all-requires-clause-there
deliver_all-requires-clause-there c =
    let before = wire_length c.args.self.now c.args.end c.wire-first.result.now c.wire-first.ensures.sendings in
    let after = wire_length c.resend_all.new.self c.args.end c.wire-last.result.now c.wire-last.ensures.sendings in
    let grew = wire_grew c.args.self.now c.resend_all.new.self c.args.end c.args.count c.in-Ok.ensures.ok.0 in
    there_again c.args.self.now c.resend_all.new.self c.args.end (length c.wire-first.result.now) (length c.wire-last.result.now) c.args.count c.in-Ok.ensures.ok.0 before (omega (arith, before, after, grew))

pub acknowledge-requires-clause-taken : goal.acknowledge-requires-clause-taken
acknowledge-requires-clause-taken c =
    let before = wire_length c.args.self.now c.args.end c.wire-first.result.now c.wire-first.ensures.sendings in
    let after = wire_length c.resend_all.new.self c.args.end c.wire-last.result.now c.wire-last.ensures.sendings in
    let grew = wire_grew c.args.self.now c.resend_all.new.self c.args.end c.args.count c.in-Ok.ensures.ok.0 in
    let same = same_unacked c.args.self.now c.resend_all.new.self c.args.end c.args.count c.in-Ok.ensures.ok.0 in
    all_taken c.resend_all.new.self c.deliver_all.new.self c.args.end (length c.wire-last.result.now - length c.wire-first.result.now) c.in-Ok.ensures.ok.1 c.in-Ok-deliver_all.ensures.ok.0
    (omega (arith, before, after, grew, same, c.requires.all))

pub returns-in-Err-deliver_all-clause-err : goal.returns-in-Err-deliver_all-clause-err
returns-in-Err-deliver_all-clause-err c =
    let err = c.in-Err-deliver_all.ensures.err in
    (err.0, (c.args.count + err.1.0, ran_both c.args.self.now c.resend_all.new.self c.deliver_all.new.self c.args.count err.1.0 c.in-Ok.ensures.ok.0.ran err.1.1))

pub returns-in-Ok-acknowledge-clause-ok : goal.returns-in-Ok-acknowledge-clause-ok
returns-in-Ok-acknowledge-clause-ok c =
    let before = wire_length c.args.self.now c.args.end c.wire-first.result.now c.wire-first.ensures.sendings in
    let after = wire_length c.resend_all.new.self c.args.end c.wire-last.result.now c.wire-last.ensures.sendings in
    let grew = wire_grew c.args.self.now c.resend_all.new.self c.args.end c.args.count c.in-Ok.ensures.ok.0 in
    let many : length c.wire-last.result.now - length c.wire-first.result.now ≡ c.args.count = omega (arith, before, after, grew) in
    let came = subst (λ (n : ℕ). RanBy c.resend_all.new.self c.deliver_all.new.self n) many c.in-Ok-deliver_all.ensures.ok.0.ran in
    let done = c.in-Ok-acknowledge.ensures.ok in (
      ran_both c.args.self.now c.deliver_all.new.self c.acknowledge.new.self (c.args.count + c.args.count) 2
          (ran_both c.args.self.now c.resend_all.new.self c.deliver_all.new.self c.args.count c.args.count c.in-Ok.ensures.ok.0.ran came) done.0,
      done.1,
      refl,
    )

pub returns-in-Err-acknowledge-clause-err : goal.returns-in-Err-acknowledge-clause-err
returns-in-Err-acknowledge-clause-err c =
    let err = c.in-Err-acknowledge.ensures.err in
    let came = c.in-Ok-deliver_all.ensures.ok.0.ran in
    let n = length c.wire-last.result.now - length c.wire-first.result.now in (
      err.0,
      (
        (c.args.count + n) + err.1.0,
        ran_both c.args.self.now c.deliver_all.new.self c.acknowledge.new.self (c.args.count + n) err.1.0
            (ran_both c.args.self.now c.resend_all.new.self c.deliver_all.new.self c.args.count n c.in-Ok.ensures.ok.0.ran came) err.1.1,
      ),
    )

pub returns-in-Err-deliver_all-clause-rest : goal.returns-in-Err-deliver_all-clause-rest
returns-in-Err-deliver_all-clause-rest c = rest_both c.args.self.now c.resend_all.new.self c.deliver_all.new.self c.resend_all.ensures.rest c.deliver_all.ensures.rest

pub returns-in-Ok-acknowledge-clause-rest : goal.returns-in-Ok-acknowledge-clause-rest
returns-in-Ok-acknowledge-clause-rest c =
    rest_both c.args.self.now c.deliver_all.new.self c.acknowledge.new.self
    (rest_both c.args.self.now c.resend_all.new.self c.deliver_all.new.self c.resend_all.ensures.rest c.deliver_all.ensures.rest) c.acknowledge.ensures.rest

pub returns-in-Err-acknowledge-clause-rest : goal.returns-in-Err-acknowledge-clause-rest
returns-in-Err-acknowledge-clause-rest c =
    rest_both c.args.self.now c.deliver_all.new.self c.acknowledge.new.self
    (rest_both c.args.self.now c.resend_all.new.self c.deliver_all.new.self c.resend_all.ensures.rest c.deliver_all.ensures.rest) c.acknowledge.ensures.rest

pub returns-in-Err-deliver_all-clause-left : goal.returns-in-Err-deliver_all-clause-left
returns-in-Err-deliver_all-clause-left c =
    c.in-Err-deliver_all.ensures.left ∙ same_unacked c.args.self.now c.resend_all.new.self c.args.end c.args.count c.in-Ok.ensures.ok.0

pub returns-in-Err-acknowledge-clause-left : goal.returns-in-Err-acknowledge-clause-left
returns-in-Err-acknowledge-clause-left c =
    c.in-Err-acknowledge.ensures.left ∙ came_unacked c.resend_all.new.self c.deliver_all.new.self c.args.end (length c.wire-last.result.now - length c.wire-first.result.now) c.in-Ok-deliver_all.ensures.ok.0
    ∙ same_unacked c.args.self.now c.resend_all.new.self c.args.end c.args.count c.in-Ok.ensures.ok.0
