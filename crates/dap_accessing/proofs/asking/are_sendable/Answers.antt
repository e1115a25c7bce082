use Rattle.std.proofs.Common.{rules, IsTrue, false, length, ap, arith}
use Rattle.dap_accessing.proofs.Sending.{none_short, record_sendable, record_short, sendable_at, sendable_more}
use Rattle.dap_accessing.proofs.asking.are_sendable.Goals as goal

no : IsTrue false → ⊥
no e = search rules

pub returns-in_default : goal.returns-in_default
returns-in_default c = rw c.is_empty.ensures (none_short c.args.limit c.args.records.now (c.max_record_within.ensures.none c.in_default.is))

pub returns-then-len-longest : goal.returns-then-len-longest
returns-then-len-longest c =
    let x = c.body-item.result in (
      λ f. absurd (no f),
      λ s. absurd (omega (
        arith,
        c.if-len-longest.true,
        c.len.ensures,
        ap length c.body.view_is,
        (c.in-Some.ensures.some (length x)).1 (record_short c.args.limit x
            (sendable_at c.args.limit c.args.records.now c.loop-body.body-index x c.loop-body-test.true c.body-item.is s)),
      )),
    )

pub loop-body-preserved : goal.loop-body-preserved
loop-body-preserved c =
    let x = c.body-item.result in
    sendable_more c.args.limit c.args.records.now c.loop-body.body-index x c.loop-body-test.true c.body-item.is c.loop-body.invariant
    (record_sendable c.args.limit x c.ranges.limit.fits ((c.in-Some.ensures.some (length x)).0 (omega (arith, c.if-len-longest.false, c.len.ensures, ap length c.body.view_is))))
