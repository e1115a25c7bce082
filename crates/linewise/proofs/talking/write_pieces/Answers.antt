-- Before the first piece, after each and at the end.
use Rattle.linewise.proofs.PieceLemmas.{begins, goes_on, ends, stops, breaks, err_always}
use Rattle.linewise.proofs.talking.write_pieces.Goals as goal

pub loop-text-init : goal.loop-text-init
loop-text-init g c = begins _ _ _

pub loop-text-preserved : goal.loop-text-preserved
loop-text-preserved g c =
    goes_on _ _ _ _ _ _ _ _ _ c.loop-text.invariant (rw c.deref.ensures.value at c.in_ok-write_part.ensures.whole) (rw c.in-Ok-Some.field-0-is at c.in-Ok-Some.ensures.piece)

pub returns-in_err-write_part-clause-front : goal.returns-in_err-write_part-clause-front
returns-in_err-write_part-clause-front g c =
    err_always c.from_residual.result (breaks _ _ _ _ _ _ _ c.loop-text.invariant (rw c.deref.ensures.value at c.in_err-write_part.ensures.front))

pub returns-in-Ok-None-clause-whole : goal.returns-in-Ok-None-clause-whole
returns-in-Ok-None-clause-whole g c =
    let none = rw c.in-Ok-None.field-0-is at c.in-Ok-None.ensures.piece in
    let all = ends _ _ _ _ _ _ _ c.loop-text.invariant (rw c.deref.ensures.value at c.in_ok-write_part.ensures.whole) none.0 in
    (all.0, all.1, all.2, none.1)

pub returns-in-Err-clause-whole : goal.returns-in-Err-clause-whole
returns-in-Err-clause-whole g c =
    let some = stops _ _ _ _ _ _ _ c.loop-text.invariant (rw c.deref.ensures.value at c.in_ok-write_part.ensures.whole) c.in-Err.ensures.refused in
    (some.0, some.1, some.2, c.clear-in-Err.ensures.items)
