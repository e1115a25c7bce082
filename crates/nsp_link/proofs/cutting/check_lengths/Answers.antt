use Rattle.std.proofs.Common.{◌≤◌, List, ℕ, length, arith, [], subst}
use Rattle.std.specs.Prelude.{All}
use Rattle.std.proofs.lemmas.List.{take_all}
use Rattle.std.proofs.lemmas.List.Elements.{All-more}
use Rattle.nsp_link.specs.Inner.Pieces.{vec_bodies}
use Rattle.nsp_link.proofs.Several.{body_at, length-bodies}
use Rattle.nsp_link.proofs.cutting.check_lengths.Goals as goal

pub loop-message-preserved : goal.loop-message-preserved
loop-message-preserved c =
    let i = c.loop-message.message-index in
    let ms = c.args.messages.now in
    let m = c.message-item.result in
    let here = body_at ms i m c.loop-message-test.true c.message-item.is in
    All-more (λ (x : List ℕ). length x ≤ c.args.limit) (vec_bodies ms) i [] (omega (arith, c.loop-message-test.true, length-bodies ms)) c.loop-message.invariant
    (rw here (omega (arith, c.len.ensures, m.ok.0, c.if-len-limit.false)))

pub returns-clause-ok : goal.returns-clause-ok
returns-clause-ok c =
    subst (λ (ms : List (List ℕ)). All (λ (x : List ℕ). length x ≤ c.args.limit) ms)
    (take_all c.loop-message.message-index (vec_bodies c.args.messages.now) (omega (arith, length-bodies c.args.messages.now, c.loop-message-test.false))) c.loop-message.invariant
