use Rattle.std.proofs.Common.{◌≡◌, length, take, refl, inr, ap, ◌∙◌, arith}
use Rattle.std.proofs.lemmas.List.{length-append}
use Rattle.nsp_link.proofs.Counts.{length-cut_message}
use Rattle.nsp_link.specs.Cutting.{cut, cut_message}
use Rattle.nsp_link.specs.Inner.Pieces.{vec_bodies}
use Rattle.nsp_link.proofs.Several.{cut_step, cut_within, cut-none}
use Rattle.nsp_link.proofs.cutting.check_all.Goals as goal

pub loop-message-init : goal.loop-message-init
loop-message-init c = let none = ap length (cut-none c.args.size) in omega arith

pub returns-then-count-left-clause-err : goal.returns-then-count-left-clause-err
returns-then-count-left-clause-err c =
    let m = c.message-item.result in
    let lenm : c.len.result ≡ length m.items = omega (arith, c.len.ensures, m.ok.0) in
    let counted = rw lenm at c.segment_count-count.ensures in
    let within = cut_within c.args.size c.args.messages.now c.loop-message.message-index m c.loop-message-test.true c.message-item.is in
    inr (refl, c.in_ok-check_lengths.ensures.ok, omega (arith, within, counted, c.loop-message.invariant, c.if-count-left.true))

pub loop-message-preserved : goal.loop-message-preserved
loop-message-preserved c =
    let m = c.message-item.result in
    let i = c.loop-message.message-index in
    let ms = c.args.messages.now in
    let lenm : c.len.result ≡ length m.items = omega (arith, c.len.ensures, m.ok.0) in
    let counted = rw lenm at c.segment_count-count.ensures in
    let step = ap length (cut_step c.args.size ms i m c.loop-message-test.true c.message-item.is) ∙ length-append (cut c.args.size (vec_bodies (take i ms))) (cut_message c.args.size m.items) in
    omega (arith, step, length-cut_message c.args.size m.items, counted, c.loop-message.invariant, c.if-count-left.false)
