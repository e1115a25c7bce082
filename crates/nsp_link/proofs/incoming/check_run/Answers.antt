use Rattle.std.proofs.Common.{◌≡◌, ◌+◌, length, drop, refl, ap, arith, subst}
use Rattle.nsp_link.specs.Cutting.{Piece}
use Rattle.nsp_link.specs.Coming.{Coming, FitsNext, with_taken, Misfits}
use Rattle.nsp_link.specs.Inner.Pieces.{coming_of, leading, held_piece, lent_piece, run_in, IsBegun}
use Rattle.nsp_link.proofs.Queued.{if_err_and}
use Rattle.nsp_link.proofs.Runs.{looked_first, looked_more, looked_all, misfits_first, misfits_more}
use Rattle.nsp_link.proofs.incoming.check_run.Goals as goal

pub returns-in_err-begun-clause-err : goal.returns-in_err-begun-clause-err
returns-in_err-begun-clause-err c =
    let start = coming_of c.args.incoming.now in
    let p : Piece = lent_piece c.args.piece.now in
    let out = c.in_err-begun.ensures.err start c.begun_len.ensures in
    if_err_and c.from_residual.result _ _ c.from_residual.ensures.1
    (λ e is. misfits_first c.args.limit start p (leading (drop 1 c.args.ring.now.items)) e (rw is out))

pub loop-held-init : goal.loop-held-init
loop-held-init c =
    let start = coming_of c.args.incoming.now in
    let p : Piece = lent_piece c.args.piece.now in
    let ok = c.in_ok-begun.ensures.ok start c.begun_len.ensures in
    record {
      count = refl;
      short = c.in_ok-begun.ensures.short;
      looked = looked_first c.args.limit start p c.in_ok-begun.begun (leading (drop 1 c.args.ring.now.items)) ok.0 ok.1;
    }

pub check-requires-in-Some : goal.check-requires-in-Some
check-requires-in-Some c = c.loop-held.invariant.short

pub returns-in_err-begun-2-clause-err : goal.returns-in_err-begun-2-clause-err
returns-in_err-begun-2-clause-err c =
    let h = c.in-Some.held.now in
    let items = c.args.ring.now.items in
    let start = coming_of c.args.incoming.now in
    let piece-is : lent_piece c.lent.result ≡ held_piece h = c.lent.ensures in
    let out = λ (now : Coming) (is : IsBegun c.loop-held.begun now). subst (λ (p : Piece). Misfits c.args.limit now p c.in_err-begun-2.field-0.0) piece-is (c.in_err-begun-2.ensures.err now is) in
    let all = misfits_more c.args.limit start (run_in (lent_piece c.args.piece.now) items) c.loop-held.begun (leading (drop c.loop-held.count items)) (leading (drop (c.loop-held.count + 1) items)) (held_piece h) c.in_err-begun-2.field-0.0
    c.in-Some.ensures.leads out c.loop-held.invariant.looked in
    if_err_and c.from_residual-in_err-begun-2.result _ _ c.from_residual-in_err-begun-2.ensures.1 (λ e is. rw is all)

pub overflow_add-count : goal.overflow_add-count
overflow_add-count c = omega (arith, c.in-Some.ensures.there, c.requires.window)

pub loop-held-smaller : goal.loop-held-smaller
loop-held-smaller c = omega (arith, c.in-Some.ensures.there)

pub loop-held-preserved : goal.loop-held-preserved
loop-held-preserved c =
    let h = c.in-Some.held.now in
    let items = c.args.ring.now.items in
    let start = coming_of c.args.incoming.now in
    let piece-is : lent_piece c.lent.result ≡ held_piece h = c.lent.ensures in
    let ok = λ (now : Coming) (is : IsBegun c.loop-held.begun now). subst (λ (p : Piece). FitsNext c.args.limit now p × IsBegun c.in_ok-begun-2.begun (with_taken now p)) piece-is (c.in_ok-begun-2.ensures.ok now is) in
    record {
      count = omega (arith, ap length c.in-Some.ensures.leads, c.loop-held.invariant.count);
      short = c.in_ok-begun-2.ensures.short;
      looked = looked_more c.args.limit start (run_in (lent_piece c.args.piece.now) items) c.loop-held.begun c.in_ok-begun-2.begun (leading (drop c.loop-held.count items)) (leading (drop (c.loop-held.count + 1) items)) (held_piece h)
          c.in-Some.ensures.leads ok c.loop-held.invariant.looked;
    }

pub returns-clause-count : goal.returns-clause-count
returns-clause-count c = omega (arith, ap length c.in_default.ensures.leads, c.loop-held.invariant.count)

pub returns-clause-ok : goal.returns-clause-ok
returns-clause-ok c = looked_all _ _ _ c.loop-held.begun (leading (drop c.loop-held.count c.args.ring.now.items)) c.in_default.ensures.leads c.loop-held.invariant.looked

pub returns-then-count-incoming-clause-err : goal.returns-then-count-incoming-clause-err
returns-then-count-incoming-clause-err c = (
  looked_all _ _ _ c.loop-held.begun (leading (drop c.loop-held.count c.args.ring.now.items)) c.in_default.ensures.leads c.loop-held.invariant.looked,
  omega (arith, ap length c.in_default.ensures.leads, c.loop-held.invariant.count, c.if-count-incoming.true),
)
