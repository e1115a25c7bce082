use Rattle.std.proofs.Common.{◌≡◌, length, drop, sym, ap, ◌∙◌, arith}
use Rattle.nsp_link.specs.Cutting.{Piece}
use Rattle.nsp_link.specs.Coming.{Coming}
use Rattle.nsp_link.specs.Inner.Pieces.{coming_of, leading, lent_piece, run_in}
use Rattle.nsp_link.specs.Inner.Joining.{with_begun}
use Rattle.nsp_link.proofs.Joining.{joined_run}
use Rattle.nsp_link.proofs.Runs.{one_taken}
use Rattle.nsp_link.proofs.Taking.{received-all}
use Rattle.nsp_link.proofs.incoming.take_run.Goals as goal

pub returns-in_ok-take-clause-taken : goal.returns-in_ok-take-clause-taken
returns-in_ok-take-clause-taken c =
    let p : Piece = lent_piece c.args.piece.now in
    let none : length (leading (drop 1 c.args.ring.now.items)) ≡ 0 = omega (arith, c.in_ok-count.ensures.count, c.if-count-eq1.true) in
    c.in_ok-take.ensures.ok ∙ sym (one_taken (coming_of c.args.incoming.now) p (leading (drop 1 c.args.ring.now.items)) none)

pub returns-in_ok-take-clause-within : goal.returns-in_ok-take-clause-within
returns-in_ok-take-clause-within c =
    let more = ap (λ (x : Coming). x.received) c.in_ok-take.ensures.ok in
    omega (arith, more, c.in_ok-count.ensures.few, c.in_ok-count.ensures.count)

pub returns-in_ok-join-clause-taken : goal.returns-in_ok-join-clause-taken
returns-in_ok-join-clause-taken c =
    let before = coming_of c.args.incoming.now in
    c.in_ok-join.ensures.ok ∙ ap (with_begun before) c.in_ok-aside.ensures
    ∙ joined_run before (run_in (lent_piece c.args.piece.now) c.args.ring.now.items)

pub returns-in_ok-join-clause-within : goal.returns-in_ok-join-clause-within
returns-in_ok-join-clause-within c =
    let run = run_in (lent_piece c.args.piece.now) c.args.ring.now.items in
    let more = ap (λ (x : Coming). x.received) (returns-in_ok-join-clause-taken c) ∙ received-all (coming_of c.args.incoming.now) run in
    omega (arith, more, c.in_ok-count.ensures.few, c.in_ok-count.ensures.count)
