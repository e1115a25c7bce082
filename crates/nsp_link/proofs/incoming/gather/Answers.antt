use Rattle.std.proofs.Common.{◌≡◌, ◌+◌, length, drop, sym, ap, ◌∙◌, arith}
use Rattle.nsp_link.specs.Coming.{Coming, with_taken, with_all_taken}
use Rattle.nsp_link.specs.Inner.Pieces.{coming_of, leading, held_piece, lent_piece, run_in}
use Rattle.nsp_link.proofs.Runs.{taken_more, none_taken}
use Rattle.nsp_link.proofs.incoming.gather.Goals as goal

pub loop-held-init : goal.loop-held-init
unfolding with_all_taken
loop-held-init c =
    let ok = c.in_ok-take.ensures.ok in
    record {
      few = omega (arith, c.requires.few, ap (λ (x : Coming). x.received) ok, ap (λ (x : Coming). x.received) c.emptied-aside.ensures);
      taken = rw ok (ap (λ (x : Coming). with_all_taken x (run_in (lent_piece c.args.piece.now) c.args.ring.now.items)) c.emptied-aside.ensures);
    }

pub take-requires-in-Some : goal.take-requires-in-Some
take-requires-in-Some c = omega (arith, ap length c.in-Some.ensures.leads, c.loop-held.invariant.few)

pub overflow_add-index : goal.overflow_add-index
overflow_add-index c = omega (arith, c.in-Some.ensures.there, c.requires.window)

pub loop-held-smaller : goal.loop-held-smaller
loop-held-smaller c = omega (arith, c.in-Some.ensures.there)

pub loop-held-preserved : goal.loop-held-preserved
loop-held-preserved c =
    let h = c.in-Some.held.now in
    let items = c.args.ring.now.items in
    let now = coming_of c.loop-held.aside in
    let leads = c.in-Some.ensures.leads in
    let is : coming_of c.take-in-Some.new.incoming ≡ with_taken now (held_piece h) = c.in_ok-take-2.ensures.ok ∙ ap (with_taken now) c.lent.ensures in
    record {
      few = omega (arith, ap length leads, c.loop-held.invariant.few, ap (λ (x : Coming). x.received) is);
      taken = rw is (sym (taken_more now (leading (drop c.loop-held.index items)) (leading (drop (c.loop-held.index + 1) items)) (held_piece h) leads) ∙ c.loop-held.invariant.taken);
    }

pub returns : goal.returns
returns c = sym (none_taken (coming_of c.loop-held.aside) (leading (drop c.loop-held.index c.args.ring.now.items)) c.in_default.ensures.leads) ∙ c.loop-held.invariant.taken
