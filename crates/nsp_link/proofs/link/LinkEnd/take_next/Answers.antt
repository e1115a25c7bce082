use Rattle.std.proofs.Common.{◌≡◌, ◌+◌, ◌≤◌, ◌∙◌, [], ◌∷◌, List, length, drop, ap, arith, refl, subst, sym, Some, None, Option}
use Rattle.std.specs.Prelude.{slice_get, unwrap_or}
use Rattle.nsp_link.specs.Coming.{Coming, AllFitInOrder, RefusesAll}
use Rattle.nsp_link.specs.Link.{LinkValue}
use Rattle.nsp_link.specs.Inner.Pieces.{Held, lent_piece, held_from, leading, run_in, coming_of}
use Rattle.nsp_link.specs.Receiving.{run, taking_in}
use Rattle.nsp_link.specs.Inner.View.{link_view}
use Rattle.nsp_link.proofs.Taking.{received-all}
use Rattle.nsp_link.proofs.Held.{ring_fewer, ring_free, ring_long, held_end, length-ring_closed, follows_held}
use Rattle.nsp_link.proofs.Runs.{fit_short}
use Rattle.nsp_link.proofs.Queued.{if_err_and}
use Rattle.nsp_link.proofs.Keeping.{run_fit, run_refuses, closed_is, coming_link}
use Rattle.nsp_link.proofs.link.LinkEnd.take_next.Goals as goal

pub advance-requires-clause-some : goal.advance-requires-clause-some
advance-requires-clause-some c = ring_fewer c.in_ok-count.count c.self.inside.held.items c.self.invariant.free c.in_ok-count.ensures.count

pub invariant_of-self-2 : goal.invariant_of-self-2
invariant_of-self-2 c =
    let items = c.self.inside.held.items in
    let link = c.self.invariant.link in
    let m = c.in_ok-count.count in
    let r = c.take_run.new.incoming.received in
    let le = ring_fewer m items c.self.invariant.free c.in_ok-count.ensures.count in
    let long : length c.advance.new.ring.items ≡ c.self.inside.setup.window = ap length c.advance.ensures.items ∙ ring_long m items le ∙ c.self.invariant.slots in
    let front : slice_get c.advance.new.ring.items 0 ≡ Some None = ap (λ (xs : List (Option Held)). slice_get xs 0) c.advance.ensures.items ∙ ring_free m items c.self.invariant.free c.in_ok-count.ensures.count in
    let on = ap (λ (x : Coming). x.received) c.in_ok-count.ensures.taken ∙ received-all (coming_of c.self.inside.incoming) (_ ∷ leading (drop 1 items)) in
    let left : length (held_from (r + 1) c.advance.new.ring.items) + length (leading (drop 1 items)) ≡ length (held_from (c.self.inside.incoming.received + 1) items) = ap (λ (xs : List (Option Held)). length (held_from (r + 1) xs) + length (leading (drop 1 items))) c.advance.ensures.items ∙ length-ring_closed (c.self.inside.incoming.received + 1) (r + 1) m items c.self.invariant.free c.in_ok-count.ensures.count in
    record {
      link = record {
        setup = link.setup;
        acked = link.acked;
        within = link.within;
        queued = link.queued;
        few_sent = link.few_sent;
        few_taken = c.in_ok-count.ensures.within;
        partial = subst (λ (x : Coming). length (unwrap_or x.partial []) ≤ c.self.inside.setup.max_message) (sym c.in_ok-count.ensures.taken) (fit_short c.self.inside.setup.max_message (coming_of c.self.inside.incoming) (run_in (lent_piece c.args.piece.now) items) c.in_ok-count.ensures.fit link.partial);
        held = held_end (r + 1) (r + 1 + c.self.inside.setup.window) c.advance.new.ring.items front (omega (arith, long));
      };
      slots = long;
      capacity = c.advance.ensures.capacity ∙ c.self.invariant.capacity;
      free = front;
      counted = omega (arith, c.self.invariant.counted, left, c.in_ok-count.ensures.count, on);
      waiting = c.self.invariant.waiting;
      few_bytes = c.self.invariant.few_bytes;
    }

pub returns-clause-ok : goal.returns-clause-ok
returns-clause-ok c =
    let v = link_view c.self.inside in
    let p = lent_piece c.args.piece.now in
    let fit = run_fit v c.self.inside.held.items refl c.self.invariant.free p v.setup.max_message c.in_ok-count.ensures.fit in
    subst (λ (w : LinkValue). AllFitInOrder w.setup.max_message w.coming (run w p)) c.self.view_is fit

pub returns-clause-taken : goal.returns-clause-taken
returns-clause-taken c =
    let items = c.self.inside.held.items in
    let v = link_view c.self.inside in
    let p = lent_piece c.args.piece.now in
    let is = c.in_ok-count.ensures.taken in
    let on : c.take_run.new.incoming.received ≡ v.coming.received + c.in_ok-count.count = ap (λ (x : Coming). x.received) is ∙ received-all v.coming (p ∷ leading (drop 1 items)) ∙ omega (arith, c.in_ok-count.ensures.count) in
    closed_is v items refl c.self.invariant.free p (coming_of c.take_run.new.incoming) c.in_ok-count.count c.advance.new.ring.items is c.in_ok-count.ensures.count on c.advance.ensures.items
    ∙ ap (λ (w : LinkValue). taking_in w (w.coming.received + 1) p) c.self.view_is

pub returns-in_err-count-clause-err : goal.returns-in_err-count-clause-err
returns-in_err-count-clause-err c =
    let items = c.self.inside.held.items in
    let v = link_view c.self.inside in
    let p = lent_piece c.args.piece.now in
    let same : coming_link v (coming_of c.take_run.new.incoming) (held_from (c.take_run.new.incoming.received + 1) items) ≡ v = ap (λ (x : Coming). coming_link v x (held_from (x.received + 1) items)) c.in_err-count.ensures.unchanged in
    if_err_and c.from_residual.result _ _ c.from_residual.ensures.1
    (λ e is. (subst (λ (w : LinkValue). RefusesAll w.setup.max_message w.coming (run w p) e) c.self.view_is (run_refuses v items refl c.self.invariant.free p v.setup.max_message e (rw is c.in_err-count.ensures.err)), same ∙ c.self.view_is))

pub overflow_sub-self-2 : goal.overflow_sub-self-2
overflow_sub-self-2 c =
    let some = follows_held (c.self.inside.incoming.received + 1) c.self.inside.held.items c.self.invariant.free in
    omega (arith, some, c.self.invariant.counted, c.in_ok-count.ensures.count)
