use Rattle.std.proofs.Common.{◌≡◌, ◌+◌, ◌∙◌, ℕ, List, length, ap, arith, refl, subst, sym, Some, None, Option}
use Rattle.std.specs.Prelude.{slice_get}
use Rattle.std.proofs.lemmas.Option.{slice_get_within}
use Rattle.std.proofs.lemmas.List.{length-set}
use Rattle.circular_buffer.proofs.Places.{slice_get-set_other}
use Rattle.nsp_link.specs.Link.{LinkValue, KeepsEarly}
use Rattle.nsp_link.specs.Inner.Pieces.{Held, lent_piece, held_from}
use Rattle.nsp_link.specs.Receiving.{taking_in}
use Rattle.nsp_link.specs.Inner.View.{link_view}
use Rattle.nsp_link.proofs.Held.{is_free_read, is_taken_read, beyond, there, held_end, held_few, length-held_put}
use Rattle.nsp_link.proofs.Keeping.{kept_filled, kept_there, kept_beyond, keeps_free}
use Rattle.nsp_link.proofs.Queued.{if_err_and}
use Rattle.nsp_link.proofs.link.LinkEnd.keep.Goals as goal

pub returns-in_err-payload-clause-err : goal.returns-in_err-payload-clause-err
returns-in_err-payload-clause-err c =
    let items = c.self.inside.held.items in
    let at = is_free_read items c.args.index c.is_free.result c.is_free.ensures c.if-is_free.true in
    let v = link_view c.self.inside in
    let keeps = keeps_free v items refl c.args.index c.requires c.self.invariant.slots at in
    let now-keeps : KeepsEarly c.args.self.now (c.args.self.now.coming.received + 1 + c.args.index) = subst (λ (w : LinkValue). KeepsEarly w (w.coming.received + 1 + c.args.index)) c.self.view_is keeps in
    if_err_and c.from_residual.result _ _ c.from_residual.ensures.1 (λ e is. (is, now-keeps, refl))

pub fill-requires : goal.fill-requires
fill-requires c = slice_get_within c.self.inside.held.items c.args.index None (is_free_read c.self.inside.held.items c.args.index c.is_free.result c.is_free.ensures c.if-is_free.true)

pub invariant_of-self : goal.invariant_of-self
invariant_of-self c =
    let items = c.self.inside.held.items in
    let link = c.self.invariant.link in
    let r = c.self.inside.incoming.received in
    let long : length c.fill.new.ring.items ≡ c.self.inside.setup.window = ap length c.fill.ensures.items ∙ length-set items c.args.index _ ∙ c.self.invariant.slots in
    let at = is_free_read items c.args.index c.is_free.result c.is_free.ensures c.if-is_free.true in
    let put = ap (λ (xs : List (Option Held)). length (held_from (r + 1) xs)) c.fill.ensures.items in
    let h : Held = record { first = c.args.piece.now.first; last = c.args.piece.now.last; payload = c.in_ok-payload.payload } in
    let filled = length-held_put (r + 1) c.args.index items h at in
    let front : slice_get c.fill.new.ring.items 0 ≡ Some None = ap (λ (xs : List (Option Held)). slice_get xs 0) c.fill.ensures.items ∙ slice_get-set_other items c.args.index 0 _ (λ e. omega (arith, c.requires)) ∙ c.self.invariant.free in
    record {
      link = record {
        setup = link.setup;
        acked = link.acked;
        within = link.within;
        queued = link.queued;
        few_sent = link.few_sent;
        few_taken = link.few_taken;
        partial = link.partial;
        held = held_end (r + 1) (r + 1 + c.self.inside.setup.window) c.fill.new.ring.items front (omega (arith, long));
      };
      slots = long;
      capacity = c.fill.ensures.capacity ∙ c.self.invariant.capacity;
      free = front;
      counted = omega (arith, c.self.invariant.counted, put, filled);
      waiting = c.self.invariant.waiting;
      few_bytes = c.self.invariant.few_bytes;
    }

pub returns-in_ok-payload-clause-ok : goal.returns-in_ok-payload-clause-ok
returns-in_ok-payload-clause-ok c =
    let items = c.self.inside.held.items in
    let v = link_view c.self.inside in
    let at = is_free_read items c.args.index c.is_free.result c.is_free.ensures c.if-is_free.true in
    let h : Held = record { first = c.args.piece.now.first; last = c.args.piece.now.last; payload = c.in_ok-payload.payload } in
    let p = lent_piece c.args.piece.now in
    let filled = kept_filled v items refl c.args.index c.requires c.self.invariant.slots h p at (ap (λ (bytes : List ℕ). record p { payload = bytes }) c.in_ok-payload.ensures.items) in
    ap (λ (xs : List (Option Held)). record v { held = held_from (v.coming.received + 1) xs }) c.fill.ensures.items ∙ filled
    ∙ ap (λ (w : LinkValue). taking_in w (w.coming.received + 1 + c.args.index) p) c.self.view_is

pub returns-else-is_free-clause-ok : goal.returns-else-is_free-clause-ok
returns-else-is_free-clause-ok c =
    let items = c.self.inside.held.items in
    let v = link_view c.self.inside in
    let p = lent_piece c.args.piece.now in
    let same : v ≡ taking_in v (v.coming.received + 1 + c.args.index) p = elim (is_taken_read items c.args.index c.is_free.result c.is_free.ensures c.if-is_free.false) [
      | beyond at ↦ kept_beyond v items refl c.args.index c.requires c.self.invariant.slots p at
      | there h at ↦ kept_there v items refl c.args.index c.requires c.self.invariant.slots h p at
    ] in
    sym c.self.view_is ∙ same ∙ ap (λ (w : LinkValue). taking_in w (w.coming.received + 1 + c.args.index) p) c.self.view_is

pub overflow_add-self : goal.overflow_add-self
overflow_add-self c =
    let r = c.self.inside.incoming.received in
    let link = c.self.invariant.link in
    let few = held_few (r + 1) (r + 1 + c.self.inside.setup.window) _ (omega (arith, link.setup.2)) link.held in
    omega (arith, few, c.self.invariant.counted, link.setup.3)
