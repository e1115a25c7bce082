use Rattle.std.proofs.Common.{◌≡◌, ℕ, take, refl, sym, ap, ◌∙◌, arith}
use Rattle.std.proofs.lemmas.List.{take-map}
use Rattle.nsp_link.specs.Inner.Pieces.{piece_values, piece}
use Rattle.nsp_link.specs.Cutting.{part_after}
use Rattle.nsp_link.proofs.Waiting.{dropped_one, bytes_dropped, long_enough, last_dropped, inner_dropped}
use Rattle.nsp_link.proofs.receiving.drop_front.Goals as goal
use Rattle.nsp_link.proofs.receiving.drop_front.Goals.{then-segment, else-segment}

pub loop-init : goal.loop-init
unfolding part_after
loop-init c = record { dropped = refl; part = refl; counted = c.requires.counted; fewer = omega arith }

pub returns-after-loop-clause-part : goal.returns-after-loop-clause-part
returns-after-loop-clause-part c =
    let done : c.loop.counter ≡ c.args.count = omega arith in
    c.loop.invariant.part ∙ ap (λ (n : ℕ). part_after c.args.part (piece_values (take n c.args.queue.now.items))) done
    ∙ ap (part_after c.args.part) (sym (take-map piece c.args.count c.args.queue.now.items))

pub overflow_add-part : goal.overflow_add-part
overflow_add-part c =
    let bytes = bytes_dropped c.loop.queue.items c.pop_front.new.self.items c.in-Some.segment c.in-Some.ensures.items in
    omega (arith, bytes, c.loop.invariant.counted)

pub overflow_sub-waiting : goal.overflow_sub-waiting
overflow_sub-waiting c =
    let bytes = bytes_dropped c.loop.queue.items c.pop_front.new.self.items c.in-Some.segment c.in-Some.ensures.items in
    omega (arith, bytes, c.loop.invariant.counted)

pub loop-preserved : goal.loop-preserved
loop-preserved c =
    let left = c.loop.queue.items in
    let now = c.pop_front.new.self.items in
    let items = c.args.queue.now.items in
    let s = c.in-Some.segment in
    let front = c.in-Some.ensures.items in
    let lt = long_enough items left now c.loop.counter s c.loop.invariant.dropped front in
    let one = dropped_one c.args.part items left now c.loop.counter s lt c.loop.invariant.dropped front in
    let bytes = bytes_dropped left now s front in
    elim c.if-segment.branch [
      | then-segment w ↦ record {
        dropped = one.0;
        part = omega (arith, w.part-is, last_dropped (part_after c.args.part (piece_values (take c.loop.counter items))) _ s w.if-segment.true one.1);
        counted = omega (arith, bytes, c.loop.invariant.counted, w.part-is, w.waiting-is);
        fewer = omega (arith, c.loop.invariant.fewer, w.waiting-is);
      }
      | else-segment w ↦ record {
        dropped = one.0;
        part = omega (arith, w.part-is, inner_dropped (part_after c.args.part (piece_values (take c.loop.counter items))) _ s w.if-segment.false one.1, c.loop.invariant.part);
        counted = omega (arith, bytes, c.loop.invariant.counted, w.part-is, w.waiting-is);
        fewer = omega (arith, c.loop.invariant.fewer, w.waiting-is);
      }
    ]
