use Rattle.std.proofs.Common.{◌≡◌, ◌+◌, ◌<◌, ◌++◌, length, ℕ, ◌*◌, refl, ◌∙◌, arith, ◌==◌, [], ◌∷◌}
use Rattle.std.proofs.Common.{List, ap}
use Rattle.std.specs.Prelude.{slice_range}
use Rattle.std.proofs.lemmas.Grind.{common_steps}
use Rattle.nsp_link.specs.Inner.Pieces.{Segment}
use Rattle.nsp_link.specs.Cutting.{count_of, cut_message}
use Rattle.nsp_link.specs.Inner.Pieces.{piece_values}
use Rattle.nsp_link.proofs.Counts.{queued_more, piece_is, starts_within, piece_payload}
use Rattle.nsp_link.proofs.cutting.queue_message.Goals as goal

pub loop-i-preserved : goal.loop-i-preserved
loop-i-preserved c =
    let i = c.loop-i.i in
    let count = c.args.count in
    let s : Segment = record { first = i == 0; last = i + 1 == count; payload = c.in_ok-payload.payload } in
    let pushed : c.push_back.new.self.items ≡ c.loop-i.queue.items ++ s ∷ [] = c.in_ok-push_back.ensures.items in
    let lt : i < count_of c.args.size (length c.args.message.now) = omega (arith, c.requires.counted) in
    let within = starts_within c.args.size (length c.args.message.now) i c.requires.positive lt in
    record {
      cut_so_far = queued_more c.args.size c.args.message.now i (piece_values c.args.queue.now.items) c.loop-i.queue.items c.push_back.new.self.items s pushed c.loop-i.invariant.cut_so_far
          (piece_is c.args.size c.args.message.now i count s c.requires.counted refl refl
          (c.in_ok-payload.ensures.ok ∙ ap (λ (bytes : List ℕ). slice_range bytes (i * c.args.size) c.min-end.result) c.in_ok-shared.ensures ∙ piece_payload c.args.size i (i * c.args.size) c.min-end.result c.args.message.now refl c.min-end.ensures within));
      kept = grind (arith, common_steps);
    }

pub returns-clause-ok : goal.returns-clause-ok
unfolding cut_message
returns-clause-ok c =
    let done : c.loop-i.i ≡ count_of c.args.size (length c.args.message.now) = omega (arith, c.requires.counted) in
    rw (← done) c.loop-i.invariant.cut_so_far
