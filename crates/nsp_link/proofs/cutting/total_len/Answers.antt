use Rattle.std.proofs.Common.{◌≡◌, length, take, arith, List, [], ℕ, ap}
use Rattle.std.proofs.lemmas.List.Sums.{sum_by_more_le, sum_by-le}
use Rattle.std.proofs.lemmas.List.{take-map}
use Rattle.std.specs.declared.vec.Vec.{Vec}
use Rattle.std.specs.declared.alloc.Global.{Global}
use Rattle.nsp_link.specs.Cutting.{total_length}
use Rattle.nsp_link.specs.Limits.{max_limit}
use Rattle.nsp_link.specs.Inner.Pieces.{vec_bodies}
use Rattle.nsp_link.proofs.Several.{length-bodies, body_at}
use Rattle.nsp_link.proofs.cutting.total_len.Goals as goal

pub overflow_add-total : goal.overflow_add-total
overflow_add-total c =
    let ms = c.args.messages.now in
    let i = c.loop-message.message-index in
    let within = sum_by_more_le (λ (m : List ℕ). length m) (vec_bodies ms) i [] (omega (arith, c.loop-message-test.true, length-bodies ms)) in
    let here = ap (λ (m : List ℕ). length m) (body_at ms i c.message-item.result c.loop-message-test.true c.message-item.is) in
    let all = sum_by-le (λ (m : List ℕ). length m) max_limit (vec_bodies ms) c.requires.short in
    let front : total_length (take i (vec_bodies ms)) ≡ total_length (vec_bodies (take i ms)) = ap total_length (take-map (λ (v : Vec ℕ Global). v.items) i ms) in
    omega (arith, front, within, here, all, c.loop-message.invariant, c.len.ensures, length-bodies ms, c.requires.few)
