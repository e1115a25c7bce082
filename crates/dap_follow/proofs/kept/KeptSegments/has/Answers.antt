use Rattle.std.proofs.Common.{◌≡◌, ◌<◌, ◌≤◌, List, take, drop, sym, ap, subst, ◌∙◌}
use Rattle.std.specs.List.{AllByRecursion}
use Rattle.dap_follow.specs.Keeping.Kept.{Ascends, is_taken}
use Rattle.dap_follow.specs.declared.kept.Kept.{Kept}
use Rattle.dap_follow.proofs.SegmentLemmas.{kept_ascends, number_taken}
use Rattle.dap_follow.proofs.kept.KeptSegments.has.Goals as goal

pub returns : goal.returns
returns c = λ ordered packet k high.
    let ks = c.args.self.now.kept.items in
    let sequence = c.sequence_near-sequence.result in
    let index = c.count_below.result in
    let is : c.deref-2.result.now ≡ ks = c.deref-2.ensures.value in
    let up : Ascends c.deref-2.result.now = subst (λ (l : List Kept). Ascends l) (sym is) (kept_ascends packet ordered c.args.self.now k) in
    let below = subst (λ (l : List Kept). AllByRecursion (λ o. o.to < sequence) (take index l)) is (c.count_below.ensures.below up) in
    let above = subst (λ (l : List Kept). AllByRecursion (λ o. sequence ≤ o.to) (drop index l)) is (c.count_below.ensures.above up) in
    let taken : is_taken sequence (drop index ks) ≡ c.is_taken.result =
    ap (λ (l : List Kept). is_taken sequence (drop index l)) (sym c.deref.ensures.value) ∙ sym c.is_taken.ensures in
    (sequence, c.sequence_near-sequence.ensures k.low high, number_taken sequence index packet ordered c.args.self.now c.is_taken.result k below above taken)
