use Rattle.std.proofs.Common.{◌≡◌, ◌<◌, ◌≤◌, List, true, false, take, drop, refl, sym, ap, subst, ◌∙◌}
use Rattle.std.specs.List.{AllByRecursion}
use Rattle.dap_follow.specs.Keeping.Kept.{Ascends, IsRoomOf, is_taken}
use Rattle.dap_follow.specs.declared.kept.Kept.{Kept}
use Rattle.dap_follow.proofs.JoinLemmas.{if_ok_with}
use Rattle.dap_follow.proofs.SegmentLemmas.{finds_put, finds_taken, kept_ascends}
use Rattle.dap_follow.proofs.kept.KeptSegments.add.Goals as goal

pub returns-then-is_taken-clause-finds : goal.returns-then-is_taken-clause-finds
returns-then-is_taken-clause-finds c = λ ordered packet k high.
    let ks = c.args.self.now.kept.items in
    let sequence = c.sequence_near-sequence.result in
    let index = c.count_below-index.result in
    let is : c.deref.result.now ≡ ks = c.deref.ensures.value in
    let up : Ascends c.deref.result.now = subst (λ (l : List Kept). Ascends l) (sym is) (kept_ascends packet ordered c.args.self.now k) in
    let above = subst (λ (l : List Kept). AllByRecursion (λ o. sequence ≤ o.to) (drop index l)) is (c.count_below-index.ensures.above up) in
    let taken : is_taken sequence (drop index ks) ≡ true =
    ap (λ (l : List Kept). is_taken sequence (drop index l)) (sym c.deref-2.ensures.value) ∙ sym c.is_taken.ensures ∙ c.if-is_taken.true in
    finds_taken c.args.segment.now c.args.self.now _ c.args.bytes.now.items sequence index ordered packet k (c.sequence_near-sequence.ensures k.low high) c.max-self.ensures refl refl above taken

pub returns-clause-finds : goal.returns-clause-finds
returns-clause-finds c =
    if_ok_with (IsRoomOf c.args.self.now.held c.args.self.now.kept.items → IsRoomOf c.put_in.new.held c.put_in.new.kept.items) c.put_in.result
    (λ found puts held ordered packet k high.
    let ks = c.args.self.now.kept.items in
    let sequence = c.sequence_near-sequence.result in
    let index = c.count_below-index.result in
    let is : c.deref.result.now ≡ ks = c.deref.ensures.value in
    let up : Ascends c.deref.result.now = subst (λ (l : List Kept). Ascends l) (sym is) (kept_ascends packet ordered c.args.self.now k) in
    let below = subst (λ (l : List Kept). AllByRecursion (λ o. o.to < sequence) (take index l)) is (c.count_below-index.ensures.below up) in
    let above = subst (λ (l : List Kept). AllByRecursion (λ o. sequence ≤ o.to) (drop index l)) is (c.count_below-index.ensures.above up) in
    let free : is_taken sequence (drop index ks) ≡ false =
    ap (λ (l : List Kept). is_taken sequence (drop index l)) (sym c.deref-2.ensures.value) ∙ sym c.is_taken.ensures ∙ c.if-is_taken.false in
    finds_put c.args.segment.now c.args.self.now _ c.put_in.new.bytes.items found sequence index c.in_ok-one.one ordered packet k (c.sequence_near-sequence.ensures k.low high) c.max-self.ensures
    below above free c.in_ok-one.ensures puts held)
    c.put_in.ensures.puts c.put_in.ensures.held
