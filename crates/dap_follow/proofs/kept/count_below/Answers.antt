use Rattle.std.proofs.Common.{rules, of_calls, nat_lt}
use Rattle.std.proofs.lemmas.Fn.{always_returns_same}
use Rattle.dap_follow.specs.declared.kept.Kept.{Kept}
use Rattle.dap_follow.proofs.SegmentLemmas.{above_point, below_point, partitioned_at}
use Rattle.dap_follow.proofs.kept.count_below.Goals as goal

pub returns-clause-below : goal.returns-clause-below
returns-clause-below c = λ ascends.
    below_point c.args.sequence c.args.kept.now c.partition_point.result c.partition_point.ensures.bound
    (c.partition_point.ensures.partitioned (λ (k : Kept). nat_lt k.to c.args.sequence) (always_returns_same _ _ _ (λ a r f k. search (rules, of_calls)))
    (partitioned_at c.args.sequence c.args.kept.now ascends))

pub returns-clause-above : goal.returns-clause-above
returns-clause-above c = λ ascends.
    above_point c.args.sequence c.args.kept.now c.partition_point.result c.partition_point.ensures.bound
    (c.partition_point.ensures.partitioned (λ (k : Kept). nat_lt k.to c.args.sequence) (always_returns_same _ _ _ (λ a r f k. search (rules, of_calls)))
    (partitioned_at c.args.sequence c.args.kept.now ascends))
