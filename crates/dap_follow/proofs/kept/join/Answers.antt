use Rattle.dap_follow.proofs.JoinLemmas.{if_ok_weaker, joins_both}
use Rattle.dap_follow.proofs.kept.join.Goals as goal

pub returns-clause-joins : goal.returns-clause-joins
returns-clause-joins c =
    if_ok_weaker c.join_before.result
    (λ joined before. joins_both c.args.index c.args.kept.now.items c.args.piece c.join_after.new.kept.items c.join_after.new.piece joined.0 c.join_before.new.kept.items joined.1
    c.requires c.in_ok-join_after.ensures.absorbs before)
    c.join_before.ensures.absorbs
