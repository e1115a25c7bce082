use Rattle.std.proofs.Common.{◌<◌, length, rules, sym, ◌∙◌}
use Rattle.std.proofs.lemmas.Result.{on_ok_weaker}
use Rattle.dap_follow.proofs.JoinLemmas.{absorbs_after}
use Rattle.dap_follow.proofs.kept.join_after.Goals as goal

pub returns-clause-absorbs : goal.returns-clause-absorbs
returns-clause-absorbs c =
    let old = c.args.kept.now.items in
    let below : c.args.index < length old = search rules in
    on_ok_weaker c.absorb.result
    (λ absorbed. absorbs_after c.args.index old c.args.piece.now c.take_out-after.result c.index.result.now c.take_out-after.new.kept.items c.absorb.new.self below
    c.take_out-after.ensures.one c.index.ensures (sym c.joins.ensures ∙ c.if-not-joins.false) c.take_out-after.ensures.others absorbed)
    c.absorb.ensures
