use Rattle.std.proofs.Common.{◌<◌, ◌≤◌, length, rules, sym, ◌∙◌}
use Rattle.dap_follow.proofs.JoinLemmas.{absorbs_before}
use Rattle.dap_follow.proofs.kept.join_before.Goals as goal

pub returns-clause-absorbs : goal.returns-clause-absorbs
returns-clause-absorbs c =
    let old = c.args.kept.now.items in
    let some : 0 < c.args.index = search rules in
    let within : c.args.index ≤ length old = c.requires in
    absorbs_before c.args.index old c.args.piece c.take_out-before.result c.index.result.now c.take_out-before.new.kept.items c.absorb.new.self some within
    c.take_out-before.ensures.one c.index.ensures (sym c.joins.ensures ∙ c.if-not-joins.false) c.take_out-before.ensures.others c.in_ok-absorb.ensures
