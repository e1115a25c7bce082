use Rattle.std.proofs.Common.{◌≤◌, length, rules, inr, sym}
use Rattle.dap_follow.specs.Keeping.Endings.{is_chosen}
use Rattle.dap_follow.proofs.RestLemmas.{each_ends, each_more}
use Rattle.dap_follow.proofs.rest.push_ending.Goals as goal

pub loop-at-preserved : goal.loop-at-preserved
loop-at-preserved c =
    each_more (is_chosen c.args.ending) c.args.streams.now.live.entries c.loop-at.at (c.in-Some.stream.now, c.in-Some.segments.now) c.loop-at.text.items c.push_if_ending.new.text.items _
    (sym c.in-Some.ensures.entry) c.in_ok-push_if_ending.ensures c.loop-at.invariant

pub returns : goal.returns
returns c =
    let entries = c.args.streams.now.live.entries in
    let end : length entries ≤ c.loop-at.at = search rules in
    each_ends (is_chosen c.args.ending) entries c.loop-at.at c.loop-at.text.items _ (inr end) c.loop-at.invariant
