use Rattle.std.proofs.Common.{◌≡◌, ◌+◌, rules, sym, subst, ◌∙◌}
use Rattle.dap_follow.proofs.TakenLemmas.{AreCrowded, crowd_more, crowd_of_all, crowd_with_room}
use Rattle.dap_follow.proofs.streams.Streams.crowd.Goals as goal

pub loop-taken-preserved : goal.loop-taken-preserved
loop-taken-preserved c =
    let es = c.args.self.now.live.entries in
    let next : c.in_ok-since-in-Some.since ≡ c.in-Some.first + 1 = search rules in
    subst (λ n. AreCrowded c.args.coming es n) (sym next)
    (crowd_more c.args.coming es c.loop-taken.since c.in-Some.first c.in_ok-taken.taken c.in_ok-taken.ensures c.in-Some.is (sym c.leaves.ensures ∙ c.if-not-leaves.true) c.loop-taken.invariant).0

pub returns-in_default : goal.returns-in_default
returns-in_default c =
    crowd_with_room c.args.coming c.args.self.now.live.entries c.loop-taken.since c.in_ok-taken.taken c.in_ok-taken.ensures (sym c.if-not-leaves.ensures) c.loop-taken.invariant

pub returns-in_default-2 : goal.returns-in_default-2
returns-in_default-2 c =
    crowd_of_all c.args.coming c.args.self.now.live.entries c.loop-taken.since c.in_ok-taken.taken c.in_ok-taken.ensures c.in_default.is c.loop-taken.invariant
