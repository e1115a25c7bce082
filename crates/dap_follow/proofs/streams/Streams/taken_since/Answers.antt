use Rattle.std.proofs.Common.{◌≤◌, ◌+◌, length, take, rules, inr, sym, subst}
use Rattle.dap_follow.specs.Keeping.Room.{AreTaken}
use Rattle.dap_follow.specs.declared.room.Taken.{Taken}
use Rattle.dap_follow.proofs.TakenLemmas.{taken_all, taken_next}
use Rattle.dap_follow.proofs.streams.Streams.taken_since.Goals as goal

pub loop-at-preserved : goal.loop-at-preserved
loop-at-preserved c =
    let es = c.args.self.now.live.entries in
    subst (λ (t : Taken). AreTaken c.args.coming.now c.args.packet (take (c.loop-at.at + 1) es) t) (sym c.in_ok-taken.ensures)
    (taken_next c.args.coming.now c.args.packet es c.loop-at.at (c.in-Some.stream.now, c.in-Some.kept.now) c.loop-at.taken (sym c.in-Some.ensures.entry) c.loop-at.invariant)

pub returns : goal.returns
returns c =
    let es = c.args.self.now.live.entries in
    let end : length es ≤ c.loop-at.at = search rules in
    taken_all c.args.coming.now c.args.packet es c.loop-at.at c.loop-at.taken (inr end) c.loop-at.invariant
