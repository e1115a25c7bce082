use Rattle.std.proofs.Common.{arith, rules, Option, Some, None, List, ℕ, refl}
use Rattle.std.specs.Io.KnownBytes.{Keeps}
use Rattle.decnet_frames.proofs.ListingLemmas.{keeps_same, listed_so_far}
use Rattle.decnet_frames.proofs.run.list_all.Goals as goal

pub loop-preserved : goal.loop-preserved
loop-preserved g c =
    let i = c.loop.invariant in
    let goes = c.in-Ok-None.ensures.goes (search rules) in (
      omega (arith, i.0, c.in-Ok-None.ensures.room),
      c.in-Ok-None.ensures.ready (search rules),
      λ between first input start a. goes between first input start (i.2 between first input start a),
    )

pub returns-clause-fault : goal.returns-clause-fault
returns-clause-fault g c = λ between first input start a.
    let left = g.R.Read.remaining c.loop.reader in
    listed_so_far g.T.Takes.taken between first c.loop.frames c.loop.taker input left left start (g.W.Write.contents c.loop.writer) (c.loop.invariant.2 between first input start a) (keeps_same left)
