use Rattle.std.proofs.Common.{◌++◌, ◌∷◌, [], length-append, arith, sym}
use Rattle.dap_live.proofs.AgainLemmas.{adds_one}
use Rattle.dap_end.proofs.ForCallers.{segments_more}
use Rattle.dap_live.proofs.sending.push_again.Goals as goal

pub loop-index-preserved : goal.loop-index-preserved
loop-index-preserved c =
    let (packets, again, count, text) = c.loop-index.invariant in
    let (bytes, writes, adds) = c.in_ok-push_one_again.ensures in (
      packets ++ bytes ∷ [],
      segments_more _ _ packets bytes again (rw (sym count) at writes),
      omega (arith, length-append packets (bytes ∷ []), count),
      adds_one _ _ _ packets bytes text adds,
    )
