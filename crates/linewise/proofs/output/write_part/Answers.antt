use Rattle.std.proofs.Common.{rules}
use Rattle.texts.proofs.ForCallers.{slice_from}
use Rattle.linewise.proofs.OutputLemmas.{writes_further}
use Rattle.linewise.proofs.output.write_part.Goals as goal

pub loop-written-preserved : goal.loop-written-preserved
loop-written-preserved g c = (search rules, writes_further _ _ _ c.loop-written.written c.in-Ok.count c.args.text.now c.loop-written.invariant.1 (rw (slice_from c.loop-written.written c.args.text.now) at c.in-Ok.ensures.bytes))
