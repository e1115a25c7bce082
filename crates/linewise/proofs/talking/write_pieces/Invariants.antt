use Rattle.std.proofs.Common.{length}
use Rattle.linewise.specs.Inner.Steps.{HasWritten}
use Rattle.linewise.proofs.talking.write_pieces.Given as goal

abbrev pub invariant-loop-text : goal.invariant-loop-text
invariant-loop-text g l = HasWritten (g.E.Answers.pieces l.fn.end l.fn.first) (g.E.Answers.pieces l.end l.cursor)
    l.initial.text.items l.text.items (g.W.Write.contents l.initial.writer) (g.W.Write.contents l.writer)

abbrev pub decreases-loop-text : goal.decreases-loop-text
decreases-loop-text g l = length (g.E.Answers.pieces l.end l.cursor)
