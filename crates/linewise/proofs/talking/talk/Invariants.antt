use Rattle.linewise.specs.Inner.Steps.{HasTalked}
use Rattle.linewise.proofs.talking.talk.Given as goal

abbrev pub invariant-loop-number : goal.invariant-loop-number
invariant-loop-number g l = HasTalked g.E.Answers.answered g.E.Answers.waiting
    l.fn.end (g.R.Read.remaining l.fn.reader) (g.W.Write.contents l.fn.writer)
    l.end (g.R.Read.remaining l.reader) (g.W.Write.contents l.writer) l.bad
