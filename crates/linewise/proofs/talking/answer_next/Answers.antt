-- The line that was read is the first one.
use Rattle.std.proofs.Common.{refl}
use Rattle.std.proofs.KnownBytes.{Keeps-refl}
use Rattle.linewise.proofs.ReadingLemmas.{over, of_first}
use Rattle.linewise.specs.Inner.Steps.{SaysLine}
use Rattle.linewise.proofs.talking.answer_next.Goals as goal

pub returns-then-is_over-clause-goes : goal.returns-then-is_over-clause-goes
returns-then-is_over-clause-goes g c = (over _ _ c.read_line.new.line c.in-Ok.ensures.whole (c.is_over.ensures.over c.if-is_over.true), refl, Keeps-refl _)

pub returns-clause-goes : goal.returns-clause-goes
returns-clause-goes g c =
    of_first _ _ c.read_line.new.line (λ line. SaysLine g.E.Answers.answered g.E.Answers.waiting c.args.end.now line c.say.new.end (g.W.Write.contents c.args.writer.now) (g.W.Write.contents c.say.new.writer) c.in_ok-became.became)
    c.in-Ok.ensures.whole (c.is_over.ensures.more c.if-is_over.false) c.in_ok-became.ensures.said
