-- Before the first line, after each and at the end.
use Rattle.std.proofs.Common.{sym}
use Rattle.linewise.proofs.TalkLemmas.{begins, goes_on, ends, fails, gives_up, stops}
use Rattle.linewise.proofs.talking.talk.Goals as goal

pub loop-number-init : goal.loop-number-init
loop-number-init g c = begins g.E.Answers.answered g.E.Answers.waiting _ _ _

pub returns-in-Ok-Over-clause-whole : goal.returns-in-Ok-Over-clause-whole
returns-in-Ok-Over-clause-whole g c =
    ends g.E.Answers.answered g.E.Answers.waiting _ _ _ _ _ _ (g.R.Read.remaining c.answer_next.new.reader) _ _ _ c.loop-number.invariant (rw c.in-Ok-Over.field-0-is at c.in-Ok-Over.ensures.goes)

pub returns-in-Err-clause-fault : goal.returns-in-Err-clause-fault
returns-in-Err-clause-fault g c =
    fails g.E.Answers.answered g.E.Answers.waiting _ _ _ _ _ _ _ _ _ _ c.in-Err.fault c.loop-number.invariant c.in-Err.ensures.fault

pub loop-number-preserved : goal.loop-number-preserved
loop-number-preserved g c =
    rw (sym c.is_bad-bad.ensures) at (goes_on g.E.Answers.answered g.E.Answers.waiting _ _ _ _ _ _ _ _ _ _ _ c.loop-number.invariant (rw c.in-Ok-Line.field-0-is at c.in-Ok-Line.ensures.goes)
    (c.ends_talk.ensures.goes c.if-ends_talk.false))

pub returns-clause-fault : goal.returns-clause-fault
returns-clause-fault g c = gives_up g.E.Answers.answered g.E.Answers.waiting _ _ _ _ _ _ _ c.loop-number.invariant

pub returns-then-ends_talk-clause-fault : goal.returns-then-ends_talk-clause-fault
returns-then-ends_talk-clause-fault g c =
    stops g.E.Answers.answered g.E.Answers.waiting _ _ _ _ _ _ _ _ _ _ c.in-Ok-Line.became c.loop-number.invariant (rw c.in-Ok-Line.field-0-is at c.in-Ok-Line.ensures.goes)
    (c.ends_talk.ensures.memory c.if-ends_talk.true) (c.ends_talk.ensures.waiting c.if-ends_talk.true)
