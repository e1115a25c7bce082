use Rattle.std.proofs.Common.{sym, rules}
use Rattle.texts.proofs.TextWords.{all_read, too_great}
use Rattle.texts.proofs.words.read_number.Goals as goal

pub returns-then-number-from-clause-value : goal.returns-then-number-from-clause-value
returns-then-number-from-clause-value c =
    sym (too_great c.args.word.now c.loop-digit.digit-index c.args.most c.loop-digit.number 0 (search rules) (search rules) c.loop-digit.invariant.0 (search rules))

pub returns-clause-value : goal.returns-clause-value
returns-clause-value c =
    all_read c.args.word.now c.loop-digit.digit-index c.args.most c.loop-digit.number (search rules) (search rules) (search rules) (search rules)
    c.loop-digit.invariant.0 c.loop-digit.invariant.1
