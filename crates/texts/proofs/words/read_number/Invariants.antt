use Rattle.std.proofs.Common.{◌≡◌, ◌≤◌, take}
use Rattle.texts.specs.Inner.Words.{decimal_value}
use Rattle.texts.proofs.words.read_number.Given as goal

abbrev pub invariant-loop-digit : goal.invariant-loop-digit
invariant-loop-digit l = (l.number ≡ decimal_value (take l.digit-index l.word)) × (l.number ≤ l.most)
