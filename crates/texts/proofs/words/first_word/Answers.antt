use Rattle.std.proofs.Common.{sym, ◌+◌}
use Rattle.texts.proofs.SliceLemmas.{slice_from}
use Rattle.texts.proofs.WordLemmas.{some_part, only_part}
use Rattle.texts.proofs.words.first_word.Goals as goal

pub returns-in-None : goal.returns-in-None
returns-in-None c = only_part 32 c.args.line.now (sym c.in-None.ensures)

pub returns-in-Some : goal.returns-in-Some
returns-in-Some c =
    rw (slice_from (c.in-Some.end + 1) c.args.line.now) (some_part 32 c.args.line.now c.in-Some.end (sym c.in-Some.ensures)).0
