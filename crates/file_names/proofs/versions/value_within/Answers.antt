use Rattle.std.proofs.Common.{sym, rules}
use Rattle.file_names.proofs.VersionLemmas.{next_value, too_great}
use Rattle.file_names.proofs.versions.value_within.Goals as goal

pub returns-then-number-from : goal.returns-then-number-from
returns-then-number-from c =
    sym (too_great c.args.digits.now c.loop-digit.digit-index c.loop-digit.number c.args.most (search rules) (search rules) c.loop-digit.invariant.0 (search rules))

pub loop-digit-preserved : goal.loop-digit-preserved
loop-digit-preserved c =
    let next = next_value c.args.digits.now c.loop-digit.digit-index c.loop-digit.number (search rules) (search rules) c.loop-digit.invariant.0 in
    (search (rules, next), search rules)
