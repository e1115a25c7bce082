use Rattle.std.proofs.Common.{◌≡◌, length}
use Rattle.capture_file.specs.Meanings.{value_from}
use Rattle.capture_file.proofs.meaning.option_value.Given as goal

abbrev pub invariant-loop-left : goal.invariant-loop-left
invariant-loop-left l = value_from l.left l.order l.code l.rest ≡ value_from (length l.fn.options) l.order l.fn.code l.fn.options

abbrev pub decreases-loop-left : goal.decreases-loop-left
decreases-loop-left l = l.left
