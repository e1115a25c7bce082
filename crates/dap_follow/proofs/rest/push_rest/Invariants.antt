use Rattle.std.proofs.Common.{◌≡◌, ◌++◌, length}
use Rattle.dap_follow.specs.Keeping.Rest.{kept_rest}
use Rattle.dap_follow.proofs.rest.push_rest.Given as goal

-- the text so far and what is left of the others are all
abbrev pub invariant-loop-rest : goal.invariant-loop-rest
invariant-loop-rest l = l.text.items ++ kept_rest l.stream l.rest ≡ l.initial.text.items ++ kept_rest l.stream l.kept

abbrev pub decreases-loop-rest : goal.decreases-loop-rest
decreases-loop-rest l = length l.rest
