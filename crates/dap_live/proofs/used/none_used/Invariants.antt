use Rattle.std.proofs.Common.{◌≡◌, replicate, false}
use Rattle.dap_live.proofs.used.none_used.Given as goal

abbrev pub invariant-loop : goal.invariant-loop
invariant-loop l = l.used.items ≡ replicate l.counter false
