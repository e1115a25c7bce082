use Rattle.std.proofs.Common.{◌≡◌, replicate}
use Rattle.dap_shared.proofs.noted.no_addresses.Given as goal

abbrev pub invariant-loop : goal.invariant-loop
invariant-loop l = l.addresses.items ≡ replicate l.counter 0
