use Rattle.std.proofs.Common.{◌≡◌, replicate, None}
use Rattle.dap_end.proofs.addresses.no_links.Given as goal

abbrev pub invariant-loop : goal.invariant-loop
invariant-loop l = l.table.items ≡ replicate l.counter None
