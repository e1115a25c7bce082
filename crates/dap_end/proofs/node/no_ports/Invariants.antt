use Rattle.std.proofs.Common.{◌≡◌, replicate, None}
use Rattle.dap_end.proofs.node.no_ports.Given as goal

abbrev pub invariant-loop : goal.invariant-loop
invariant-loop l = l.ports.items ≡ replicate l.counter None
