use Rattle.std.proofs.Common.{◌≡◌, ◌++◌, None, replicate, drop}
use Rattle.nsp_link.proofs.ring.advance.Given as goal

abbrev pub invariant-loop : goal.invariant-loop
invariant-loop l = record {
  items : l.ring.items ≡ drop l.counter l.fn.ring.items ++ replicate l.counter None;
  capacity : l.ring.capacity ≡ l.fn.ring.capacity;
}
