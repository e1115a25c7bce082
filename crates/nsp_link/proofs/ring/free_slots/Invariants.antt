use Rattle.std.proofs.Common.{◌≡◌, None, replicate}
use Rattle.nsp_link.proofs.ring.free_slots.Given as goal

abbrev pub invariant-loop : goal.invariant-loop
invariant-loop l = record {
  free : l.ring.items ≡ replicate l.counter None;
  capacity : l.ring.capacity ≡ l.count;
}
