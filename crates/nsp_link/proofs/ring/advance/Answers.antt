use Rattle.std.proofs.Common.{◌≡◌, ap, ◌∙◌, arith, length, List, ◌<◌, ℕ, Option}
use Rattle.circular_buffer.specs.Buffer.{Buffer}
use Rattle.nsp_link.specs.Inner.Pieces.{Held}
use Rattle.nsp_link.proofs.Held.{ring_step}
use Rattle.nsp_link.proofs.ring.advance.Goals as goal

abbrev items_of : Buffer (Option Held) → List (Option Held)
items_of b = b.items

abbrev capacity_of : Buffer (Option Held) → ℕ
capacity_of b = b.capacity

pub loop-preserved : goal.loop-preserved
loop-preserved c =
    let popped = ap items_of c.pop_front.ensures.items in
    let cap : c.pop_front.new.self.capacity ≡ c.args.ring.now.capacity = ap capacity_of c.pop_front.ensures.items ∙ c.loop.invariant.capacity in
    let lt : c.loop.counter < length c.args.ring.now.items = omega (arith, c.requires.some, c.loop-test.true) in
    record {
      items = ap items_of c.push_back.ensures.items ∙ rw (popped, cap) (ring_step c.loop.counter c.args.ring.now.capacity c.args.ring.now.items c.loop.ring.items c.loop.invariant.items c.requires.full lt);
      capacity = ap capacity_of c.push_back.ensures.items ∙ cap;
    }
