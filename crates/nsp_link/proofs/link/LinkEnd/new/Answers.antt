use Rattle.std.proofs.Common.{◌+◌, ap, arith, length, List, sym, refl}
use Rattle.nsp_link.specs.Inner.Pieces.{Segment}
use Rattle.nsp_link.specs.Inner.Pieces.{piece_values}
use Rattle.nsp_link.specs.Cutting.{bytes_in}
use Rattle.nsp_link.specs.Link.{IsSetup}
use Rattle.nsp_link.proofs.Held.{held_end}
use Rattle.nsp_link.proofs.link.LinkEnd.new.Goals as goal

pub invariant_of-result : goal.invariant_of-result
invariant_of-result c =
    let setup = c.args.setup in
    let fits : IsSetup setup = c.if-not-is_setup.ensures.yes refl in
    let front = c.in_ok-held.ensures.free fits.2 in
    let none = ap (λ (ss : List Segment). length (piece_values ss)) c.new.ensures.items in
    record {
      link = record {
        setup = fits;
        acked = omega arith;
        within = omega arith;
        queued = omega arith;
        few_sent = omega (arith, none);
        few_taken = omega arith;
        partial = omega arith;
        held = held_end 1 (1 + setup.window) c.in_ok-held.held.items front (omega (arith, c.in_ok-held.ensures.len));
      };
      slots = c.in_ok-held.ensures.len;
      capacity = c.in_ok-held.ensures.capacity;
      free = front;
      counted = ap length (sym (c.in_ok-held.ensures.none 1));
      waiting = omega (arith, ap (λ (ss : List Segment). bytes_in (piece_values ss)) c.new.ensures.items);
      few_bytes = omega arith;
    }
