use Rattle.std.proofs.Common.{◌≡◌, ◌+◌, ◌++◌, length, ◌≤◌, ◌∙◌, ap, arith, ℕ, subst, sym, [], ◌∷◌}
use Rattle.std.proofs.lemmas.List.{length-append, length-map}
use Rattle.nsp_link.specs.Cutting.{cut_message, bytes_in}
use Rattle.nsp_link.specs.Limits.{max_limit}
use Rattle.nsp_link.proofs.Taking.{count-positive}
use Rattle.nsp_link.proofs.Waiting.{bytes-append, bytes-cut_message}
use Rattle.nsp_link.specs.Link.{LinkValue, Sends}
use Rattle.nsp_link.specs.Inner.View.{link_view}
use Rattle.nsp_link.specs.Inner.Pieces.{piece, piece_values}
use Rattle.nsp_link.proofs.Growing.{sends_all}
use Rattle.nsp_link.proofs.Counts.{length-cut_message, cut-one}
use Rattle.nsp_link.proofs.link.LinkEnd.send.Goals as goal

pub invariant_of-self : goal.invariant_of-self
invariant_of-self c =
    let more = cut_message c.self.inside.setup.seg_size c.args.message.now in
    let counted = length-cut_message c.self.inside.setup.seg_size c.args.message.now in
    let before = c.self.inside.queue.items in
    let longer : length (piece_values c.queue_message.new.queue.items) ≡ length (piece_values before) + length more = ap length c.in-Ok.ensures.ok ∙ length-append (piece_values before) more in
    let mapped : length (piece_values before) ≡ length before = length-map before piece in
    let link = c.self.invariant.link in
    let size = c.self.inside.setup.seg_size in
    let bytes : bytes_in (piece_values c.queue_message.new.queue.items) ≡ bytes_in (piece_values before) + length c.args.message.now =
    ap bytes_in c.in-Ok.ensures.ok ∙ bytes-append (piece_values before) more ∙ ap (λ (n : ℕ). bytes_in (piece_values before) + n) (bytes-cut_message size c.args.message.now (omega (arith, link.setup.0))) in
    let fits : length c.args.message.now ≤ max_limit = omega (arith, c.if-message-self.false, link.setup) in
    let grown : length (piece_values c.queue_message.new.queue.items) ≡ length c.queue_message.new.queue.items = length-map c.queue_message.new.queue.items piece in
    record {
      link = record {
        setup = link.setup;
        acked = link.acked;
        within = link.within;
        queued = omega (arith, longer, link.queued);
        few_sent = omega (arith, longer, mapped, counted, c.segment_count-count.ensures, ap (λ (v : LinkValue). v.acked + length v.queue) c.self.view_is, c.room.ensures, c.if-room-count.false);
        few_taken = link.few_taken;
        partial = link.partial;
        held = link.held;
      };
      slots = c.self.invariant.slots;
      capacity = c.self.invariant.capacity;
      free = c.self.invariant.free;
      counted = c.self.invariant.counted;
      waiting = omega (arith, c.self.invariant.waiting, bytes);
      few_bytes = omega (arith, c.self.invariant.few_bytes, longer, mapped, grown, counted, count-positive c.self.inside.setup.seg_size (length c.args.message.now), fits);
    }

pub returns-in-Ok-clause-sends : goal.returns-in-Ok-clause-sends
returns-in-Ok-clause-sends c = λ messages sends.
    let before = subst (λ (v : LinkValue). Sends v messages) (sym c.self.view_is) sends in
    let size = c.self.inside.setup.seg_size in
    let queued : piece_values c.queue_message.new.queue.items ≡ piece_values c.self.inside.queue.items ++ cut_message size c.args.message.now = c.in-Ok.ensures.ok in
    rw (queued, ← cut-one size c.args.message.now) (sends_all (link_view c.self.inside) messages (c.args.message.now ∷ []) before)
