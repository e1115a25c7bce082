use Rattle.std.proofs.Common.{length, take, sym, append_assoc, arith}
use Rattle.std.proofs.lemmas.List.{append-nil, take_all}
use Rattle.nsp_link.specs.Cutting.{cut, cut_message}
use Rattle.nsp_link.specs.Inner.Pieces.{vec_bodies}
use Rattle.nsp_link.specs.Inner.Pieces.{piece_values}
use Rattle.nsp_link.proofs.Several.{cut_step, cut-none, take_kept}
use Rattle.nsp_link.proofs.cutting.queue_all.Goals as goal

pub loop-message-init : goal.loop-message-init
loop-message-init c = record {
  cut_so_far = rw (cut-none c.args.size) (sym (append-nil (piece_values c.args.queue.now.items)));
  kept = take_all (length c.args.queue.now.items) c.args.queue.now.items (omega arith);
}

pub loop-message-preserved : goal.loop-message-preserved
loop-message-preserved c =
    let i = c.loop-message.message-index in
    let ms = c.args.messages.now in
    record {
      cut_so_far = rw (c.in_ok-queue_message.ensures.ok, c.loop-message.invariant.cut_so_far, cut_step c.args.size ms i c.message-item.result c.loop-message-test.true c.message-item.is, c.deref.ensures.value)
          (append_assoc (piece_values c.args.queue.now.items) (cut c.args.size (vec_bodies (take i ms))) (cut_message c.args.size c.message-item.result.items));
      kept = take_kept c.args.queue.now.items c.loop-message.queue.items c.queue_message.new.queue.items c.loop-message.invariant.kept c.queue_message.ensures.kept;
    }
