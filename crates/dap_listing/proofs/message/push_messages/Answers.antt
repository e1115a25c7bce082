use Rattle.std.proofs.Common.{◌≤◌, ◌<◌, ◌++◌, [], length, arith, sym, refl}
use Rattle.std.proofs.lemmas.List.{append-nil}
use Rattle.dap_listing.specs.Messages.{item_line_in}
use Rattle.dap_listing.proofs.MessageLemmas.{ends_here, goes_further, joined}
use Rattle.dap_listing.proofs.message.push_messages.Goals as goal

pub items-init : goal.items-init
items-init c = record {
  inside = omega arith;
  before_end = λ some. some;
  so_far = ([], sym (append-nil c.args.text.now.items), λ later listed. (later, listed, refl));
}

pub returns-then-next-nsp_message-clause-added : goal.returns-then-next-nsp_message-clause-added
returns-then-next-nsp_message-clause-added c =
    let bytes = c.args.nsp_message.now in
    let so_far = c.items.invariant.so_far in
    ends_here c.args.in_words bytes c.items.at c.item_at-item.result.1 c.item_at-item.result.0 so_far.0 c.args.text.now.items _ _ c.item_at-item.ensures.exact c.if-next-nsp_message.true so_far.2 so_far.1 c.in_ok-push_item_line.ensures.added

pub items-preserved : goal.items-preserved
items-preserved c =
    let bytes = c.args.nsp_message.now in
    let next = c.item_at-item.result.1 in
    let item = c.item_at-item.result.0 in
    let so_far = c.items.invariant.so_far in
    let within : next ≤ length bytes = c.item_at-item.ensures.within in
    let below : next < length bytes = omega (arith, c.if-next-nsp_message.false, within) in
    record {
      inside = within;
      before_end = λ some. below;
      so_far = (so_far.0 ++ item_line_in c.args.in_words item, joined c.args.text.now.items _ _ so_far.0 _ so_far.1 c.in_ok-push_item_line.ensures.added, goes_further c.args.in_words bytes c.items.at next item so_far.0 c.item_at-item.ensures.exact below so_far.2);
    }
