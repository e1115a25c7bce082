use Rattle.std.proofs.Common.{inl, inr, refl, arith, rules, ◌<◌, length, ap, ◌∙◌}
use Rattle.std.proofs.lemmas.List.{map-append}
use Rattle.dap_msg.specs.Blocked.{bodies}
use Rattle.dap_world.proofs.Headline.Splits.{split_begins, split_ends, split_more}
use Rattle.dap_world.proofs.splitting.split_one.Goals as goal

pub items-init : goal.items-init
items-init c = record { offset = inr refl; so_far = split_begins c.args.message.now (bodies c.args.out.now.items) }

pub returns-then-next-message : goal.returns-then-next-message
returns-then-next-message c =
    split_ends c.args.message.now c.items.at c.item_at-item.result.1 _ (bodies c.args.out.now.items) (bodies c.items.out.items) (bodies c.push.new.self.items) c.in_ok-body.body.items
    c.items.invariant.so_far c.item_at-item.ensures.only c.if-next-message.true (search rules) (ap bodies c.in_ok-push.ensures.items ∙ map-append _ _ _)

pub items-preserved : goal.items-preserved
items-preserved c =
    let below : c.item_at-item.result.1 < length c.args.message.now = omega (arith, c.if-next-message.false, c.item_at-item.ensures.within) in
    record {
      offset = inl below;
      so_far = split_more c.args.message.now c.items.at c.item_at-item.result.1 _ (bodies c.args.out.now.items) (bodies c.items.out.items) (bodies c.push.new.self.items) c.in_ok-body.body.items
          c.items.invariant.so_far c.item_at-item.ensures.only below (search rules) (ap bodies c.in_ok-push.ensures.items ∙ map-append _ _ _);
    }
