use Rattle.std.proofs.Common.{◌≡◌, ◌<◌, ℕ, List, Some, sym, ap, subst, ◌∙◌, length, get_or}
use Rattle.std.specs.Prelude.{slice_get}
use Rattle.std.specs.Global.{Vec}
use Rattle.std.specs.Option.{option_map}
use Rattle.std.proofs.lemmas.Option.{slice_get-map, slice_get-get_or}
use Rattle.dap_msg.specs.Blocked.{bodies}
use Rattle.dap_world.specs.Inner.Splitting.{SplitsOne}
use Rattle.dap_world.proofs.Headline.Splits.{first_more}
use Rattle.dap_world.proofs.splitting.split_all.Goals as goal

item_of : (list : List (Vec ℕ)) (n : ℕ) (v : Vec ℕ) → n < length list → v ≡ get_or list n v → slice_get (bodies list) n ≡ Some v.items
item_of list n v below is =
    slice_get-map (λ (x : Vec ℕ). x.items) list n ∙ ap (option_map (λ (x : Vec ℕ). x.items)) (slice_get-get_or list n v below ∙ ap (λ (x : Vec ℕ). Some x) (sym is))

pub loop-message-preserved : goal.loop-message-preserved
loop-message-preserved c =
    first_more (bodies c.args.messages.now) c.loop-message.message-index c.message-item.result.items (bodies c.loop-message.list.items) (bodies c.split_one.new.out.items) c.loop-message.invariant
    (item_of c.args.messages.now c.loop-message.message-index c.message-item.result c.loop-message-test.true c.message-item.is)
    (subst (λ (bytes : List ℕ). SplitsOne bytes (bodies c.loop-message.list.items) (bodies c.split_one.new.out.items)) c.deref.ensures.value c.in_ok-split_one.ensures)
