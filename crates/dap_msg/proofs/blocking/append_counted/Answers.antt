use Rattle.std.proofs.Common.{◌≡◌, ◌∙◌, ◌-◌, ◌++◌, length, arith, refl, suc, ap, true}
use Rattle.std.specs.Vec.{with_item}
use Rattle.dap_msg.specs.Canon.{canon}
use Rattle.dap_msg.specs.Blocked.{room_after, bodies}
use Rattle.dap_msg.proofs.Blocks.{no_room, some_there, joined_last}
use Rattle.dap_msg.proofs.blocking.append_counted.Goals as goal

pub overflow_sub-last : goal.overflow_sub-last
overflow_sub-last c = grind (arith, some_there, c.has_room.ensures, c.if-has_room.true, c.deref.ensures.value, c.args.list.now.ok.0, c.len-last.ensures)

pub index_mut-requires : goal.index_mut-requires
index_mut-requires c = grind (arith, some_there, c.has_room.ensures, c.if-has_room.true, c.deref.ensures.value, c.args.list.now.ok.0, c.len-last.ensures)

pub returns-then-has_room : goal.returns-then-has_room
returns-then-has_room c =
    let m = canon c.args.message.now in
    let full : room_after c.args.limit c.args.list.now.items (length m) ≡ true = cc in
    let last : length c.args.list.now.items ≡ suc (c.len-last.result - 1) = grind (arith, some_there, c.has_room.ensures, c.if-has_room.true, c.deref.ensures.value, c.args.list.now.ok.0, c.len-last.ensures) in
    joined_last c.args.limit c.args.list.now (with_item c.args.list.now (c.len-last.result - 1) c.encode_counted.new.out) (c.len-last.result - 1) c.index_mut.result.now c.encode_counted.new.out m c.encode_counted.result refl
    last c.index_mut.ensures.value full c.encode_counted.ensures

pub returns : goal.returns
returns c =
    let m = canon c.args.message.now in
    ap bodies c.in_ok-push.ensures.items
    ∙ no_room c.args.limit c.args.list.now.items c.encode_counted-2.new.out m (c.in_ok-encode_counted.ensures.0 ∙ ap (λ l. l ++ m) c.new-first.ensures.items) cc
