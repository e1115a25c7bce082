-- Rows: what lines of a server say.
use Rattle.std.proofs.Common.{◌≡◌, true, false, Option, Some, None, [], ◌∷◌, refl}
use Rattle.std.specs.Prelude.{codes}
use Rattle.hex.specs.Hex.{decode_pairs}
use Rattle.rec_file.specs.declared.picks.Rights.{Rights}
use Rattle.dap_live.specs.declared.node_orders.NodeOrder.{NodeOrder}
use Rattle.dap_live.specs.declared.node_orders.NodeOrder.TheVariants as order
use Rattle.dap_live.specs.Orders.{between_order}
use Rattle.dap_live.specs.NodeOrders.{node_order_of}
use Rattle.dap_live.specs.Texts.{locked_text}

new-names-its-link : node_order_of false (codes "new") ≡ None
new-names-its-link = refl

resend-names-its-link : node_order_of false (codes "resend") ≡ None
resend-names-its-link = refl

ack-names-its-link : node_order_of false (codes "ack") ≡ None
ack-names-its-link = refl

one-link-has-no-name : node_order_of true (codes "ack 0202") ≡ None
one-link-has-no-name = refl

one-link-stays : node_order_of true (codes "close 0202") ≡ None
one-link-stays = refl

nothing-is-asked : node_order_of true (codes "ask hello") ≡ None
nothing-is-asked = refl

-- a link between these addresses, with segments of 512 bytes and these rights
abbrev new_with : Rights → Option NodeOrder
new_with rights = Some (order.New (between_order 514 257 (Some 512) (Some rights)))

rights-are-numbered : node_order_of false (codes "new 0202 0101 512 2") ≡ new_with (record { get = true; put = false; upd = false; del = false })
unfolding decode_pairs
rights-are-numbered = refl

get-is-named : node_order_of false (codes "new 0202 0101 512 get") ≡ new_with (record { get = true; put = false; upd = false; del = false })
unfolding decode_pairs
get-is-named = refl

put-is-named : node_order_of false (codes "new 0202 0101 512 put") ≡ new_with (record { get = false; put = true; upd = false; del = false })
unfolding decode_pairs
put-is-named = refl

update-is-named : node_order_of false (codes "new 0202 0101 512 upd") ≡ new_with (record { get = false; put = false; upd = true; del = false })
unfolding decode_pairs
update-is-named = refl

update-is-numbered : node_order_of false (codes "new 0202 0101 512 8") ≡ new_with (record { get = false; put = false; upd = true; del = false })
unfolding decode_pairs
update-is-numbered = refl

delete-is-named : node_order_of false (codes "new 0202 0101 512 del") ≡ new_with (record { get = false; put = false; upd = false; del = true })
unfolding decode_pairs
delete-is-named = refl

two-are-named : node_order_of false (codes "new 0202 0101 512 del,get") ≡ new_with (record { get = true; put = false; upd = false; del = true })
unfolding decode_pairs
two-are-named = refl

none-is-named : node_order_of false (codes "new 0202 0101 512 -") ≡ new_with (record { get = false; put = false; upd = false; del = false })
unfolding decode_pairs
none-is-named = refl

none-is-named-twice : node_order_of false (codes "new 0202 0101 512 get,get") ≡ None
unfolding decode_pairs
none-is-named-twice = refl

each-has-a-name : node_order_of false (codes "new 0202 0101 512 get,") ≡ None
unfolding decode_pairs
each-has-a-name = refl

rights-have-four-bits : node_order_of false (codes "new 0202 0101 512 16") ≡ None
unfolding decode_pairs
rights-have-four-bits = refl

a-file-is-dropped : node_order_of true (codes "drop 46") ≡ Some (order.Drop (70 ∷ []))
unfolding decode_pairs
a-file-is-dropped = refl

one-locks : locked_text (0x0301 ∷ []) ≡ codes "locked 0301\n"
one-locks = refl

two-are-told : locked_text (0x0301 ∷ 0x02ff ∷ []) ≡ codes "locked 0301\nlocked 02ff\n"
two-are-told = refl

none-is-told : locked_text [] ≡ []
none-is-told = refl
