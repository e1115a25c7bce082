-- The orders that a line of a client may be.
use Rattle.std.specs.Prelude.{Bool, false, ℕ, List, [], ◌∷◌, codes, is_some, if◌then◌else◌, Option, Some, None, option_and_then, option_map}
use Rattle.texts.specs.Words.{Words, ends, one_of, word, words_of}
use Rattle.dap_text.specs.Requests.{request_of}
use Rattle.dap_live.specs.declared.orders.Between.{Between}
use Rattle.dap_live.specs.declared.ask_orders.AskOrder.{AskOrder}
use Rattle.dap_live.specs.declared.ask_orders.AskOrder.TheVariants as order
use Rattle.dap_live.specs.Orders.{anew_of, hex_alone}

-- rights are named
abbrev pub names_rights : Option Between → Bool
names_rights None = false
names_rights (Some b) = is_some b.rights

-- a new link: a client gives nobody rights
abbrev pub new_link_order : Option Between → Option AskOrder
new_link_order anew = if names_rights anew then None else Some (order.New anew)

-- `fetch each`
abbrev pub each_of : Words → Option AskOrder
each_of = word (codes "fetch") (word (codes "each") (ends order.FetchEach))

-- that, or a request
abbrev pub asked_of : Words → Option AskOrder
asked_of = one_of (each_of ∷ (λ words. option_map order.Ask (request_of words)) ∷ [])

-- the order of a line, by its first word
abbrev pub ask_order_of : List ℕ → Option AskOrder
ask_order_of line = one_of (
    word (codes ">") (λ words. option_map order.Packet (hex_alone words))
    ∷ word (codes "resend") (ends order.Resend)
    ∷ word (codes "ack") (ends order.Ack)
    ∷ word (codes "new") (λ words. option_and_then new_link_order (anew_of words))
    ∷ word (codes "ask") asked_of
    ∷ []) (words_of line)
