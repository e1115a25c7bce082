-- The orders that a line of a server may be. With room for several links a line names its link; where there is one link
-- alone, it names none.
use Rattle.std.specs.Prelude.{ℕ, Bool, if◌then◌else◌, List, [], ◌∷◌, codes, Option, Some, None, option_map}
use Rattle.texts.specs.Words.{Words, ends, field, one_of, text_of, word, words_of}
use Rattle.dap_text.specs.Filed.{file_line_of, record_line_of}
use Rattle.dap_live.specs.declared.node_orders.NodeOrder.{NodeOrder}
use Rattle.dap_live.specs.declared.node_orders.NodeOrder.TheVariants as order
use Rattle.dap_live.specs.Orders.{address_of, anew_of, between_of, hex_alone}

-- LOCAL, and nothing more
abbrev pub address_alone : Words → Option ℕ
address_alone = field address_of ends

-- NAME, and nothing more
abbrev pub text_alone : Words → Option (List ℕ)
text_alone = field text_of ends

-- What a line says of files. A line of a record begins with two spaces, so its first word is empty.
abbrev pub filing_forms : List ℕ → List (Words → Option NodeOrder)
filing_forms line =
    word (codes "files") (ends order.Files)
    ∷ word (codes "file") (λ words. option_map order.File (file_line_of line))
    ∷ word [] (λ words. option_map order.Record (record_line_of line))
    ∷ word (codes "drop") (λ words. option_map order.Drop (text_alone words))
    ∷ []

-- the order of a line by its first word, where there is one link
abbrev pub one_order_of : List ℕ → Option NodeOrder
one_order_of line = one_of (
    word (codes ">") (λ words. option_map order.Packet (hex_alone words))
    ∷ word (codes "resend") (ends (order.Resend None))
    ∷ word (codes "ack") (ends (order.Ack None))
    ∷ word (codes "new") (λ words. option_map order.Renew (anew_of words))
    ∷ filing_forms line) (words_of line)

-- the order of a line, where there is room for several links: `new`, `resend` and `ack` name theirs
abbrev pub links_order_of : List ℕ → Option NodeOrder
links_order_of line = one_of (
    word (codes ">") (λ words. option_map order.Packet (hex_alone words))
    ∷ word (codes "resend") (λ words. option_map (λ local. order.Resend (Some local)) (address_alone words))
    ∷ word (codes "ack") (λ words. option_map (λ local. order.Ack (Some local)) (address_alone words))
    ∷ word (codes "close") (λ words. option_map order.Close (address_alone words))
    ∷ word (codes "new") (λ words. option_map order.New (between_of words))
    ∷ filing_forms line) (words_of line)

-- the order of a line
abbrev pub node_order_of : (alone : Bool) → List ℕ → Option NodeOrder
node_order_of alone line = if alone then one_order_of line else links_order_of line
