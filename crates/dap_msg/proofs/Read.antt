-- What was read: a message is one that some bytes are.
use Rattle.std.proofs.Common.{◌≡◌, refl}
use Rattle.dap_msg.specs.Decoding.{IsSpelled}
use Rattle.dap_msg.specs.Items.{Item, Whole, Malformed}
use Rattle.dap_msg.specs.Message.{Message}
use Rattle.dap_msg.specs.Items.{ItemFits}

pub item_fits : (item : Item) → ((m : Message) → item ≡ Whole m → IsSpelled m) → ItemFits item
item_fits (Whole m) h = h m refl
item_fits (Malformed fault) h = tt
