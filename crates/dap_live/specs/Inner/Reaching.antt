-- What a client does by an order whose text wants memory.
use Rattle.std.specs.Prelude.{◌≡◌, ◌⊎◌, ℕ, List}
use Rattle.dap_live.specs.declared.ask_orders.AskOrder.{AskOrder}
use Rattle.dap_live.specs.declared.asking.Asking.{Asking}
use Rattle.dap_live.specs.declared.asking.Came.{Came}
use Rattle.dap_live.specs.Asking.{AskingDoes}

-- it is done or it isn't, and nothing is said of it
abbrev pub Reaches : Asking → AskOrder → Asking → Type 0
Reaches old o new = (new ≡ old) ⊎ ((said : List ℕ) × (came : Came) × AskingDoes old o new said came)
