-- What a node does by an order whose text wants memory.
use Rattle.std.specs.Prelude.{◌⊎◌, ℕ, List}
use Rattle.linewise.specs.declared.talking.Became.{Became}
use Rattle.dap_live.specs.declared.node.Node.{Node}
use Rattle.dap_live.specs.declared.node_orders.NodeOrder.{NodeOrder}
use Rattle.dap_live.specs.Node.{NodeDoes, IsNotDone}

-- this is done, with some text
abbrev pub IsDoneWithText : (List ℕ → Became → Type 0) → Type 0
IsDoneWithText This = (said : List ℕ) × (became : Became) × This said became

-- it is done or it isn't, and nothing is said of it
abbrev pub NodeReaches : Node → NodeOrder → Node → Type 0
NodeReaches old o new = IsNotDone old o new ⊎ IsDoneWithText (NodeDoes old o new)
