-- What is true of every port and of every end.
use Rattle.std.specs.Prelude.{◌≤◌, ℕ, List, length, All}
use Rattle.dap_msg.specs.declared.items.Item.{Item}
use Rattle.dap_msg.specs.Items.{IsOffset}
use Rattle.nsp_link.specs.Limits.{max_limit}
use Rattle.nsp_link.specs.Link.{LinkValue, SendsStill}
use Rattle.dap_end.specs.Ports.{PortValue}
use Rattle.dap_end.specs.Going.{oldest_message, GoneThrough}

abbrev pub AreMessages : List (List ℕ) → Type 0
AreMessages messages = All (λ m. length m ≤ max_limit) messages

pub record IsPort (p : PortValue) : Type 0 where
  -- the next item begins within the oldest NSP message, or that has no bytes
  pub offset : IsOffset p.offset (oldest_message p.link.coming.inbox)
  -- no NSP message that waits is longer than an end may send
  pub short : AreMessages p.outbox

-- a port, and what came on it as the state of the client or server needs it
pub record IsSoundEnd {P : Type 0} (IsLeft : List (List ℕ) → P → Type 0) (p : PortValue)
    (state : P) : Type 0 where
  pub port : IsPort p
  pub left : IsLeft p.link.coming.inbox state

-- more messages may have come on a link, and what it sends stays
pub record LinkMoved (old new : LinkValue) : Type 0 where
  pub gone : (given : List (List ℕ)) (offset : ℕ) (items : List Item)
      → GoneThrough given old.coming.inbox offset items
      → GoneThrough given new.coming.inbox offset items
  pub sends : SendsStill old new
