-- An end, and its history on its link, of which it stores nothing.
use Rattle.std.specs.Prelude.{ℕ, List, [], ◌∷◌, ◌++◌}
use Rattle.dap_msg.specs.declared.items.Item.{Item}
use Rattle.dap_msg.specs.Blocked.{NspMessage, Blocked}
use Rattle.dap_accessed.specs.declared.setup.ServerSetup.{ServerSetup}
use Rattle.dap_accessed.specs.Standing.{Files}
use Rattle.dap_accessed.specs.Groups.{answers_added, limit_for}
use Rattle.dap_accessed.specs.Present as accessed
use Rattle.dap_accessing.specs.Present as accessing
use Rattle.dap_accessing.specs.Request.{Request}
use Rattle.dap_end.specs.Ports.{EndValue}

-- ---- The server.

-- a server with its link
abbrev pub ServingValue : Type 0
ServingValue = EndValue accessed.Present

-- the history of a server
pub record ServerHistory : Type 0 where
  pub first : Files  -- the files that it had at first
  pub given : List (List ℕ)  -- the NSP messages that it served whole
  pub items : List Item  -- what it served: messages, or the rest of an NSP message of which none can be read
  pub handed : List (List ℕ)  -- the NSP messages with its answers that were handed to its link

-- the history of a new server with these files
abbrev pub nothing_yet : Files → ServerHistory
nothing_yet first = record { first = first; given = []; items = []; handed = [] }

-- the answers to each item, joined within the peer's limit
abbrev pub answers_to : (own : ServerSetup) → Files → (before items : List Item) → List NspMessage
answers_to own first before [] = []
answers_to own first before (item ∷ items) =
    Blocked (limit_for own first before) (answers_added own first before item) ++ answers_to own first (before ++ item ∷ []) items

-- ---- The client.

-- a client with its link
abbrev pub AskingValue : Type 0
AskingValue = EndValue accessing.ClientState

-- the history of a client
pub record ClientHistory : Type 0 where
  pub requests : List Request  -- what was asked
  pub asked : List NspMessage  -- the NSP messages of the requests
  pub handed : List (List ℕ)  -- those that were handed to its link
  pub given : List (List ℕ)  -- the NSP messages that it read whole
  pub answers : List Item  -- what it read

-- the history of a new client
abbrev pub nothing_asked : ClientHistory
nothing_asked = record { requests = []; asked = []; handed = []; given = []; answers = [] }
