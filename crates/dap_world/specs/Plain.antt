-- The ends of a world are plain ones: each has a BUFSIZ, and of what it says of itself nothing else is asked. These are
-- the definitions of both ends, of such ends.
use Rattle.std.specs.Prelude.{ℕ, List}
use Rattle.dap_msg.specs.BothEnds.{plain_identity}
use Rattle.dap_msg.specs.declared.message.Message.{Message}
use Rattle.dap_msg.specs.declared.items.Item.{Item}
use Rattle.dap_accessed.specs.Setup.{plain_setup}
use Rattle.dap_accessed.specs.Standing.{Files}
use Rattle.dap_accessed.specs.Groups.{GroupedItems}
use Rattle.dap_accessed.specs.Groups as accessed
use Rattle.dap_accessing.specs.Request.{Request}
use Rattle.dap_accessing.specs.declared.fault.AskFault.{AskFault}
use Rattle.dap_accessing.specs.Asked as accessing
use Rattle.dap_accessing.specs.Phase as phase

-- ---- The client.

-- the messages of a request
abbrev pub messages_of : (own : ℕ) → Request → List Message
messages_of own request = accessing.messages_of (plain_identity own) request

-- the messages of all requests, in order
abbrev pub Asked : (own : ℕ) → List Request → List Message
Asked own requests = accessing.Asked (plain_identity own) requests

-- admissible after requests and answers
abbrev pub IsAdmissible : (own : ℕ) → List Request → List Item → Request → Type 0
IsAdmissible own requests answers request = phase.IsAdmissible (plain_identity own) requests answers request

-- why a request isn't asked
abbrev pub IsRefused : (own : ℕ) → List Request → List Item → Request → AskFault → Type 0
IsRefused own requests answers request fault = phase.IsRefused (plain_identity own) requests answers request fault

-- ---- The server.

-- its state after these items, with these files at first
abbrev pub stands_after : (own : ℕ) → Files → List Item → GroupedItems
stands_after own first items = accessed.stands_after (plain_setup own) first items

-- the maximum length of a message to the peer of such a server after these items
abbrev pub limit_for : (own : ℕ) → Files → List Item → ℕ
limit_for own first items = accessed.limit_for (plain_setup own) first items

-- the files after these items
abbrev pub After : (own : ℕ) → Files → List Item → Files
After own first items = accessed.After (plain_setup own) first items

-- the answers to these items, in order
abbrev pub Answers : (own : ℕ) → Files → List Item → List Message
Answers own first items = accessed.Answers (plain_setup own) first items

-- the answers that one more item adds
abbrev pub answers_added : (own : ℕ) → Files → List Item → Item → List Message
answers_added own first items item = accessed.answers_added (plain_setup own) first items item
