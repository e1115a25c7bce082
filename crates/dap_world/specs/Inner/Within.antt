-- Messages, and the limit that an end knows, within a buffer.
use Rattle.std.specs.Prelude.{ℕ, ◌≡◌, ◌≤◌, List, [], ◌∷◌, ◌++◌, length}
use Rattle.dap_msg.specs.declared.message.Message.{Message}
use Rattle.dap_msg.specs.Canon.{canon}
use Rattle.dap_msg.specs.declared.items.Item.{Item}
use Rattle.dap_world.specs.Plain.{limit_for}
use Rattle.dap_accessing.specs.Request.{Request}
use Rattle.dap_world.specs.Agreement.{items_of}

-- each message of a request is no longer than the other end takes
abbrev pub AreWithin : ℕ → List Message → Type 0
AreWithin limit [] = Unit {0}
AreWithin limit (m ∷ messages) = (length (canon m) ≤ limit) × AreWithin limit messages

-- after any prefix of what the server is sent, the limit that it knows of its peer is no more than the peer's BUFSIZ
abbrev pub LimitWithin : (own_a own_b : ℕ) → List Request → Type 0
LimitWithin own_a own_b requests =
    (front back : List Item) → front ++ back ≡ items_of own_a requests → limit_for own_b [] front ≤ own_a
