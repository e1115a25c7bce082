-- What may be sent to an end that takes messages of at most limit bytes.
use Rattle.std.specs.Prelude.{ℕ, ◌≤◌, List, length}
use Rattle.std.specs.List.{AllByRecursion}
use Rattle.dap_msg.specs.Message.{Message}
use Rattle.dap_msg.specs.Canon.{canon, Fits}

-- a message has a closed spelling, and its canonical one is within the limit
abbrev pub IsSendable : ℕ → Message → Type 0
IsSendable limit m = Fits m × (length (canon m) ≤ limit)

-- each of these may be sent
abbrev pub AreSendable : ℕ → List Message → Type 0
AreSendable limit messages = AllByRecursion (IsSendable limit) messages
