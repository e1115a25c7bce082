-- The DAP messages in an NSP message, as bytes.
use Rattle.std.specs.Prelude.{◌≡◌, ◌≢◌, ℕ, List, [], ◌++◌, map}
use Rattle.dap_msg.specs.Canon.{canon}
use Rattle.dap_end.specs.Histories.{AreFull}
use Rattle.dap_msg.specs.Blocked.{NspMessage, blocked_bytes, all_joined, messages_in, AllFit}

-- whatever messages were joined into these bytes, they are added, each as its bytes
abbrev pub SplitsOne : List ℕ → List (List ℕ) → List (List ℕ) → Type 0
SplitsOne bytes old new =
    (packet : NspMessage) → packet ≢ [] → AllFit packet → bytes ≡ blocked_bytes packet → new ≡ old ++ map canon packet

-- whatever messages were joined into these NSP messages, they are added, each as its bytes
abbrev pub SplitsAll : List (List ℕ) → List (List ℕ) → List (List ℕ) → Type 0
SplitsAll list old new =
    (packets : List NspMessage) → AreFull packets → AllFit (messages_in packets) → list ≡ all_joined packets → new ≡ old ++ map canon (messages_in packets)

-- the messages in these NSP messages are sent too
abbrev pub SentAll : List (List ℕ) → List (List ℕ) → List (List ℕ) → Type 0
SentAll list old new = (more : List (List ℕ)) × (new ≡ old ++ more) × SplitsAll list [] more
