-- A history with one item or request more.
use Rattle.std.specs.Prelude.{◌≢◌, ℕ, List, [], ◌∷◌, ◌++◌}
use Rattle.std.specs.List.{AllByRecursion}
use Rattle.dap_msg.specs.declared.message.Configuration.{Configuration}
use Rattle.dap_msg.specs.declared.items.Item.{Item}
use Rattle.dap_msg.specs.Blocked.{NspMessage, Blocked}
use Rattle.dap_accessing.specs.Request.{Request}
use Rattle.dap_accessing.specs.Asked.{messages_of}
use Rattle.dap_accessing.specs.Told.{Told}
use Rattle.dap_accessing.specs.Phase.{limit_after}
use Rattle.dap_end.specs.Going.{processed_after}
use Rattle.dap_end.specs.Done.{ServerHistory}
use Rattle.dap_end.specs.Done.{ClientHistory}

-- every history that fits the first end fits the second
abbrev pub Still : {P V : Type 0} → (Fits : P → V → Type 0) → (old new : V) → Type 0
Still {P} Fits old new = (history : P) → Fits history old → Fits history new

-- a server's, with one more item
abbrev pub history_after_item : ServerHistory → (bytes : List ℕ) → Item → (next : ℕ) → ServerHistory
history_after_item history bytes item next = record history { given = processed_after history.given bytes next; items = history.items ++ item ∷ [] }

-- a client's, with one more answer
abbrev pub with_answer_read : ClientHistory → (bytes : List ℕ) → Item → (next : ℕ) → ClientHistory
with_answer_read history bytes item next = record history { given = processed_after history.given bytes next; answers = history.answers ++ item ∷ [] }

-- a client's, with one more request
abbrev pub asked_one : ClientHistory → (own : Configuration) → Request → ClientHistory
asked_one history own request =
    record history {
      requests = history.requests ++ request ∷ [];
      asked = history.asked ++ Blocked (limit_after (Told history.requests history.answers)) (messages_of own request);
    }

-- no NSP message is empty
abbrev pub AreFull : List NspMessage → Type 0
AreFull packets = AllByRecursion (λ packet. packet ≢ []) packets
