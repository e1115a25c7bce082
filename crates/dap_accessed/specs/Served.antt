-- What `serve` does.
use Rattle.std.specs.Prelude.{ℕ, ◌≡◌, ◌≤◌, true, List, [], ◌∷◌, ◌++◌, length}
use Rattle.std.specs.List.{AllByRecursion}
use Rattle.std.specs.Global.{Vec}
use Rattle.dap_msg.specs.declared.message.Message.{Message}
use Rattle.dap_msg.specs.declared.items.Item.{Item}
use Rattle.dap_msg.specs.Items.{ItemAt}
use Rattle.dap_msg.specs.Blocked.{Blocked, all_joined, bodies, AllFit}
use Rattle.dap_msg.specs.BothEnds.{max_nsp_message}
use Rattle.dap_accessed.specs.declared.setup.ServerSetup.{ServerSetup}
use Rattle.dap_accessed.specs.declared.served.Served.{Served}
use Rattle.dap_accessed.specs.Standing.{Files}
use Rattle.dap_accessed.specs.Past.{is_filedata, is_dropping}
use Rattle.dap_accessed.specs.Groups.{stands_after, limit_for, answers_added}
use Rattle.dap_accessed.specs.Present.{Present, StandsAfter}

-- each is within the limit
abbrev pub AllAtMost : ℕ → List (List ℕ) → Type 0
AllAtMost limit list = AllByRecursion (λ bytes. length bytes ≤ limit) list

-- NSP messages with these messages, each of which has a spelling, joined as far as the limit goes, and none longer than
-- it
pub record AreAnswers (limit : ℕ) (messages : List Message) (answers : Vec (Vec ℕ)) : Type 0 where
  pub bytes : bodies answers.items ≡ all_joined (Blocked limit messages)
  pub within : AllAtMost limit (bodies answers.items)
  pub fits : AllFit messages

-- The item at this offset was served. Whatever items left the server before, it is as after those and this one, and
-- its answers are those that the item adds, joined within the peer's limit. Each has a spelling, and no NSP message
-- of them is longer than that limit.
pub record ServesItemAt (bytes : List ℕ) (at : ℕ) (old new : Present) (served : Served) : Type 0 where
  pub item : Item
  pub reads : ItemAt bytes at item served.next
  pub limit : ℕ
  pub is_limit : (first : Files) (items : List Item) → StandsAfter first items old → limit ≡ limit_for old.setup first items
  pub most : limit ≤ max_nsp_message
  pub stands : (first : Files) (items : List Item) → StandsAfter first items old → StandsAfter first (items ++ item ∷ []) new
  pub answers : (first : Files) (items : List Item) → StandsAfter first items old →
      bodies served.answers.items ≡ all_joined (Blocked limit (answers_added old.setup first items item))
  pub fits : (first : Files) (items : List Item) → StandsAfter first items old → AllFit (answers_added old.setup first items item)
  pub within : AllAtMost limit (bodies served.answers.items)
  pub same_own : new.own ≡ old.own
  pub same_setup : new.setup ≡ old.setup

-- an item without an answer, that is no Data message which is stored: it is never out of memory
abbrev pub IsSilent : (own : ServerSetup) → Files → List Item → Item → Type 0
IsSilent own first items item =
    (answers_added own first items item ≡ []) × (is_filedata item ≡ true → is_dropping (stands_after own first items).standing.past ≡ true)
