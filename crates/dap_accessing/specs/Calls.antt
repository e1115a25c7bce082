-- What `ask` and `read` do.
use Rattle.std.specs.Prelude.{ℕ, ◌≡◌, ◌≤◌, Bool, true, false, List, [], ◌∷◌, ◌++◌, option_to_list}
use Rattle.dap_msg.specs.declared.items.Item.{Item}
use Rattle.dap_msg.specs.Items.{ItemAt}
use Rattle.dap_msg.specs.Blocked.{Blocked, all_joined}
use Rattle.dap_msg.specs.Sendable.{AreSendable}
use Rattle.dap_msg.specs.BothEnds.{max_nsp_message}
use Rattle.dap_accessing.specs.Request.{Request}
use Rattle.dap_accessing.specs.declared.fault.AskFault.{AskFault}
use Rattle.dap_accessing.specs.declared.fault.AskFault.TheVariants as ask_fault
use Rattle.dap_accessing.specs.declared.fault.ReadStep.{ReadStep}
use Rattle.dap_accessing.specs.declared.fault.ReadFault.{ReadFault}
use Rattle.dap_accessing.specs.declared.fault.ReadFault.TheVariants as read_fault
use Rattle.dap_accessing.specs.Asked.{messages_of}
use Rattle.dap_accessing.specs.Told.{Told, is_unexpected}
use Rattle.dap_accessing.specs.Phase.{limit_after, IsAdmissible, IsRefused}
use Rattle.dap_accessing.specs.Present.{ClientState, ClientAfter, failed_after}

-- the request is admissible after any requests and answers that leave this client
abbrev pub IsAdmittedBy : ClientState → Request → Type 0
IsAdmittedBy old request =
    (requests : List Request) (answers : List Item) → ClientAfter requests answers old → IsAdmissible old.identity requests answers request

-- The request is asked: it is admissible, these NSP messages are its messages, joined within the peer's limit, and
-- the client is as after this request too. No report is added.
pub record AsksRequest (request : Request) (old new : ClientState)
    (messages : List (List ℕ)) : Type 0 where
  pub works : old.failed ≡ false
  pub still_works : new.failed ≡ false
  pub admissible : IsAdmittedBy old request
  pub limit : ℕ
  pub is_limit : (requests : List Request) (answers : List Item) → ClientAfter requests answers old → limit ≡ limit_after (Told requests answers)
  pub most : limit ≤ max_nsp_message
  pub sendable : AreSendable limit (messages_of old.identity request)
  pub spelled : messages ≡ all_joined (Blocked limit (messages_of old.identity request))
  pub stands : (requests : List Request) (answers : List Item) → ClientAfter requests answers old → ClientAfter (requests ++ request ∷ []) answers new
  -- asking alone adds no report
  pub told : (requests : List Request) (answers : List Item) → ClientAfter requests answers old →
      Told (requests ++ request ∷ []) answers ≡ Told requests answers

-- Why a request isn't asked: the client had failed, or the reason of `IsRefused`.
abbrev pub AskRefused : Request → ClientState → AskFault → Type 0
AskRefused request old ask_fault.Failed = old.failed ≡ true
AskRefused request old fault =
    (old.failed ≡ false)
    × ((requests : List Request) (answers : List Item) → ClientAfter requests answers old → IsRefused old.identity requests answers request fault)

-- The answer at this offset was read: it was expected, and the report is the one that it adds, if any.
pub record Reads (bytes : List ℕ) (at : ℕ) (old new : ClientState) (read : ReadStep) : Type 0 where
  pub works : old.failed ≡ false
  pub still_works : new.failed ≡ false
  pub answer : Item
  pub reads : ItemAt bytes at answer read.next
  pub expected : (requests : List Request) (answers : List Item) → ClientAfter requests answers old → is_unexpected requests answers answer ≡ false
  pub stands : (requests : List Request) (answers : List Item) → ClientAfter requests answers old → ClientAfter requests (answers ++ answer ∷ []) new
  pub told : (requests : List Request) (answers : List Item) → ClientAfter requests answers old →
      Told requests (answers ++ answer ∷ []) ≡ Told requests answers ++ option_to_list read.report

-- the answer at this offset is unexpected, or it isn't, after any requests and answers that leave this client
abbrev pub IsThere : List ℕ → ℕ → ClientState → (unexpected : Bool) → Type 0
IsThere bytes at old unexpected =
    (answer : Item) × (next : ℕ) × ItemAt bytes at answer next
    × ((requests : List Request) (answers : List Item) → ClientAfter requests answers old → is_unexpected requests answers answer ≡ unexpected)

-- Why an answer isn't read, and the client then. It had failed before; or memory was refused, and nothing has
-- changed; or the answer is unexpected, and the client has failed from now on.
abbrev pub ReadRefused : List ℕ → ℕ → ClientState → ClientState → ReadFault → Type 0
ReadRefused bytes at old new read_fault.Failed = (old.failed ≡ true) × (new ≡ old)
ReadRefused bytes at old new read_fault.NoMemory = (old.failed ≡ false) × (new ≡ old) × IsThere bytes at old false
ReadRefused bytes at old new read_fault.Unexpected = (old.failed ≡ false) × (new.failed ≡ true) × (new ≡ failed_after old) × IsThere bytes at old true
