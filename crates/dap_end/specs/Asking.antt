-- A client with its link, whatever the peer is.
use Rattle.std.specs.Prelude.{◌≡◌, ◌≢◌, ◌⊎◌, ℕ, List, [], ◌∷◌, ◌++◌, length, true, false, Option, option_map, option_to_list}
use Rattle.std.specs.List.{AllByRecursion}
use Rattle.dap_msg.specs.Blocked.{AllFit, all_joined, messages_in}
use Rattle.nsp_link.specs.Link.{Sends}
use Rattle.dap_accessing.specs.Present.{ClientAfter}
use Rattle.dap_accessing.specs.Asked.{Asked}
use Rattle.dap_accessing.specs.Request.{Request}
use Rattle.dap_accessing.specs.declared.report.Report.{Report}
use Rattle.dap_accessing.specs.declared.fault.ReadFault.{ReadFault}
use Rattle.dap_accessing.specs.Told.{Told, is_unexpected}
use Rattle.dap_accessing.specs.Calls.{AsksRequest, ReadRefused}
use Rattle.dap_end.specs.Ports.{gone_on}
use Rattle.dap_end.specs.Going.{processed_after, NextItem, GoneThrough}
use Rattle.dap_accessing.specs.Each.{IsBatch, reported_after}
use Rattle.dap_end.specs.Done.{AskingValue, ClientHistory}
use Rattle.dap_end.specs.Each.{with_told}

-- The client is as after this history: it waits for what is due after these requests and answers. The answers are
-- those of the NSP messages that it read, and of a prefix of the next one. What it passed to its link, and what
-- waits, are the messages of the requests. The law `asking_ends_stand` says what follows.
pub record HasAsked (history : ClientHistory) (v : AskingValue) : Type 0 where
  pub asking : ClientAfter history.requests history.answers v.present
  pub gone : GoneThrough history.given v.port.link.coming.inbox v.port.offset history.answers
  pub sends : Sends v.port.link history.handed
  pub messages : messages_in history.asked ≡ Asked v.present.identity history.requests
  pub waiting : history.handed ++ v.port.outbox ≡ all_joined history.asked
  -- each message has a spelling, and no NSP message is without one
  pub fit : AllFit (messages_in history.asked)
  pub full : AllByRecursion (λ packet. packet ≢ []) history.asked

-- the client is as after some history, or an unexpected answer failed it after one
abbrev pub HasDone : AskingValue → Type 0
HasDone v =
    ((history : ClientHistory) × HasAsked history v)
    ⊎ ((v.present.failed ≡ true) × ((handed : List (List ℕ)) × Sends v.port.link handed))

-- ---- Asking.

-- The request was asked: its messages, n NSP messages, wait.
pub record AskedOne (request : Request) (old new : AskingValue) (n : ℕ) : Type 0 where
  pub messages : List (List ℕ)
  pub asks : AsksRequest request old.present new.present messages
  pub own : new.present.own ≡ old.present.own
  pub identity : new.present.identity ≡ old.present.identity
  pub port : new.port ≡ record old.port { outbox = old.port.outbox ++ messages }
  pub count : n ≡ length messages

-- ---- Reading.

-- The next item of the oldest NSP message was read. It was expected, and the report is the one that it adds.
pub record ReadOne (old new : AskingValue) (report : Option Report) : Type 0 where
  pub works : old.present.failed ≡ false
  pub still_works : new.present.failed ≡ false
  pub one : NextItem old.port
  pub port : new.port ≡ gone_on old.port one.bytes one.later one.next
  pub own : new.present.own ≡ old.present.own
  pub identity : new.present.identity ≡ old.present.identity
  pub expected : (history : ClientHistory) → HasAsked history old → is_unexpected history.requests history.answers one.item ≡ false
  pub past : (history : ClientHistory) → HasAsked history old → HasAsked (record history { given = processed_after history.given one.bytes one.next; answers = history.answers ++ one.item ∷ [] }) new
  pub told : (history : ClientHistory) → HasAsked history old → Told history.requests (history.answers ++ one.item ∷ []) ≡ Told history.requests history.answers ++ option_to_list report
  -- While a batch is under way of which records were taken out, these count, but the report comes without them.
  pub past_on : (told : List (ℕ × List ℕ)) (history : ClientHistory) → IsBatch old.present → HasAsked history (with_told told old) → HasAsked (record history { given = processed_after history.given one.bytes one.next; answers = history.answers ++ one.item ∷ [] }) (with_told told new)
  pub told_on : (told : List (ℕ × List ℕ)) (history : ClientHistory) → IsBatch old.present → HasAsked history (with_told told old) → Told history.requests (history.answers ++ one.item ∷ []) ≡ Told history.requests history.answers ++ option_to_list (option_map (reported_after told) report)

-- why nothing was read, and the client then: after an unexpected answer it has failed
pub record ReadNone (old new : AskingValue) (f : ReadFault) : Type 0 where
  pub bytes : List ℕ
  pub later : List (List ℕ)
  pub came : old.port.link.coming.inbox ≡ bytes ∷ later
  pub port : new.port ≡ old.port
  pub own : new.present.own ≡ old.present.own
  pub identity : new.present.identity ≡ old.present.identity
  pub refused : ReadRefused bytes old.port.offset old.present new.present f
