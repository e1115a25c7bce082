-- A server with its link, whatever the peer is.
use Rattle.std.specs.Prelude.{◌≡◌, ◌⊎◌, ℕ, ◌<◌, [], ◌∷◌, ◌++◌, length}
use Rattle.dap_msg.specs.Blocked.{AllFit, all_joined}
use Rattle.nsp_link.specs.Link.{Sends}
use Rattle.dap_accessed.specs.Groups.{Answers}
use Rattle.dap_accessed.specs.Present.{StandsAfter}
use Rattle.dap_accessed.specs.declared.fault.AddFault.{AddFault}
use Rattle.dap_accessed.specs.declared.fault.AddFault.TheVariants as fault
use Rattle.dap_end.specs.Ports.{gone_on, HasCome}
use Rattle.dap_end.specs.Going.{processed_after, NextItem, GoneThrough}
use Rattle.dap_end.specs.Done.{ServingValue, ServerHistory, answers_to}

-- The server is as after this history. The items are those of the NSP messages that it served, and of a prefix of the
-- next one. What it passed to its link, and what waits, are the answers to them. The law `serving_ends_stand` says
-- what follows.
pub record IsAfter (history : ServerHistory) (v : ServingValue) : Type 0 where
  pub serving : StandsAfter history.first history.items v.present
  pub gone : GoneThrough history.given v.port.link.coming.inbox v.port.offset history.items
  pub sends : Sends v.port.link history.handed
  pub answers : history.handed ++ v.port.outbox ≡ all_joined (answers_to v.present.setup history.first [] history.items)
  -- each answer has a spelling
  pub fit : AllFit (Answers v.present.setup history.first history.items)

-- ---- Files that the end is given.

-- Why no file or record is added: a segment came, which counts as busy, or the server refuses it.
abbrev pub NotGiven : ServingValue → (Refused : AddFault → Type 0) → AddFault → Type 0
NotGiven v Refused fault.Busy = HasCome v.port ⊎ Refused fault.Busy
NotGiven v Refused f = (HasCome v.port → ⊥) × Refused f

-- ---- Serving.

-- no answer waits, and a message that came isn't served
abbrev pub MayServe : ServingValue → Type 0
MayServe v = (v.port.outbox ≡ []) × (0 < length v.port.link.coming.inbox)

-- The next item of the oldest NSP message was served, and its answers wait.
pub record ServedOne (old new : ServingValue) (n : ℕ) : Type 0 where
  pub idle : old.port.outbox ≡ []
  pub one : NextItem old.port
  pub port : new.port ≡ record (gone_on old.port one.bytes one.later one.next) { outbox = new.port.outbox }
  pub own : new.present.own ≡ old.present.own
  pub setup : new.present.setup ≡ old.present.setup
  pub count : n ≡ length new.port.outbox
  pub past : (history : ServerHistory) → IsAfter history old → IsAfter (record history { given = processed_after history.given one.bytes one.next; items = history.items ++ one.item ∷ [] }) new
