-- Serving by whatever serves: a server of one link, or one link's of several.
use Rattle.std.specs.Prelude.{◌≡◌, ◌⊎◌, ℕ, ◌<◌, ◌≤◌, List, [], length}
use Rattle.nsp_link.specs.declared.fault.LinkFault.TheVariants as fault
use Rattle.nsp_link.specs.Sending.{SendAllFault}
use Rattle.dap_msg.specs.Blocked.{bodies}
use Rattle.dap_accessed.specs.declared.served.Served.{Served}
use Rattle.dap_end.specs.declared.fault.EndFault.{EndFault}
use Rattle.dap_end.specs.declared.fault.EndFault.TheVariants as end_fault
use Rattle.dap_end.specs.Ports.{EndValue, PortValue, HandsOver, bytes_waiting, gone_on}
use Rattle.dap_end.specs.Going.{NextItem}
use Rattle.dap_end.specs.Taking.{HasRoom}
use Rattle.dap_end.specs.Turns.{EndOf}

-- how an item at an offset of an NSP message is served
abbrev pub ServesAt : Type 0 → Type 1
ServesAt P = List ℕ → ℕ → P → P → Served → Type 0

-- The next item of the oldest NSP message was served so, and its answers wait.
pub record ServedBy {P : Type 0} (serves : ServesAt P) (old new : EndValue P) (n : ℕ) : Type 0 where
  pub idle : old.port.outbox ≡ []
  pub one : NextItem old.port
  pub served : Served
  pub by : serves one.bytes old.port.offset old.present new.present served
  pub next : served.next ≡ one.next
  pub within : one.next ≤ length one.bytes
  pub port : new.port ≡ record (gone_on old.port one.bytes one.later one.next) { outbox = bodies served.answers.items }
  pub count : n ≡ length new.port.outbox

-- no answer waits, and a message that came isn't served
abbrev pub MayServeAt : PortValue → Type 0
MayServeAt p = (p.outbox ≡ []) × (0 < length p.link.coming.inbox)

-- While fewer bytes wait than this, what waits is passed on and the next item is served, again and again.
pub data TurnsBy {P : Type 0} (serves : ServesAt P) (most : ℕ) : EndValue P → EndValue P → Type 0 where
  no_turn : {v : EndValue P} → TurnsBy serves most v v
  one_turn : {old new : EndValue P} (posted mid : EndValue P) (count n : ℕ)
      → HandsOver old posted count → HasRoom most old.port → ServedBy serves posted mid n → TurnsBy serves most mid new → TurnsBy serves most old new

-- all that came is served, or the limit of bytes that wait is reached
abbrev pub PortRests : (most : ℕ) → PortValue → Type 0
PortRests most p = (p.link.coming.inbox ≡ []) ⊎ (most ≤ bytes_waiting p)

-- why no more is served: what waits is refused; or it is passed on, and then memory to serve the next item is refused
abbrev pub HaltsBy : {P : Type 0} → (most : ℕ) → (old new : EndValue P) → EndFault → Type 0
HaltsBy most old new (end_fault.Link f) =
    ((new ≡ old) × SendAllFault old.port.link old.port.outbox f)
    ⊎ ((f ≡ fault.NoMemory) × HasRoom most old.port × ((n : ℕ) × HandsOver old new n) × MayServeAt new.port)
HaltsBy most old new (end_fault.Read f) = ⊥

-- what serves so, as one of the two ends
abbrev pub serves_by : {P : Type 0} → ServesAt P → (most : ℕ) → EndOf P
serves_by serves most =
    record { on = TurnsBy serves most; rests = λ v. PortRests most v.port; halts = HaltsBy most; quiet = Unit {0} }

-- a port and what serves
abbrev pub end_with : {P : Type 0} → PortValue → P → EndValue P
end_with port present = record { port = port; present = present }
