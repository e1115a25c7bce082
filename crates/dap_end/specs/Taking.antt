-- A server serves all that came, and does all that this lets it do.
use Rattle.std.specs.Prelude.{◌≡◌, ◌⊎◌, ℕ, ◌+◌, ◌<◌, ◌≤◌, []}
use Rattle.nsp_link.specs.declared.fault.LinkFault.TheVariants as fault
use Rattle.nsp_link.specs.Cutting.{total_length}
use Rattle.nsp_link.specs.Sending.{SendAllFault}
use Rattle.dap_end.specs.declared.fault.EndFault.{EndFault}
use Rattle.dap_end.specs.declared.fault.EndFault.TheVariants as end_fault
use Rattle.dap_end.specs.Turns.{EndOf}
use Rattle.dap_accessed.specs.Present.{Present}
use Rattle.dap_end.specs.Ports.{PortValue, HandsOver, bytes_waiting}
use Rattle.dap_end.specs.Serving.{MayServe, ServedOne}
use Rattle.dap_end.specs.Done.{ServingValue}

-- fewer bytes wait than this
abbrev pub HasRoom : (most : ℕ) → PortValue → Type 0
HasRoom most p = bytes_waiting p < most

-- While fewer bytes wait than this, what waits is passed on and the next item is served, again and again.
pub data ServedInTurn (most : ℕ) : ServingValue → ServingValue → Type 0 where
  begins : {v : ServingValue} → ServedInTurn most v v
  goes : {old new : ServingValue} (posted mid : ServingValue) (count n : ℕ)
      → HandsOver old posted count → HasRoom most old.port → ServedOne posted mid n → ServedInTurn most mid new → ServedInTurn most old new

-- all that came is served, or the limit of bytes that wait is reached
abbrev pub RestsAt : (most : ℕ) → ServingValue → Type 0
RestsAt most v = (v.port.link.coming.inbox ≡ []) ⊎ (most ≤ bytes_waiting v.port)

-- why no more is served: what waits is refused; or it is passed on, and then memory to serve the next item is refused
abbrev pub ServeFault : (most : ℕ) → (old new : ServingValue) → EndFault → Type 0
ServeFault most old new (end_fault.Link f) =
    ((new ≡ old) × SendAllFault old.port.link old.port.outbox f)
    ⊎ ((f ≡ fault.NoMemory) × HasRoom most old.port × ((n : ℕ) × HandsOver old new n) × MayServe new)
ServeFault most old new (end_fault.Read f) = ⊥

-- the server as one of the two ends
abbrev pub serves : (most : ℕ) → EndOf Present
serves most = record { on = ServedInTurn most; rests = RestsAt most; halts = ServeFault most; quiet = Unit {0} }

-- No more bytes wait than before; or fewer than the limit and the answers to one item that was served meanwhile.
abbrev pub IsBounded : (most : ℕ) → (old first new : ServingValue) → Type 0
IsBounded most old first new =
    (bytes_waiting new.port ≤ bytes_waiting old.port)
    ⊎ ((last posted mid : ServingValue) × (count n : ℕ) × ServedInTurn most first last × HandsOver last posted count × ServedOne posted mid n
    × (bytes_waiting new.port < most + total_length mid.port.outbox))
