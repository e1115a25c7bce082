-- A node: several links, each with its port, before one table of files.
use Rattle.std.specs.Prelude.{◌≡◌, ◌≢◌, ◌⊎◌, ℕ, ◌==◌, ◌&&◌, Bool, true, false, List, [], set, slice_get, Option, Some, None}
use Rattle.nsp_link.specs.declared.link.LinkSetup.{LinkSetup}
use Rattle.nsp_link.specs.declared.fault.LinkFault.{LinkFault}
use Rattle.nsp_link.specs.declared.fault.LinkFault.TheVariants.{BadSetup, NoMemory}
use Rattle.nsp_link.specs.Link.{IsSetup}
use Rattle.rec_file.specs.declared.picks.Rights.{Rights}
use Rattle.dap_accessed.specs.Setup.{all_rights}
use Rattle.dap_shared.specs.Shared.{SharedBegins}
use Rattle.dap_shared.specs.Noted.{NotedServed, NotedValue}
use Rattle.dap_accessed.specs.declared.fault.AddFault.{AddFault}
use Rattle.dap_accessed.specs.declared.fault.AddFault.TheVariants as fault
use Rattle.dap_end.specs.Ports.{EndValue, HasCome, PortValue, new_port}
use Rattle.dap_end.specs.Turns.{EndOf}
use Rattle.dap_end.specs.By.{serves_by}

-- what is kept of all exchanges, the address of each link, what was noted of locks, and the port of each link that is
-- there
pub record NodeValue : Type 0 where
  pub noted : NotedValue
  pub ports : List (Option PortValue)

-- a link of a node: its port, before all exchanges
abbrev pub NodeLinkValue : Type 0
NodeLinkValue = EndValue NotedValue

-- what serves a link, as one of the two ends: while fewer bytes of its answers wait than this
abbrev pub serves_on : (link : ℕ) → (most : ℕ) → EndOf NotedValue
serves_on link most = serves_by (NotedServed link) most

-- the link is there, with this port
abbrev pub HasPort : (link : ℕ) → NodeValue → PortValue → Type 0
HasPort link v port = slice_get v.ports link ≡ Some (Some port)

-- the link is there, and of its port this is true
abbrev pub AtPort : (link : ℕ) → NodeValue → (Says : PortValue → Type 0) → Type 0
AtPort link v Says = (p : PortValue) × HasPort link v p × Says p

-- ---- Which link it is.

-- the link is there, and this is its local address
abbrev pub has_local : (local : ℕ) → Option PortValue → Bool
has_local local None = false
has_local local (Some p) = p.link.setup.local == local

-- the link is there, and these are its local address and its peer's
abbrev pub is_between : (local remote : ℕ) → Option PortValue → Bool
is_between local remote None = false
is_between local remote (Some p) = (p.link.setup.local == local) && (p.link.setup.remote == remote)

-- another link has this local address
abbrev pub IsTaken : (link local : ℕ) → NodeValue → Type 0
IsTaken link local v = (other : ℕ) × (p : PortValue) × HasPort other v p × (p.link.setup.local ≡ local) × (other ≢ link)

-- the link isn't there
abbrev pub is_free_link : Option PortValue → Bool
is_free_link None = true
is_free_link (Some p) = false

-- ---- What becomes of it.

-- what was noted is forgotten
abbrev pub without_notes : NotedValue → NotedValue
without_notes v = record v { locked = [] }

-- Older notes were forgotten, the link moved so, and every other port stayed.
pub record OnLink (link : ℕ) (Does : NodeLinkValue → NodeLinkValue → Type 0) (old new : NodeValue) : Type 0 where
  pub before : PortValue
  pub after : PortValue
  pub there : HasPort link old before
  pub does : Does (record { port = before; present = without_notes old.noted }) (record { port = after; present = new.noted })
  pub ports : new.ports ≡ set old.ports link (Some after)

-- The link has this address, and nothing else changed of the addresses and the notes.
pub record HasAddress (link : ℕ) (address : ℕ) (old new : NotedValue) : Type 0 where
  pub addresses : new.addresses ≡ set old.addresses link address
  pub locked : new.locked ≡ old.locked

-- The link began anew with this setup and these rights, and every other port stayed: what was open on it is closed.
pub record BeganOn (link : ℕ) (setup : LinkSetup) (most : Rights) (old new : NodeValue) : Type 0 where
  pub shared : SharedBegins link most old.noted.shared new.noted.shared
  pub address : HasAddress link setup.local old.noted new.noted
  pub ports : new.ports ≡ set old.ports link (Some (new_port setup))

-- Why a link doesn't begin: a limit of its setup isn't in its range, or another link has its local address; or memory
-- is refused.
abbrev pub NotBegun : (link : ℕ) → LinkSetup → NodeValue → LinkFault → Type 0
NotBegun link setup v f =
    ((f ≡ BadSetup) × ((IsSetup setup → ⊥) ⊎ IsTaken link setup.local v))
    ⊎ ((f ≡ NoMemory) × IsSetup setup × (IsTaken link setup.local v → ⊥))

-- The link ended, and every other port stayed. The address of a link that ended is 0, and its rights are all.
pub record EndedOn (link : ℕ) (old new : NodeValue) : Type 0 where
  pub shared : SharedBegins link all_rights old.noted.shared new.noted.shared
  pub address : HasAddress link 0 old.noted new.noted
  pub ports : new.ports ≡ set old.ports link None

-- ---- Files that a node is given.

-- no segment came on any link
abbrev pub NoneHasCome : List (Option PortValue) → Type 0
NoneHasCome ports = (link : ℕ) (p : PortValue) → slice_get ports link ≡ Some (Some p) → HasCome p → ⊥

-- a segment came on a link
abbrev pub SomeHasCome : List (Option PortValue) → Type 0
SomeHasCome ports = (link : ℕ) × (p : PortValue) × (slice_get ports link ≡ Some (Some p)) × HasCome p

-- Why no file or record is added: a segment came, which counts as busy, or the table refuses it.
abbrev pub NodeNotGiven : NodeValue → (Refused : AddFault → Type 0) → AddFault → Type 0
NodeNotGiven v Refused fault.Busy = SomeHasCome v.ports
NodeNotGiven v Refused f = NoneHasCome v.ports × Refused f
