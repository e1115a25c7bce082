-- What the fields of a node stand for, and what is true of them.
use Rattle.std.specs.Prelude.{ℕ, ◌≡◌, List, length, Option, Some, None, set, slice_get, refl}
use Rattle.std.specs.Coded.{Coded, code_by, coded×, coded_list, coded_option}
use Rattle.dap_shared.specs.Noted.{NotedValue}
use Rattle.dap_shared.specs.Stored.{noted_code}
use Rattle.dap_end.specs.contracts.port.Port as port_type
use Rattle.dap_end.specs.Ports.{PortValue}
use Rattle.dap_end.specs.Node.{NodeValue}
use Rattle.dap_end.specs.Inner.Kept.{IsPort}

abbrev pub node_code : Coded NodeValue
node_code =
    code_by (NotedValue × List (Option PortValue)) (coded× noted_code (coded_list (coded_option port_type.the_row.coded)))
    (λ v. (v.noted, v.ports))
    (λ p. record { noted = p.0; ports = p.1 })
    (λ _. refl)

-- At each local address the table has the link that has it, or none.
pub record IsTable (table : List (Option ℕ)) (ports : List (Option PortValue)) : Type 0 where
  pub whole : length table ≡ 65536
  pub listed : (link : ℕ) (p : PortValue) → slice_get ports link ≡ Some (Some p) → slice_get table p.link.setup.local ≡ Some (Some link)
  pub there : (local link : ℕ) → slice_get table local ≡ Some (Some link) → (p : PortValue) × (slice_get ports link ≡ Some (Some p)) × (p.link.setup.local ≡ local)

-- a table without the local address of a link, where that is there
abbrev pub unlisted : Option PortValue → List (Option ℕ) → List (Option ℕ)
unlisted None table = table
unlisted (Some p) table = set table p.link.setup.local None

-- what is true of a node, with the table of its local addresses
pub record IsNode (by_local : List (Option ℕ)) (v : NodeValue) : Type 0 where
  pub links : length v.ports ≡ length v.noted.shared.sessions
  pub ports : (link : ℕ) (p : PortValue) → slice_get v.ports link ≡ Some (Some p) → IsPort p
  pub table : IsTable by_local v.ports
