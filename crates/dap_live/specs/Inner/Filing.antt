-- What a node is given, in the steps of its functions.
use Rattle.std.specs.Prelude.{◌≡◌, false, ℕ, List, [], length, MatchOption, Option, Some, None, replicate}
use Rattle.nsp_link.specs.declared.link.LinkSetup.{LinkSetup}
use Rattle.dap_accessed.specs.declared.asked.Asked.{Asked}
use Rattle.dap_accessed.specs.declared.fault.AddFault.{AddFault}
use Rattle.dap_accessed.specs.declared.fault.AddFault.TheVariants as add
use Rattle.dap_accessed.specs.declared.setup.ServerSetup.{ServerSetup}
use Rattle.dap_shared.specs.Shared.{NotAdded, RecordNotAdded, SharedAfter}
use Rattle.dap_end.specs.Node.{NodeNotGiven, NodeValue}
use Rattle.linewise.specs.declared.talking.Became.{Became}
use Rattle.dap_live.specs.declared.node.Node.{Node}
use Rattle.dap_live.specs.Texts.{add_refusal}
use Rattle.dap_live.specs.Both.{DoneOr}
use Rattle.dap_live.specs.Node.{GivesFile, GivesRecordTo}

-- a node without files and links
pub record HasNoBytes (own : ServerSetup) (links : ℕ) (usual : LinkSetup) (most : ℕ) (node : Node) : Type 0 where
  pub stands : SharedAfter [] [] node.node.noted.shared
  pub setup : node.node.noted.shared.setup ≡ own
  pub sessions : length node.node.noted.shared.sessions ≡ links
  pub locked : node.node.noted.locked ≡ []
  pub addresses : node.node.noted.addresses ≡ replicate links 0
  pub ports : node.node.ports ≡ replicate links None
  pub its : node.own ≡ own
  pub is_usual : node.usual ≡ usual
  pub most_waiting : node.most_waiting ≡ most
  pub last : node.last ≡ None
  pub used : node.used ≡ replicate links false
  pub given : node.given ≡ None

-- a file is added as it is asked for while no link is used, or the reason why not is reported
abbrev pub AddsNewTo : Node → (name : List ℕ) → Asked → Node → List ℕ → Became → Type 0
AddsNewTo old name asked new text became =
    DoneOr (λ became. became) (GivesFile name asked old new)
    (NodeNotGiven old.node (NotAdded old.node.noted.shared.setup.names old.node.noted.shared.files name)) add_refusal old new text became

-- a record was added to the file of this name, if there is one
abbrev pub GivesRecordBy : Option (List ℕ) → (number : ℕ) → (body : List ℕ) → NodeValue → NodeValue → Type 0
GivesRecordBy given number body old new = (name : List ℕ) × (given ≡ Some name) × GivesRecordTo name number body old new

-- why none was
abbrev pub RecordNotBy : Option (List ℕ) → NodeValue → (number : ℕ) → (body : List ℕ) → AddFault → Type 0
RecordNotBy given node number body f =
    MatchOption given (f ≡ add.NoFile) (λ name. NodeNotGiven node (RecordNotAdded node.noted.shared name number body) f)
