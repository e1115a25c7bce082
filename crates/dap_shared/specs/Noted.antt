-- Files of several links, which have addresses. Each Access that is refused, as its file is locked, is noted by the
-- lowest address of a link that locks it out.
use Rattle.std.specs.Prelude.{ℕ, ◌≡◌, ◌<◌, ◌≤◌, ◌++◌, Bool, false, IsTrue, List, length, get_or, Option, Some, None}
use Rattle.std.specs.Option.{option_to_list}
use Rattle.std.specs.Global.{Vec}
use Rattle.dap_msg.specs.Items.{ItemAt}
use Rattle.dap_msg.specs.declared.items.Item.{Item}
use Rattle.dap_accessed.specs.declared.setup.ServerSetup.{ServerSetup}
use Rattle.dap_accessed.specs.Standing.{Files}
use Rattle.dap_accessed.specs.declared.served.Served.{Served}
use Rattle.dap_shared.specs.Nodes.{Event, Node, locks_out, node_after}
use Rattle.dap_shared.specs.Shared.{SharedAfter, SharedServes, SharedValue}

-- what is kept of all links, and what was noted
pub record NotedValue : Type 0 where
  pub shared : SharedValue
  -- of each link
  pub addresses : List ℕ
  -- of each Access that was refused so, in their order
  pub locked : List ℕ

-- the lowest number of those that pass a test, of this many; none where none passes
abbrev pub LeastOf : (test : ℕ → Bool) → (number : ℕ → ℕ) → (count : ℕ) → Option ℕ → Type 0
LeastOf test number count None = (i : ℕ) → i < count → test i ≡ false
LeastOf test number count (Some n) =
    ((i : ℕ) × (i < count) × IsTrue (test i) × (n ≡ number i)) × ((i : ℕ) → i < count → IsTrue (test i) → n ≤ number i)

-- the lowest address of a link that locks an item out
abbrev pub IsLowest : (own : ServerSetup) → (addresses : List ℕ) → (link : ℕ) → Node → Item → Option ℕ → Type 0
IsLowest own addresses link node item =
    LeastOf (λ other. locks_out own other link node item) (λ other. get_or addresses other 0) (length addresses)

-- An item of a link was served. The address of a link that locks it out is noted, if any does.
pub record NotedServes (link : ℕ) (item : Item) (old new : NotedValue) (answers : Vec (Vec ℕ)) : Type 0 where
  pub shared : SharedServes link item old.shared new.shared answers
  pub noted : (first : Files) (events : List Event) → SharedAfter first events old.shared
      → (lowest : Option ℕ) × IsLowest old.shared.setup old.addresses link (node_after old.shared.setup first (length old.shared.sessions) events) item lowest
      × (new.locked ≡ old.locked ++ option_to_list lowest)
  pub same_addresses : new.addresses ≡ old.addresses

-- The item at this offset of an NSP message was served, and what locked it out is noted.
pub record NotedServed (link : ℕ) (bytes : List ℕ) (at : ℕ) (old new : NotedValue) (served : Served) : Type 0 where
  pub item : Item
  pub reads : ItemAt bytes at item served.next
  pub serves : NotedServes link item old new served.answers
