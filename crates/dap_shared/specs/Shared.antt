-- What is kept of a node's links and files. It is as after any history that leaves this.
use Rattle.std.specs.Prelude.{ℕ, ◌≡◌, Bool, true, false, List, [], ◌∷◌, ◌++◌, length, map, get_or, Some, None}
use Rattle.std.specs.List.{list_any, remove}
use Rattle.std.specs.Global.{Vec}
use Rattle.rec_file.specs.declared.picks.Rights.{Rights}
use Rattle.dap_accessed.specs.declared.setup.ServerSetup.{ServerSetup}
use Rattle.dap_msg.specs.BothEnds.{max_nsp_message}
use Rattle.dap_msg.specs.Blocked.{bodies}
use Rattle.dap_msg.specs.Items.{ItemAt}
use Rattle.dap_msg.specs.declared.items.Item.{Item}
use Rattle.dap_accessed.specs.declared.setup.Names.{Names}
use Rattle.dap_accessed.specs.declared.served.Served.{Served}
use Rattle.dap_accessed.specs.declared.fault.AddFault.{AddFault}
use Rattle.dap_accessed.specs.declared.fault.AddFault.TheVariants as fault
use Rattle.dap_accessed.specs.Standing.{Files, file_at}
use Rattle.dap_accessed.specs.Naming.{index_by, number_given}
use Rattle.dap_accessed.specs.Adding.{MayGive}
use Rattle.dap_accessed.specs.Setup.{all_rights}
use Rattle.dap_accessed.specs.Storing.{StoreRefused}
use Rattle.dap_accessed.specs.Present.{present_of}
use Rattle.dap_accessed.specs.Served.{AllAtMost, AreAnswers}
use Rattle.dap_accessed.specs.Sessions.{SessionValue, open_at, phase_moved_up, session_of, session_with}
use Rattle.dap_shared.specs.declared.fault.RemoveFault.{RemoveFault}
use Rattle.dap_shared.specs.declared.fault.RemoveFault.TheVariants as removing
use Rattle.dap_shared.specs.Sharing.{is_file}
use Rattle.dap_shared.specs.Nodes.{Exchange, Node, Event, Serves, Begins, Drops, IsSilentOn, before_files, node_after, added_on, limit_on, setup_with}
use Rattle.dap_shared.specs.Keeping.{AreOf}

-- what a node keeps
pub record SharedValue : Type 0 where
  -- the node's BUFSIZ
  pub own : ℕ
  -- what it is set up with, this BUFSIZ too; a link that never began has its rights
  pub setup : ServerSetup
  pub files : Files
  -- of each link
  pub sessions : List SessionValue

-- what is kept of an exchange
abbrev pub session_of_exchange : (own : ServerSetup) → Files → Exchange → SessionValue
session_of_exchange own files exchange = session_of (present_of (setup_with exchange.most own) (before_files files exchange))

-- what is kept of a node
abbrev pub shared_of : (own : ServerSetup) → Node → SharedValue
shared_of own node =
    record { own = own.identity.bufsiz; setup = own; files = node.files; sessions = map (session_of_exchange own node.files) node.exchanges }

-- the node is as one with its setup, these files at first and as many links, after these events
pub record SharedAfter (first : Files) (events : List Event) (v : SharedValue) : Type 0 where
  pub links : AreOf (length v.sessions) events
  pub stands : v ≡ shared_of v.setup (node_after v.setup first (length v.sessions) events)

-- An item of a link was served. Whatever history left the node before, it is as after that and this item, and the
-- answers are those that the item adds on its link, joined within the limit of the link's peer.
pub record SharedServes (link : ℕ) (item : Item) (old new : SharedValue) (answers : Vec (Vec ℕ)) : Type 0 where
  pub stands : (first : Files) (events : List Event) → SharedAfter first events old →
      SharedAfter first (events ++ Serves link item ∷ []) new
  pub answered : (first : Files) (events : List Event) → SharedAfter first events old →
      AreAnswers (limit_on link old.setup first (length old.sessions) events)
      (added_on link old.setup first (length old.sessions) events item) answers
  pub within : AllAtMost max_nsp_message (bodies answers.items)
  pub same_own : new.own ≡ old.own
  pub same_setup : new.setup ≡ old.setup
  pub same_links : length new.sessions ≡ length old.sessions

-- The item at this offset of an NSP message was served.
pub record SharedServed (link : ℕ) (bytes : List ℕ) (at : ℕ) (old new : SharedValue) (served : Served) : Type 0 where
  pub item : Item
  pub reads : ItemAt bytes at item served.next
  pub serves : SharedServes link item old new served.answers

-- After some history that leaves this, an item of a link is one that takes no memory.
abbrev pub IsSilentAt : (link : ℕ) → SharedValue → Item → Type 0
IsSilentAt link v item =
    (first : Files) × (events : List Event) × SharedAfter first events v × IsSilentOn link v.setup first (length v.sessions) events item

-- what is kept of a link where there is none of this number
abbrev pub no_session : (own : ServerSetup) → SessionValue
no_session own = session_with (setup_with all_rights own)

-- the rights that an Access on a link may ask for
abbrev pub rights_on : (link : ℕ) → SharedValue → Rights
rights_on link v = (get_or v.sessions link (no_session v.setup)).setup.most

-- a link began anew, with the rights that an Access on it may ask for, or ended
pub record SharedBegins (link : ℕ) (most : Rights) (old new : SharedValue) : Type 0 where
  pub stands : (first : Files) (events : List Event) → SharedAfter first events old →
      SharedAfter first (events ++ Begins link most ∷ []) new
  pub rights : rights_on link new ≡ most
  pub same_files : new.files ≡ old.files
  pub same_own : new.own ≡ old.own
  pub same_setup : new.setup ≡ old.setup
  pub same_links : length new.sessions ≡ length old.sessions

-- ---- Files that a node is given.

-- a file or a record was given, and nothing else moved
pub record SharedGiven (event : Event) (old new : SharedValue) : Type 0 where
  pub stands : (first : Files) (events : List Event) → SharedAfter first events old →
      SharedAfter first (events ++ event ∷ []) new
  pub same_sessions : new.sessions ≡ old.sessions
  pub same_own : new.own ≡ old.own
  pub same_setup : new.setup ≡ old.setup

-- why a file isn't added, the first reason in this order
abbrev pub NotAdded : (names : Names) → Files → (name : List ℕ) → AddFault → Type 0
NotAdded names files name fault.FileExists = number_given names name files ≡ None
NotAdded names files name fault.NoMemory = MayGive names name files
NotAdded names files name _ = ⊥

-- a file has this name, as the node compares names, and of its index this is true
abbrev pub AtFile : (name : List ℕ) → SharedValue → (Says : ℕ → Type 0) → Type 0
AtFile name v Says = (at : ℕ) × (index_by v.setup.names name v.files ≡ Some at) × Says at

-- why a record isn't added to the file of this name, the first reason in this order
abbrev pub RecordNotAdded : SharedValue → (name : List ℕ) → (number : ℕ) → (body : List ℕ) → AddFault → Type 0
RecordNotAdded v name number body fault.NoFile = index_by v.setup.names name v.files ≡ None
RecordNotAdded v name number body fault.Busy = ⊥
RecordNotAdded v name number body fault.FileExists = ⊥
RecordNotAdded v name number body f = AtFile name v (λ at. StoreRefused (file_at at v.files) number body f)

-- ---- A file that is dropped.

-- a link has the file at this index open
abbrev pub is_held : (at : ℕ) → List SessionValue → Bool
is_held at sessions = list_any (λ s. is_file at (open_at s.phase)) sessions

-- what is kept of a link, where the file at this index was removed: those after it moved up
abbrev pub session_without : (removed : ℕ) → SessionValue → SessionValue
session_without removed s = record s { phase = phase_moved_up removed s.phase }

-- The file at this index was dropped: no link had it open. Those after it moved up.
pub record SharedDrops (at : ℕ) (old new : SharedValue) : Type 0 where
  pub closed : is_held at old.sessions ≡ false
  pub stands : (first : Files) (events : List Event) → SharedAfter first events old →
      SharedAfter first (events ++ Drops at ∷ []) new
  pub files : new.files ≡ remove old.files at
  pub sessions : new.sessions ≡ map (session_without at) old.sessions
  pub same_own : new.own ≡ old.own
  pub same_setup : new.setup ≡ old.setup

-- why a file isn't removed: none has this name, or a link has it open
abbrev pub NotRemoved : SharedValue → (name : List ℕ) → RemoveFault → Type 0
NotRemoved v name removing.NoFile = index_by v.setup.names name v.files ≡ None
NotRemoved v name removing.Busy = AtFile name v (λ at. is_held at v.sessions ≡ true)
