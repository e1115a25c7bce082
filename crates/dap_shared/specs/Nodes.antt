-- A node: one table of files, and links of which each has an exchange. One item of one link is served after another.
-- Each does what it would do at a server of one link in the state of its link, before the files as they then are; but
-- an Access to a file that is locked is refused.
use Rattle.std.specs.Prelude.{◌≡◌, ℕ, Bool, true, not, ◌&&◌, ◌==◌, if◌then◌else◌, List, [], ◌∷◌, ◌++◌, map, replicate, get_or, set, Option, Some, None, option_map}
use Rattle.std.specs.List.{list_any, remove}
use Rattle.std.specs.Option.{option_or}
use Rattle.dap_accessed.specs.declared.asked.Asked.{Asked}
use Rattle.dap_accessed.specs.declared.setup.ServerSetup.{ServerSetup}
use Rattle.dap_msg.specs.BothEnds.{min_buffer}
use Rattle.dap_msg.specs.declared.message.Message.{Message}
use Rattle.dap_msg.specs.declared.items.Item.{Item}
use Rattle.rec_file.specs.declared.picks.Rights.{Rights}
use Rattle.rec_file.specs.Files.{file_with_record}
use Rattle.dap_accessed.specs.declared.phase.OpenFile.{OpenFile}
use Rattle.dap_accessed.specs.Setup.{all_rights}
use Rattle.dap_accessed.specs.Standing.{Files, ServerState, Group, Fresh, file_at, with_file}
use Rattle.dap_accessed.specs.Sessions.{moved_up}
use Rattle.dap_accessed.specs.Past.{is_dropping, is_filedata}
use Rattle.dap_accessed.specs.Replies.{bare_status}
use Rattle.dap_accessed.specs.Accesses.{refuse_access}
use Rattle.dap_accessed.specs.Effects.{Begun, Does}
use Rattle.dap_accessed.specs.Groups.{GroupedItems, answers_in, answers_of, next_group, after_item}
use Rattle.dap_accessed.specs.Adding.{with_new_file}
use Rattle.dap_shared.specs.Sharing.{file_locked, has_made, is_fewer, open_in, asks_to_open, barred_by, is_file, is_locked, state_moved_up}

-- an exchange: the state of a server of one link, but for the files
pub record Exchange : Type 0 where
  -- the rights that an Access on it may ask for
  pub most : Rights
  pub limit : ℕ
  pub state : ServerState
  pub past : List Group
  pub begun : Option Begun

-- the files, and the exchange of each link
pub record Node : Type 0 where
  pub files : Files
  pub exchanges : List Exchange

-- no Configuration was served on it
abbrev pub new_exchange : (most : Rights) → Exchange
new_exchange most = record { most = most; limit = min_buffer; state = Fresh; past = []; begun = None }

-- what there is for a link that isn't there
abbrev pub no_exchange : Exchange
no_exchange = new_exchange all_rights

-- this many links, and these files: a link that never began has the rights of the node's setup
abbrev pub new_node : (own : ServerSetup) → Files → (links : ℕ) → Node
new_node own first links = record { files = first; exchanges = replicate links (new_exchange own.most) }

-- a server of one link in this state
abbrev pub before_files : Files → Exchange → GroupedItems
before_files files exchange =
    record { standing = record { scene = record { limit = exchange.limit; files = files }; state = exchange.state; past = exchange.past }; begun = exchange.begun }

-- without the files, on a link with these rights
abbrev pub exchange_of : (most : Rights) → GroupedItems → Exchange
exchange_of most c = record { most = most; limit = c.standing.scene.limit; state = c.standing.state; past = c.standing.past; begun = c.begun }

-- the exchange of a link
abbrev pub exchange_at : ℕ → Node → Exchange
exchange_at link node = get_or node.exchanges link no_exchange

-- a link's server of one link
abbrev pub end_at : ℕ → Node → GroupedItems
end_at link node = before_files node.files (exchange_at link node)

-- with these rights
abbrev pub setup_with : (most : Rights) → ServerSetup → ServerSetup
setup_with most own = record own { most = most }

-- what a link's server is set up with: what the node is, with the rights of the link
abbrev pub setup_on : (own : ServerSetup) → (link : ℕ) → Node → ServerSetup
setup_on own link node = setup_with (exchange_at link node).most own

-- ---- One item.

-- the file that is open in the exchange on a link
abbrev pub open_on : Exchange → Option OpenFile
open_on exchange = open_in exchange.state

-- what all links but one have open
abbrev pub open_beside : ℕ → List Exchange → List (Option OpenFile)
open_beside link exchanges = map open_on (set exchanges link no_exchange)

-- one more item; an Access to a file that is locked is refused, and is a group as any other
abbrev pub more_beside : (own : ServerSetup) → (others : List (Option OpenFile)) → GroupedItems → Item → GroupedItems
more_beside own others c item =
    let s = c.standing in
    if is_locked others (asks_to_open own s.scene.files s.state item)
    then next_group own s item (Does (refuse_access s.scene (bare_status file_locked)))
    else after_item own c item

-- its answers
abbrev pub answers_beside : (own : ServerSetup) → (others : List (Option OpenFile)) → GroupedItems → Item → List Message
answers_beside own others c item =
    if is_locked others (asks_to_open own c.standing.scene.files c.standing.state item)
    then bare_status file_locked ∷ []
    else answers_of own c item

-- a group of two whose file moved up
abbrev pub begun_moved_up : (removed : ℕ) → Begun → Begun
begun_moved_up removed begun = record begun { opened = moved_up removed begun.opened }

-- an exchange, where the file at this index was removed: those after it moved up
abbrev pub exchange_without : (removed : ℕ) → Exchange → Exchange
exchange_without removed exchange =
    record exchange { state = state_moved_up removed exchange.state; begun = option_map (begun_moved_up removed) exchange.begun }

-- another link's exchange after an item that removed this file, or removed none
abbrev pub exchange_moved_up : Option OpenFile → Exchange → Exchange
exchange_moved_up None exchange = exchange
exchange_moved_up (Some removed) exchange = exchange_without removed.at exchange

-- the file that an item removed: its link had it open, or asked for it
abbrev pub removed_by : (asked : Option OpenFile) → (before after : GroupedItems) → Option OpenFile
removed_by asked before after =
    let made = has_made (open_in before.standing.state) (open_in after.standing.state) in
    if is_fewer made before.standing.scene.files after.standing.scene.files then option_or (open_in before.standing.state) asked else None

-- ---- Which link locks a file.

-- what an item asks to open on a link, to replace or to erase
abbrev pub asked_on : (own : ServerSetup) → (link : ℕ) → Node → Item → Option OpenFile
asked_on own link node item = asks_to_open (setup_on own link node) node.files (exchange_at link node).state item

-- the item is an Access on a link, and what another link has open forbids it
abbrev pub locks_out : (own : ServerSetup) → (other link : ℕ) → Node → Item → Bool
locks_out own other link node item = not (other == link) && barred_by (asked_on own link node item) (open_on (exchange_at other node))

-- the item is an Access on a link that is refused, as the file is locked
abbrev pub is_locked_out : (own : ServerSetup) → (link : ℕ) → Node → Item → Bool
is_locked_out own link node item = is_locked (open_beside link node.exchanges) (asked_on own link node item)

-- ---- A file that is dropped, or given a record.

-- a link has the file at this index open
abbrev pub is_open : (at : ℕ) → Node → Bool
is_open at node = list_any (λ exchange. is_file at (open_on exchange)) node.exchanges

-- the file at this index is removed, and those after it move up, also where a link has one of them open
abbrev pub without_file : (at : ℕ) → Node → Node
without_file at node = record { files = remove node.files at; exchanges = map (exchange_without at) node.exchanges }

-- the file at this index has the record under this number
abbrev pub with_record_at : (at number : ℕ) → (body : List ℕ) → Files → Files
with_record_at at number body files = with_file at (file_with_record (file_at at files) number body) files

-- ---- A history.

-- An item of a link was served; a link began anew, with the rights that an Access on it may ask for, or ended: what it
-- had open is closed; a file without records was given, or a record of the file at an index; the file at an index was
-- dropped, unless a link has it open.
pub data Event : Type 0 where
  Serves : (link : ℕ) → Item → Event
  Begins : (link : ℕ) → (most : Rights) → Event
  Gives : (name : List ℕ) → Asked → Event
  GivesRecord : (at number : ℕ) → (body : List ℕ) → Event
  Drops : (at : ℕ) → Event

-- after an item of this link, with these rights, that asked for this: it is in this state, the others in the one that
-- they had
abbrev pub after_more : (most : Rights) → (link : ℕ) → (asked : Option OpenFile) → (before after : GroupedItems) → List Exchange → Node
after_more most link asked before after exchanges =
    record {
      files = after.standing.scene.files;
      exchanges = set (map (exchange_moved_up (removed_by asked before after)) exchanges) link (exchange_of most after);
    }

-- after one event
abbrev pub after_event : (own : ServerSetup) → Node → Event → Node
after_event own node (Serves link item) =
    let c = end_at link node in
    after_more (exchange_at link node).most link (asked_on own link node item) c (more_beside (setup_on own link node) (open_beside link node.exchanges) c item) node.exchanges
after_event own node (Begins link most) = record node { exchanges = set node.exchanges link (new_exchange most) }
after_event own node (Gives name asked) = record node { files = with_new_file own.names name asked node.files }
after_event own node (GivesRecord at number body) = record node { files = with_record_at at number body node.files }
after_event own node (Drops at) = if is_open at node then node else without_file at node

-- after these events, in order
abbrev pub after_all : (own : ServerSetup) → Node → List Event → Node
after_all own node [] = node
after_all own node (event ∷ events) = after_all own (after_event own node event) events

-- the state of a node of this many links, with this setup, which had these files at first, after these events
abbrev pub node_after : (own : ServerSetup) → Files → (links : ℕ) → List Event → Node
node_after own first links events = after_all own (new_node own first links) events

-- ---- What it comes to.

-- the files after all that was served, in the order in which it was
abbrev pub FilesAfter : (own : ServerSetup) → Files → ℕ → List Event → Files
FilesAfter own first links events = (node_after own first links events).files

-- the answers on a link since it began, in order
abbrev pub AnswersOn : (link : ℕ) → (own : ServerSetup) → Files → ℕ → List Event → List Message
AnswersOn link own first links events = answers_in (exchange_at link (node_after own first links events)).past

-- the answers that an item on a link adds
abbrev pub added_on : (link : ℕ) → (own : ServerSetup) → Files → ℕ → List Event → Item → List Message
added_on link own first links events item =
    let node = node_after own first links events in
    answers_beside (setup_on own link node) (open_beside link node.exchanges) (end_at link node) item

-- how long a message its peer takes then
abbrev pub limit_on : (link : ℕ) → (own : ServerSetup) → Files → ℕ → List Event → ℕ
limit_on link own first links events = (exchange_at link (node_after own first links events)).limit

-- an item of a link without an answer, that is no Data message which is stored: it is never out of memory
abbrev pub IsSilentOn : (link : ℕ) → (own : ServerSetup) → Files → ℕ → List Event → Item → Type 0
IsSilentOn link own first links events item =
    (added_on link own first links events item ≡ [])
    × (is_filedata item ≡ true → is_dropping (exchange_at link (node_after own first links events)).past ≡ true)

-- what was served on a link since it began, after this
abbrev pub served_on : (link : ℕ) → (before : List Item) → List Event → List Item
served_on link before [] = before
served_on link before (Serves other item ∷ events) = served_on link (if other == link then before ++ item ∷ [] else before) events
served_on link before (Begins other most ∷ events) = served_on link (if other == link then [] else before) events
served_on link before (event ∷ events) = served_on link before events

-- what was served on a link since it began
abbrev pub items_on : ℕ → List Event → List Item
items_on link events = served_on link [] events

-- the rights of a link after these events, where it had those before: it began with them
abbrev pub most_on : (link : ℕ) → (before : Rights) → List Event → Rights
most_on link before [] = before
most_on link before (Begins other most ∷ events) = most_on link (if other == link then most else before) events
most_on link before (event ∷ events) = most_on link before events
