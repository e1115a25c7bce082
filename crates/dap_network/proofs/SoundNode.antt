-- After any history the files of a node obey their shapes, and no two have one name.
use Rattle.std.proofs.Common.{◌≡◌, ℕ, ◌<◌, ◌≤◌, Bool, true, false, sym, ◌∙◌, subst, ap, List, [], ◌∷◌, ◌++◌, length, map, Option, Some, None, lit≤}
use Rattle.std.specs.Prelude.{IfSome, bytes_eq, get_or, if◌then◌else◌}
use Rattle.std.proofs.Math.ListN.{get_or-map}
use Rattle.rec_file.specs.declared.picks.Rights.{Rights}
use Rattle.rec_file.specs.Files.{file_with_record}
use Rattle.dap_msg.specs.BothEnds.{max_nsp_message, min_buffer}
use Rattle.dap_msg.specs.declared.items.Item.{Item}
use Rattle.dap_accessed.specs.Apart.{NamesAreApart}
use Rattle.dap_accessed.specs.Effects.{Begun, Does}
use Rattle.dap_accessed.specs.Accesses.{refuse_access}
use Rattle.dap_accessed.specs.Groups.{GroupedItems, after_item, next_group}
use Rattle.dap_accessed.specs.Replies.{bare_status}
use Rattle.dap_accessed.specs.Setup.{all_rights, same_name}
use Rattle.dap_accessed.specs.Sound.{AreFiles, IsOpenAt, IsSound}
use Rattle.dap_accessed.specs.Standing.{Files, ServerState, Fresh, Ready, Opened, Connected, Store, Stopped, file_at}
use Rattle.dap_accessed.specs.Asked.{made_file}
use Rattle.dap_accessed.specs.declared.phase.OpenFile.{OpenFile}
use Rattle.dap_accessed.specs.declared.setup.ServerSetup.{ServerSetup}
use Rattle.dap_accessed.proofs.ForCallers.{stored-file, more-sound, all-without, distinct-more, distinct-with, distinct-without, file-there, files-more, files-with, given-none, more-leaves, name-new}
use Rattle.dap_accessed.specs.Adding.{name_given}
use Rattle.dap_shared.specs.Nodes.{Event, Exchange, Node, Serves, Begins, Drops, Gives, GivesRecord, after_all, after_event, asked_on, end_at, exchange_at, exchange_moved_up, exchange_of, is_open, more_beside, new_exchange, no_exchange, open_beside, removed_by, setup_on, without_file}
use Rattle.dap_shared.specs.Sharing.{asks_to_open, file_locked, is_locked, open_in}
use Rattle.dap_shared.proofs.ForCallers.{IsShared, new-stays, one-new}
use Rattle.dap_network.specs.GivenFiles.{AreGiven, IsGiven}

-- ---- Lists of events.

pub given_more : (own : ServerSetup) (node : Node) (events : List Event) (event : Event) → AreGiven own node events → IsGiven own (after_all own node events) event → AreGiven own node (events ++ event ∷ [])
given_more own node [] event h k = (k, tt)
given_more own node (e ∷ events) event h k = (h.0, given_more own (after_event own node e) events event h.1 k)

-- ---- What a peer takes.

-- its limit is one that a peer may have
pub record HasLimit (exchange : Exchange) : Type 0 where
  pub least : min_buffer ≤ exchange.limit
  pub most : exchange.limit ≤ max_nsp_message

pub new_limit : (most : Rights) → HasLimit (new_exchange most)
new_limit most = record { least = lit≤ tt; most = lit≤ tt }

moved_limit : (r : Option OpenFile) (exchange : Exchange) → HasLimit exchange → HasLimit (exchange_moved_up r exchange)
moved_limit None exchange h = h
moved_limit (Some removed) exchange h = record { least = h.least; most = h.most }

some_limit : (r : Option OpenFile) (exchanges : List Exchange) (j : ℕ) → HasLimit (get_or exchanges j no_exchange) → HasLimit (get_or (map (exchange_moved_up r) exchanges) j no_exchange)
some_limit r exchanges j h =
    subst HasLimit (sym (ap (get_or (map (exchange_moved_up r) exchanges) j) (sym (new-stays r)) ∙ get_or-map (exchange_moved_up r) exchanges j no_exchange)) (moved_limit r (get_or exchanges j no_exchange) h)

pub record IsSoundNode (node : Node) : Type 0 where
  pub files : AreFiles node.files
  pub limits : (link : ℕ) → HasLimit (exchange_at link node)

-- ---- A link's server of one link.

opened_there : (files : Files) (state : ServerState) → IfSome (open_in state) (λ o. o.at < length files) → IsOpenAt files state
opened_there files Fresh h = tt
opened_there files Ready h = tt
opened_there files (Opened o) h = h
opened_there files (Connected o s) h = h
opened_there files (Store o s) h = h
opened_there files (Stopped o s) h = h

begun_there : (files : Files) (state : ServerState) (begun : Option Begun) → IfSome begun (λ b. (open_in state ≡ Some b.opened) × (b.stream.rights ≡ b.opened.rights)) → IfSome (open_in state) (λ o. o.at < length files) → IfSome begun (λ b. b.opened.at < length files)
begun_there files state None h w = tt
begun_there files state (Some b) h w = subst (λ (x : Option OpenFile). IfSome x (λ o. o.at < length files)) h.0 w

end_sound : (node : Node) (link : ℕ) → IsShared node → IsSoundNode node → IsSound (end_at link node)
end_sound node link s h =
    let exchange = exchange_at link node in
    record {
      standing = record { files = h.files; opened = opened_there node.files exchange.state (s.within link); least = (h.limits link).least; most = (h.limits link).most };
      begun = begun_there node.files exchange.state exchange.begun (s.steady link).begun (s.within link);
    }

-- what is sound of one more item, where it is locked or not
record IsSoundThen (c : GroupedItems) : Type 0 where
  files : AreFiles c.standing.scene.files
  least : min_buffer ≤ c.standing.scene.limit
  most : c.standing.scene.limit ≤ max_nsp_message

by_lock : (own : ServerSetup) (c : GroupedItems) (item : Item) → IsSound c → (locked : Bool) → IsSoundThen (if locked then next_group own c.standing item (Does (refuse_access c.standing.scene (bare_status file_locked))) else after_item own c item)
by_lock own c item h true = record { files = h.standing.files; least = h.standing.least; most = h.standing.most }
by_lock own c item h false =
    let after = more-sound own c.standing c.begun item (record { standing = h.standing; begun = h.begun }) in
    record { files = after.standing.files; least = after.standing.least; most = after.standing.most }

-- ---- Each event.

item_sound : (own : ServerSetup) (node : Node) (link : ℕ) (item : Item) → IsShared node → IsSoundNode node → IsSoundNode (after_event own node (Serves link item))
item_sound own node link item s h =
    let c = end_at link node in
    let its = setup_on own link node in
    let others = open_beside link node.exchanges in
    let d = more_beside its others c item in
    let after : IsSoundThen d = by_lock its c item (end_sound node link s h) (is_locked others (asks_to_open its c.standing.scene.files c.standing.state item)) in
    let new = exchange_of (exchange_at link node).most d in
    let removed = removed_by (asked_on own link node item) c d in
    record {
      files = after.files;
      limits = λ j. one-new (map (exchange_moved_up removed) node.exchanges) link j new HasLimit (record { least = after.least; most = after.most }) (some_limit removed node.exchanges j (h.limits j));
    }

drop_by : (node : Node) (at : ℕ) → IsSoundNode node → (b : Bool) → IsSoundNode (if b then node else without_file at node)
drop_by node at h true = h
drop_by node at h false =
    record {
      files = record { files = all-without node.files at h.files.files; distinct = distinct-without bytes_eq node.files at h.files.distinct };
      limits = λ j. some_limit (Some (record { at = at; is_new = true; rights = all_rights })) node.exchanges j (h.limits j);
    }

pub event_sound : (own : ServerSetup) (node : Node) (event : Event) → IsShared node → IsGiven own node event → IsSoundNode node → IsSoundNode (after_event own node event)
event_sound own node (Serves link item) s g h = item_sound own node link item s h
event_sound own node (Begins link most) s g h = record { files = h.files; limits = λ j. one-new node.exchanges link j (new_exchange most) HasLimit (new_limit most) (h.limits j) }
event_sound own node (Gives name shape) s g h = record { files = files-more node.files (name_given own.names name node.files) shape h.files g.0 (given-none own.names name node.files g.1); limits = h.limits }
event_sound own node (GivesRecord at number body) s g h =
    record { files = files-with node.files at (file_with_record (file_at at node.files) number body) h.files (stored-file (file_at at node.files) number body (file-there node.files at h.files.files g.0) g.1); limits = h.limits }
event_sound own node (Drops at) s g h = drop_by node at h (is_open at node)

-- ---- Names.

apart_lock : (own : ServerSetup) (c : GroupedItems) (item : Item) → NamesAreApart own.names c.standing.scene.files → (locked : Bool)
    → NamesAreApart own.names (if locked then next_group own c.standing item (Does (refuse_access c.standing.scene (bare_status file_locked))) else after_item own c item).standing.scene.files
apart_lock own c item h true = h
apart_lock own c item h false = more-leaves own c.standing c.begun item h

apart_drop : (own : ServerSetup) (node : Node) (at : ℕ) → NamesAreApart own.names node.files → (b : Bool) → NamesAreApart own.names (if b then node else without_file at node).files
apart_drop own node at h true = h
apart_drop own node at h false = distinct-without (λ one other. same_name own.names one other) node.files at h

pub event_apart : (own : ServerSetup) (node : Node) (event : Event) → IsGiven own node event → NamesAreApart own.names node.files → NamesAreApart own.names (after_event own node event).files
event_apart own node (Serves link item) g h =
    let c = end_at link node in
    let its = setup_on own link node in
    let others = open_beside link node.exchanges in
    apart_lock its c item h (is_locked others (asks_to_open its c.standing.scene.files c.standing.state item))
event_apart own node (Begins link most) g h = h
event_apart own node (Gives name shape) g h =
    distinct-more (λ one other. same_name own.names one other) node.files (name_given own.names name node.files, made_file shape) h (name-new own.names name node.files g.1)
event_apart own node (GivesRecord at number body) g h =
    distinct-with (λ one other. same_name own.names one other) node.files at (file_with_record (file_at at node.files) number body) h
event_apart own node (Drops at) g h = apart_drop own node at h (is_open at node)
