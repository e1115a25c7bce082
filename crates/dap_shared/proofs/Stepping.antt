-- What the code does to what it keeps is what the definitions say of one item more.
use Rattle.std.proofs.Common.{ne_eqb, ◌≢◌, ◌≡◌, ℕ, zero, suc, ◌<◌, ◌≤◌, Bool, true, false, List, [], ◌∷◌, ◌++◌, length, map, Option, Some, None, refl, ap, sym, subst, ◌∙◌, arith}
use Rattle.std.specs.Prelude.{IfSome, if◌then◌else◌, not, ◌==◌, ◌&&◌, ◌||◌, get_or, set, option_map, replicate}
use Rattle.std.specs.List.{list_any, remove}
use Rattle.std.specs.Option.{option_or}
use Rattle.std.specs.Global.{Vec}
use Rattle.std.proofs.lemmas.List.{get_or-set_same, map-set, length-map, length-replicate, length-set}
use Rattle.std.proofs.Math.ListN.{get_or-map}
use Rattle.dap_accessed.specs.declared.setup.ServerSetup.{ServerSetup}
use Rattle.dap_msg.specs.BothEnds.{max_nsp_message}
use Rattle.dap_msg.specs.Blocked.{bodies}
use Rattle.dap_msg.specs.declared.message.Message.{Message}
use Rattle.dap_msg.specs.declared.message.Message.TheVariants.{Access}
use Rattle.dap_msg.specs.declared.items.Item.{Item}
use Rattle.dap_msg.specs.declared.items.Item.TheVariants.{Whole, Malformed}
use Rattle.dap_accessed.specs.declared.asked.Asked.{Asked}
use Rattle.dap_accessed.specs.Asked.{plainly}
use Rattle.rec_file.specs.declared.picks.Rights.{Rights}
use Rattle.rec_file.specs.Acts.{StreamVal}
use Rattle.dap_accessed.specs.declared.phase.OpenFile.{OpenFile}
use Rattle.dap_accessed.specs.declared.phase.Phase.{Phase}
use Rattle.dap_accessed.specs.declared.phase.Phase.TheVariants as phases
use Rattle.dap_accessed.specs.Standing.{Files, Scene, ServerState, Group, Standing, plain_shape, Fresh, Ready, Opened, Connected, Store, Stopped}
use Rattle.dap_accessed.specs.Past.{is_dropping, is_filedata, ordinal_so_far}
use Rattle.dap_accessed.specs.Records.{Change, Putting, Updating}
use Rattle.dap_accessed.specs.Replies.{bare_status}
use Rattle.dap_accessed.specs.Accesses.{refuse_access}
use Rattle.dap_accessed.specs.Effects.{Begun, Does}
use Rattle.dap_accessed.specs.Groups.{GroupedItems, answers_of, next_group, after_item}
use Rattle.dap_accessed.specs.Present.{Present, present_of, phase_of, phase_at, phase_within, looked_back}
use Rattle.dap_accessed.specs.Served.{AllAtMost, AreAnswers}
use Rattle.dap_accessed.specs.Sessions.{SessionValue, asked_in, with_files, moved_up, session_with, open_at, phase_moved_up, session_of}
use Rattle.dap_accessed.proofs.ForCallers.{access-keeps}
use Rattle.dap_shared.specs.Sharing.{barred_by, bars, file_locked, has_made, is_fewer, is_file, open_in, state_moved_up, is_locked, asks_to_open}
use Rattle.dap_shared.specs.Nodes.{Exchange, Node, Event, Serves, Begins, Gives, GivesRecord, Drops, IsSilentOn, new_exchange, no_exchange, new_node, exchange_at, exchange_of, end_at, before_files, open_on, open_beside, more_beside, answers_beside, begun_moved_up, exchange_moved_up, exchange_without, removed_by, is_open, without_file, setup_on, setup_with, after_event, after_all, asked_on, is_locked_out, locks_out, node_after}
use Rattle.dap_shared.specs.Shared.{SharedValue, SharedAfter, SharedBegins, SharedDrops, SharedGiven, SharedServes, is_held, session_of_exchange, no_session, session_without, shared_of}
use Rattle.dap_shared.specs.Keeping.{AreOf}
use Rattle.dap_shared.specs.Inner.Beside.{is_barred, session_moved_up, gone_by, IsSilentBeside, MovesBeside}
use Rattle.dap_shared.specs.Inner.Beside as beside
use Rattle.dap_shared.specs.Inner.Held.{IsSilentAmong, session_at}
use Rattle.dap_shared.proofs.Events.{IsShared, IsSteadyExchange, history-shares, one-new, served-begun}
use Rattle.dap_shared.proofs.Holders.{locked-by-all}
use Rattle.dap_shared.proofs.Shares.{dropped, gone, stays-none}
use Rattle.dap_shared.proofs.PutBack.{map-over}

-- ---- A file was removed: the others move up.

store-moved : (r : ℕ) (d : Bool) (o : OpenFile) (s : StreamVal) (n : ℕ) →
    (if d then phases.Dropping (moved_up r o) s n else phases.Storing (moved_up r o) s n) ≡ phase_moved_up r (if d then phases.Dropping o s n else phases.Storing o s n)
store-moved r true o s n = refl
store-moved r false o s n = refl

within-moved : (r : ℕ) (change : Change) (o : OpenFile) (s : StreamVal) → phase_within change (moved_up r o) s ≡ phase_moved_up r (phase_within change o s)
within-moved r (Putting key) o s = refl
within-moved r Updating o s = refl

at-moved : (full : Bool) (r : ℕ) (past : List Group) (state : ServerState) → phase_at (state_moved_up r state) (looked_back full (state_moved_up r state) past) ≡ phase_moved_up r (phase_at state (looked_back full state past))
at-moved full r past Fresh = refl
at-moved full r past Ready = refl
at-moved full r past (Opened o) = refl
at-moved full r past (Connected o s) = refl
at-moved full r past (Store o s) = store-moved r (is_dropping past) o s (ordinal_so_far past)
at-moved full r past (Stopped o s) = refl

phase-moved : (full : Bool) (r : ℕ) (files : Files) (exchange : Exchange) (begun : Option Begun) →
    phase_of full (before_files files (record exchange { state = state_moved_up r exchange.state })).standing (option_map (begun_moved_up r) begun) ≡ phase_moved_up r (phase_of full (before_files files exchange).standing begun)
phase-moved full r files exchange None = at-moved full r exchange.past exchange.state
phase-moved full r files exchange (Some b) = within-moved r b.change b.opened b.stream

exchange-moved : (own : ServerSetup) (files after : Files) (r : Option OpenFile) (exchange : Exchange) → session_of_exchange own after (exchange_moved_up r exchange) ≡ session_moved_up r (session_of_exchange own files exchange)
exchange-moved own files after None exchange = refl
exchange-moved own files after (Some removed) exchange =
    ap (λ (p : Phase). let s = session_of_exchange own files exchange in let t : SessionValue = record { own = s.own; setup = s.setup; limit = s.limit; kept = s.kept; phase = p } in t) (phase-moved own.full removed.at files exchange exchange.begun)

exchanges-moved : (own : ServerSetup) (files after : Files) (r : Option OpenFile) (exchanges : List Exchange) → map (session_of_exchange own after) (map (exchange_moved_up r) exchanges) ≡ map (session_moved_up r) (map (session_of_exchange own files) exchanges)
exchanges-moved own files after r [] = refl
exchanges-moved own files after r (exchange ∷ exchanges) =
    ap (λ (s : SessionValue). s ∷ map (session_of_exchange own after) (map (exchange_moved_up r) exchanges)) (exchange-moved own files after r exchange)
    ∙ ap (λ (l : List SessionValue). session_moved_up r (session_of_exchange own files exchange) ∷ l) (exchanges-moved own files after r exchanges)

-- ---- What is open, and what is asked for, by the phase.

store-open : (d : Bool) (o : OpenFile) (s : StreamVal) (n : ℕ) → open_at (if d then phases.Dropping o s n else phases.Storing o s n) ≡ Some o
store-open true o s n = refl
store-open false o s n = refl

state-open : (full : Bool) (past : List Group) (state : ServerState) → open_at (phase_at state (looked_back full state past)) ≡ open_in state
state-open full past Fresh = refl
state-open full past Ready = refl
state-open full past (Opened o) = refl
state-open full past (Connected o s) = refl
state-open full past (Store o s) = store-open (is_dropping past) o s (ordinal_so_far past)
state-open full past (Stopped o s) = refl

within-open : (change : Change) (o : OpenFile) (s : StreamVal) → open_at (phase_within change o s) ≡ Some o
within-open (Putting key) o s = refl
within-open Updating o s = refl

-- a group of two that is begun has the open file
abbrev IsBegun : ServerState → Option Begun → Type 0
IsBegun state begun = IfSome begun (λ b. (open_in state ≡ Some b.opened) × (b.stream.rights ≡ b.opened.rights))

phase-open : (full : Bool) (s : Standing) (begun : Option Begun) → IsBegun s.state begun → open_at (phase_of full s begun) ≡ open_in s.state
phase-open full s None h = state-open full s.past s.state
phase-open full s (Some b) h = within-open b.change b.opened b.stream ∙ sym h.0

store-asks : (own : ServerSetup) (files : Files) (item : Item) (d : Bool) (o : OpenFile) (s : StreamVal) (n : ℕ) → asked_in own files (if d then phases.Dropping o s n else phases.Storing o s n) item ≡ None
store-asks own files item true o s n = refl
store-asks own files item false o s n = refl

ready-asks : (own : ServerSetup) (files : Files) (item : Item) → asked_in own files phases.Ready item ≡ asks_to_open own files Ready item
ready-asks own files (Malformed fault) = refl
ready-asks own files (Whole (Access a)) = refl
ready-asks own files (Whole message) = refl

state-asks : (full : Bool) (own : ServerSetup) (files : Files) (past : List Group) (state : ServerState) (item : Item) → asked_in own files (phase_at state (looked_back full state past)) item ≡ asks_to_open own files state item
state-asks full own files past Fresh item = refl
state-asks full own files past Ready item = ready-asks own files item
state-asks full own files past (Opened o) item = refl
state-asks full own files past (Connected o s) item = refl
state-asks full own files past (Store o s) item = store-asks own files item (is_dropping past) o s (ordinal_so_far past)
state-asks full own files past (Stopped o s) item = refl

within-asks : (own : ServerSetup) (files : Files) (change : Change) (o : OpenFile) (s : StreamVal) (item : Item) → asked_in own files (phase_within change o s) item ≡ None
within-asks own files (Putting key) o s item = refl
within-asks own files Updating o s item = refl

none-asked : (own : ServerSetup) (files : Files) (state : ServerState) (o : OpenFile) (item : Item) → open_in state ≡ Some o → asks_to_open own files state item ≡ None
none-asked own files Fresh o item e = cc
none-asked own files Ready o item e = cc
none-asked own files (Opened p) o item e = refl
none-asked own files (Connected p s) o item e = refl
none-asked own files (Store p s) o item e = refl
none-asked own files (Stopped p s) o item e = refl

phase-asks : (full : Bool) (own : ServerSetup) (files : Files) (s : Standing) (begun : Option Begun) (item : Item) → IsBegun s.state begun → asked_in own files (phase_of full s begun) item ≡ asks_to_open own files s.state item
phase-asks full own files s None item h = state-asks full own files s.past s.state item
phase-asks full own files s (Some b) item h = within-asks own files b.change b.opened b.stream item ∙ sym (none-asked own files s.state b.opened item h.0)

-- ---- What bars it.

pub open-kept : (own : ServerSetup) (files : Files) (exchange : Exchange) → IsSteadyExchange exchange → open_at (session_of_exchange own files exchange).phase ≡ open_on exchange
open-kept own files exchange h = phase-open own.full (before_files files exchange).standing exchange.begun h.begun

-- what is asked for on a link, with its rights
asks-kept : (own its : ServerSetup) (files : Files) (exchange : Exchange) (item : Item) → IsSteadyExchange exchange → asked_in its files (session_of_exchange own files exchange).phase item ≡ asks_to_open its files exchange.state item
asks-kept own its files exchange item h = phase-asks own.full its files (before_files files exchange).standing exchange.begun item h.begun

-- what a session asks to open
abbrev pub asked_by : (s : SessionValue) → Files → Item → Option OpenFile
asked_by s files item = asked_in s.setup files s.phase item

asked-kept : (v : SharedValue) (link : ℕ) (item : Item) (first : Files) (events : List Event) → SharedAfter first events v
    → asked_by (session_at v.setup link v.sessions) v.files item ≡ asked_on v.setup link (node_after v.setup first (length v.sessions) events) item
asked-kept v link item first events h =
    let node = node_after v.setup first (length v.sessions) events in
    let shares = (history-shares v.setup first (length v.sessions) events h.links).0 in
    let one : session_at v.setup link v.sessions ≡ session_of_exchange v.setup node.files (exchange_at link node) =
    ap (λ (w : SharedValue). session_at v.setup link w.sessions) h.stands ∙ get_or-map (session_of_exchange v.setup node.files) node.exchanges link no_exchange in
    let files : v.files ≡ node.files = ap (λ (w : SharedValue). w.files) h.stands in
    ap (λ (s : SessionValue). asked_by s v.files item) one
    ∙ ap (λ (f : Files). asked_by (session_of_exchange v.setup node.files (exchange_at link node)) f item) files
    ∙ asks-kept v.setup (setup_on v.setup link node) node.files (exchange_at link node) item (shares.steady link)

-- whether another link locks it out
pub locks-kept : (v : SharedValue) (other link : ℕ) (item : Item) (first : Files) (events : List Event) → SharedAfter first events v
    → (not (other == link) && barred_by (asked_by (session_at v.setup link v.sessions) v.files item) (open_at (session_at v.setup other v.sessions).phase))
    ≡ locks_out v.setup other link (node_after v.setup first (length v.sessions) events) item
locks-kept v other link item first events h =
    let node = node_after v.setup first (length v.sessions) events in
    let shares = (history-shares v.setup first (length v.sessions) events h.links).0 in
    let two : session_at v.setup other v.sessions ≡ session_of_exchange v.setup node.files (exchange_at other node) =
    ap (λ (w : SharedValue). session_at v.setup other w.sessions) h.stands ∙ get_or-map (session_of_exchange v.setup node.files) node.exchanges other no_exchange in
    let asked = asked-kept v link item first events h in
    let held : open_at (session_at v.setup other v.sessions).phase ≡ open_on (exchange_at other node) =
    ap (λ (s : SessionValue). open_at s.phase) two ∙ open-kept v.setup node.files (exchange_at other node) (shares.steady other) in
    ap (λ (a : Option OpenFile). not (other == link) && barred_by a (open_at (session_at v.setup other v.sessions).phase)) asked
    ∙ ap (λ (o : Option OpenFile). not (other == link) && barred_by (asked_on v.setup link node item) o) held

-- the same by two sessions that were read
pub locks-told : (v : SharedValue) (other link : ℕ) (item : Item) (s t : SessionValue) (told : Bool) → other ≢ link → s ≡ session_at v.setup link v.sessions → t ≡ session_at v.setup other v.sessions
    → told ≡ barred_by (asked_by s v.files item) (open_at t.phase) → (first : Files) (events : List Event) → SharedAfter first events v → told ≡ locks_out v.setup other link (node_after v.setup first (length v.sessions) events) item
locks-told v other link item s t told apart one two is first events h =
    is
    ∙ ap (λ (x : SessionValue). barred_by (asked_by x v.files item) (open_at t.phase)) one
    ∙ ap (λ (x : SessionValue). barred_by (asked_by (session_at v.setup link v.sessions) v.files item) (open_at x.phase)) two
    ∙ ap (λ (b : Bool). not b && barred_by (asked_by (session_at v.setup link v.sessions) v.files item) (open_at (session_at v.setup other v.sessions).phase)) (sym (ne_eqb other link apart))
    ∙ locks-kept v other link item first events h

any-kept : (own : ServerSetup) (files : Files) (o : OpenFile) (exchanges : List Exchange) → ((i : ℕ) → IsSteadyExchange (get_or exchanges i no_exchange)) →
    list_any (λ (s : SessionValue). bars o (open_at s.phase)) (map (session_of_exchange own files) exchanges) ≡ list_any (bars o) (map open_on exchanges)
any-kept own files o [] h = refl
any-kept own files o (exchange ∷ exchanges) h =
    ap (λ (x : Option OpenFile). bars o x || list_any (λ (s : SessionValue). bars o (open_at s.phase)) (map (session_of_exchange own files) exchanges)) (open-kept own files exchange (h 0))
    ∙ ap (λ b. bars o (open_on exchange) || b) (any-kept own files o exchanges (λ i. h (suc i)))

barred-is : (own : ServerSetup) (files : Files) (asked : Option OpenFile) (exchanges : List Exchange) → ((i : ℕ) → IsSteadyExchange (get_or exchanges i no_exchange)) →
    is_barred (map (session_of_exchange own files) exchanges) asked ≡ is_locked (map open_on exchanges) asked
barred-is own files None exchanges h = refl
barred-is own files (Some o) exchanges h = any-kept own files o exchanges h

-- whether any link locks it out
pub locked-kept : (v : SharedValue) (link : ℕ) (item : Item) (first : Files) (events : List Event) → SharedAfter first events v
    → is_barred v.sessions (asked_by (session_at v.setup link v.sessions) v.files item) ≡ is_locked_out v.setup link (node_after v.setup first (length v.sessions) events) item
locked-kept v link item first events h =
    let node = node_after v.setup first (length v.sessions) events in
    let shares = (history-shares v.setup first (length v.sessions) events h.links).0 in
    let sessions : v.sessions ≡ map (session_of_exchange v.setup node.files) node.exchanges = ap (λ (w : SharedValue). w.sessions) h.stands in
    ap (is_barred v.sessions) (asked-kept v link item first events h)
    ∙ ap (λ (l : List SessionValue). is_barred l (asked_on v.setup link node item)) sessions
    ∙ barred-is v.setup node.files (asked_on v.setup link node item) node.exchanges shares.steady
    ∙ locked-by-all v.setup node link item

-- ---- What is refused.

abbrev pub locked_group : (own : ServerSetup) → Standing → Item → GroupedItems
locked_group own s item = next_group own s item (Does (refuse_access s.scene (bare_status file_locked)))

refused-by : (own : ServerSetup) (others : List (Option OpenFile)) (scene : Scene) (past : List Group) (state : ServerState) (item : Item) → is_locked others (asks_to_open own scene.files state item) ≡ true →
    let s : Standing = record { scene = scene; state = state; past = past } in
    session_of (present_of own (locked_group own s item)) ≡ record { own = own.identity.bufsiz; setup = own; limit = scene.limit; kept = Some (plainly plain_shape); phase = phases.Ready }
refused-by own others scene past Ready (Whole (Access a)) e =
    ap (λ (k : Option Asked). let t : SessionValue = record { own = own.identity.bufsiz; setup = own; limit = scene.limit; kept = k; phase = phases.Ready } in t) (access-keeps own.full past a (bare_status file_locked ∷ []))
refused-by own others scene past Ready (Whole message) e = cc
refused-by own others scene past Ready (Malformed fault) e = cc
refused-by own others scene past Fresh item e = cc
refused-by own others scene past (Opened o) item e = cc
refused-by own others scene past (Connected o s) item e = cc
refused-by own others scene past (Store o s) item e = cc
refused-by own others scene past (Stopped o s) item e = cc

at-most : (limit most : ℕ) → limit ≤ most → (list : List (List ℕ)) → AllAtMost limit list → AllAtMost most list
at-most limit most le [] h = tt
at-most limit most le (x ∷ list) h = (omega (arith, le, h.0), at-most limit most le list h.1)

-- ---- One item.

module _ (own : ServerSetup) (node : Node) (link : ℕ) (item : Item) (h : IsShared node) where
  abbrev its : ServerSetup
  its = setup_on own link node

  abbrev most : Rights
  most = (exchange_at link node).most

  abbrev before : GroupedItems
  before = end_at link node

  abbrev kept : Exchange → SessionValue
  kept = session_of_exchange own node.files

  abbrev session : SessionValue
  session = kept (exchange_at link node)

  -- the sessions with that of the link taken out
  abbrev kept_beside : List SessionValue
  kept_beside = set (map kept node.exchanges) link (no_session own)

  abbrev asked : Option OpenFile
  asked = asks_to_open its node.files before.standing.state item

  abbrev others : List (Option OpenFile)
  others = open_beside link node.exchanges

  steady-beside : (i : ℕ) → IsSteadyExchange (get_or (set node.exchanges link no_exchange) i no_exchange)
  steady-beside i = one-new node.exchanges link i no_exchange IsSteadyExchange (record { rights = tt; begun = tt }) (h.steady i)

  lock-is : is_barred kept_beside (asked_by session node.files item) ≡ is_locked others asked
  lock-is =
      ap (is_barred kept_beside) (phase-asks own.full its node.files before.standing before.begun item (h.steady link).begun)
      ∙ ap (λ (l : List SessionValue). is_barred l asked) (sym (map-set kept node.exchanges link no_exchange))
      ∙ barred-is own node.files asked (set node.exchanges link no_exchange) steady-beside

  -- an item without an answer isn't locked out
  silent-by : (locked : Bool) → (if locked then bare_status file_locked ∷ [] else answers_of its before item) ≡ [] → (is_filedata item ≡ true → is_dropping before.standing.past ≡ true) → IsSilentBeside locked item node.files session
  silent-by true none stored = absurd (cc)
  silent-by false none stored = (refl, (before, refl, (none, stored)))

  pub silent-here : answers_beside its others before item ≡ [] → (is_filedata item ≡ true → is_dropping before.standing.past ≡ true) → IsSilentBeside (is_barred kept_beside (asked_by session node.files item)) item node.files session
  silent-here none stored =
      subst (λ (b : Bool). IsSilentBeside b item node.files session) (sym lock-is) (silent-by (is_locked others asked) none stored)

  -- where the code leaves these files, and this of the link
  pub record Leaves (d : GroupedItems) (messages : List Message) (files : Files) (s : SessionValue) (answers : Vec (Vec ℕ)) : Type 0 where
    pub same_files : files ≡ d.standing.scene.files
    pub same_session : s ≡ session_of (present_of its d)
    pub answered : AreAnswers before.standing.scene.limit messages answers
    pub within : AllAtMost max_nsp_message (bodies answers.items)

  by-lock : (locked : Bool) (files : Files) (s : SessionValue) (answers : Vec (Vec ℕ)) → locked ≡ is_locked others asked → beside.ServesOrRefuses locked item node.files session files s answers →
      Leaves (if locked then locked_group its before.standing item else after_item its before item) (if locked then bare_status file_locked ∷ [] else answers_of its before item) files s answers
  by-lock true files s answers e does =
      record {
        same_files = does.0;
        same_session = does.1 ∙ sym (refused-by its others before.standing.scene before.standing.past before.standing.state item (sym e));
        answered = does.2;
        within = at-most session.limit max_nsp_message does.3 (bodies answers.items) does.2.within;
      }
  by-lock false files s answers e does =
      let stands : with_files files s ≡ present_of its (after_item its before item) = does.stands before refl ∙ ap (λ (n : ServerSetup). present_of n (after_item its before item)) does.same_setup in
      record {
        same_files = ap (λ (p : Present). p.files) stands;
        same_session = ap session_of stands;
        answered = does.answered before refl;
        within = at-most session.limit max_nsp_message does.most (bodies answers.items) does.within;
      }

  leaves : (files : Files) (s : SessionValue) (answers : Vec (Vec ℕ)) → beside.ServesOrRefuses (is_barred kept_beside (asked_by session node.files item)) item node.files session files s answers →
      Leaves (more_beside its others before item) (answers_beside its others before item) files s answers
  leaves files s answers does =
      subst (λ (b : Bool). Leaves (if b then locked_group its before.standing item else after_item its before item) (if b then bare_status file_locked ∷ [] else answers_of its before item) files s answers) lock-is
      (by-lock (is_barred kept_beside (asked_by session node.files item)) files s answers lock-is does)

  abbrev after : GroupedItems
  after = more_beside its others before item

  abbrev value : Files → List SessionValue → SharedValue
  value files sessions = record { own = own.identity.bufsiz; setup = own; files = files; sessions = sessions }

  pub item-moves : (files : Files) (rest : List SessionValue) (s : SessionValue) (answers : Vec (Vec ℕ)) → MovesBeside item node.files kept_beside session files rest s answers →
      shared_of own (after_event own node (Serves link item)) ≡ value files (set rest link s)
  item-moves files rest s answers moves =
      let left = leaves files s answers moves.does in
      let d = after in
      let r = removed_by asked before d in
      let asks = asked_by session node.files item in
      let g = gone_by asks node.files files session.phase s.phase in
      let later : open_at s.phase ≡ open_in d.standing.state =
      ap (λ (t : SessionValue). open_at t.phase) left.same_session ∙ phase-open own.full d.standing d.begun (served-begun own node link item h) in
      let same : r ≡ g =
      ap (λ (x : Option OpenFile). gone node.files d.standing.scene.files x (open_in d.standing.state) asked) (sym (phase-open own.full before.standing before.begun (h.steady link).begun))
      ∙ ap (λ (x : Option OpenFile). gone node.files d.standing.scene.files (open_at session.phase) x asked) (sym later)
      ∙ ap (λ (x : Option OpenFile). gone_by x node.files d.standing.scene.files session.phase s.phase) (sym (phase-asks own.full its node.files before.standing before.begun item (h.steady link).begun))
      ∙ ap (λ (l : Files). gone_by asks node.files l session.phase s.phase) (sym left.same_files) in
      ap (value d.standing.scene.files)
      (map-set (session_of_exchange own d.standing.scene.files) (map (exchange_moved_up r) node.exchanges) link (exchange_of most d)
      ∙ ap (λ (l : List SessionValue). set l link (session_of (present_of its d))) (exchanges-moved own node.files d.standing.scene.files r node.exchanges)
      ∙ ap (λ (x : Option OpenFile). set (map (session_moved_up x) (map kept node.exchanges)) link (session_of (present_of its d))) same
      ∙ ap (set (map (session_moved_up g) (map kept node.exchanges)) link) (sym left.same_session)
      ∙ sym (map-over (session_moved_up g) (map kept node.exchanges) link (no_session own) s)
      ∙ ap (λ (l : List SessionValue). set l link s) (sym moves.moved))
      ∙ ap (λ (l : Files). value l (set rest link s)) (sym left.same_files)

-- ---- After any history.

pub all-more : (own : ServerSetup) (node : Node) (events : List Event) (event : Event) → after_all own node (events ++ event ∷ []) ≡ after_event own (after_all own node events) event
all-more own node [] event = refl
all-more own node (e ∷ events) event = all-more own (after_event own node e) events event

pub are-more : (links : ℕ) (events : List Event) (event : Event) → AreOf links events → AreOf links (event ∷ []) → AreOf links (events ++ event ∷ [])
are-more links [] event h k = k
are-more links (Serves link item ∷ events) event h k = (h.0, are-more links events event h.1 k)
are-more links (Begins link most ∷ events) event h k = (h.0, are-more links events event h.1 k)
are-more links (Gives name shape ∷ events) event h k = are-more links events event h k
are-more links (GivesRecord at number body ∷ events) event h k = are-more links events event h k
are-more links (Drops at ∷ events) event h k = are-more links events event h k

-- what is kept then is what one event more leaves
pub after-more : (first : Files) (events : List Event) (event : Event) (old new : SharedValue) → SharedAfter first events old → AreOf (length old.sessions) (event ∷ []) → new.setup ≡ old.setup → length new.sessions ≡ length old.sessions
    → new ≡ shared_of old.setup (after_event old.setup (node_after old.setup first (length old.sessions) events) event) → SharedAfter first (events ++ event ∷ []) new
after-more first events event old new h of own links is =
    record {
      links = subst (λ (n : ℕ). AreOf n (events ++ event ∷ [])) (sym links) (are-more (length old.sessions) events event h.links of);
      stands =
          is ∙ ap (shared_of old.setup) (sym (all-more old.setup (new_node old.setup first (length old.sessions)) events event))
          ∙ ap (λ (n : ServerSetup). shared_of n (node_after n first (length old.sessions) (events ++ event ∷ []))) (sym own)
          ∙ ap (λ (n : ℕ). shared_of new.setup (node_after new.setup first n (events ++ event ∷ []))) (sym links);
    }

module _ (old : SharedValue) (link : ℕ) (item : Item) (files : Files) (rest : List SessionValue) (s : SessionValue) (answers : Vec (Vec ℕ)) (there : link < length old.sessions)
    (moves : MovesBeside item old.files (set old.sessions link (no_session old.setup)) (session_at old.setup link old.sessions) files rest s answers) where
  abbrev new : SharedValue
  new = record { own = old.own; setup = old.setup; files = files; sessions = set rest link s }

  same-links : length (set rest link s) ≡ length old.sessions
  same-links =
      length-set rest link s ∙ ap (λ (l : List SessionValue). length l) moves.moved
      ∙ length-map (set old.sessions link (no_session old.setup)) (session_moved_up (gone_by (asked_by (session_at old.setup link old.sessions) old.files item) old.files files (session_at old.setup link old.sessions).phase s.phase))
      ∙ length-set old.sessions link (no_session old.setup)

  module _ (first : Files) (events : List Event) (h : SharedAfter first events old) where
    abbrev node : Node
    node = node_after old.setup first (length old.sessions) events

    abbrev shares : IsShared node
    shares = (history-shares old.setup first (length old.sessions) events h.links).0

    kept-link : session_at old.setup link (shared_of old.setup node).sessions ≡ session_of_exchange old.setup node.files (exchange_at link node)
    kept-link = get_or-map (session_of_exchange old.setup node.files) node.exchanges link no_exchange

    then-moves : MovesBeside item node.files (set (map (session_of_exchange old.setup node.files) node.exchanges) link (no_session old.setup)) (session_of_exchange old.setup node.files (exchange_at link node)) files rest s answers
    then-moves =
        subst (λ (t : SessionValue). MovesBeside item node.files (set (map (session_of_exchange old.setup node.files) node.exchanges) link (no_session old.setup)) t files rest s answers) kept-link
        (subst (λ (v : SharedValue). MovesBeside item v.files (set v.sessions link (no_session old.setup)) (session_at old.setup link v.sessions) files rest s answers) h.stands moves)

    then-stands : SharedAfter first (events ++ Serves link item ∷ []) new
    then-stands =
        after-more first events (Serves link item) old new h (there, tt) refl same-links
        (ap (λ (n : ℕ). let w : SharedValue = record { own = n; setup = old.setup; files = files; sessions = set rest link s } in w) (ap (λ (v : SharedValue). v.own) h.stands)
        ∙ sym (item-moves old.setup node link item shares files rest s answers then-moves))

    then-left : Leaves old.setup node link item shares (after old.setup node link item shares) (answers_beside (setup_on old.setup link node) (open_beside link node.exchanges) (end_at link node) item) files s answers
    then-left = leaves old.setup node link item shares files s answers then-moves.does

  pub serves-shared : (first : Files) (events : List Event) → SharedAfter first events old → AllAtMost max_nsp_message (bodies answers.items) → SharedServes link item old new answers
  serves-shared first events h within =
      record {
        stands = then-stands;
        answered = λ f e k. (then-left f e k).answered;
        within = within;
        same_own = refl;
        same_setup = refl;
        same_links = same-links;
      }

  pub short-answers : (first : Files) (events : List Event) → SharedAfter first events old → AllAtMost max_nsp_message (bodies answers.items)
  short-answers first events h = (then-left first events h).within

-- an item that takes no memory takes none beside what is kept of the other links
pub silent-kept : (v : SharedValue) (link : ℕ) (item : Item) (first : Files) (events : List Event) → SharedAfter first events v → IsSilentOn link v.setup first (length v.sessions) events item → IsSilentAmong v.setup link item v.files v.sessions
silent-kept v link item first events h silent =
    let node = node_after v.setup first (length v.sessions) events in
    let shares = (history-shares v.setup first (length v.sessions) events h.links).0 in
    let kept_others = set (map (session_of_exchange v.setup node.files) node.exchanges) link (no_session v.setup) in
    let here : session_at v.setup link (shared_of v.setup node).sessions ≡ session_of_exchange v.setup node.files (exchange_at link node) =
    get_or-map (session_of_exchange v.setup node.files) node.exchanges link no_exchange in
    let silent_there = silent-here v.setup node link item shares silent.0 silent.1 in
    subst (λ (w : SharedValue). IsSilentAmong v.setup link item w.files w.sessions) (sym h.stands)
    (subst (λ (s : SessionValue). IsSilentBeside (is_barred kept_others (asked_by s node.files item)) item node.files s) (sym here) silent_there)

-- ---- Where no file is gone, nothing moves up.

all-same : (l : List SessionValue) → l ≡ map (session_moved_up None) l
all-same [] = refl
all-same (s ∷ l) = ap (λ (k : List SessionValue). s ∷ k) (all-same l)

-- a refused Access opens nothing
pub unmoved : (asked : Option OpenFile) (files : Files) (phase later : Phase) (others : List SessionValue) → open_at later ≡ None → others ≡ map (session_moved_up (gone_by asked files files phase later)) others
unmoved asked files phase later others closed =
    all-same others
    ∙ ap (λ (r : Option OpenFile). map (session_moved_up r) others)
    (sym (ap (λ (x : Option OpenFile). if is_fewer (has_made (open_at phase) x) files files then option_or (open_at phase) asked else None) closed ∙ stays-none files (open_at phase) asked))

-- ---- A link begins, and files are given.

one-same : {A : Type 0} (xs : List A) (link j : ℕ) (d new : A) (P : A → Type 0) → P new → P (get_or xs j d) → P (get_or (set xs link new) j d)
one-same [] link j d new P n p = p
one-same (x ∷ xs) zero zero d new P n p = n
one-same (x ∷ xs) zero (suc j) d new P n p = p
one-same (x ∷ xs) (suc link) zero d new P n p = p
one-same (x ∷ xs) (suc link) (suc j) d new P n p = one-same xs link j d new P n p

pub one-fresh : (own : ServerSetup) (sessions : List SessionValue) (link j : ℕ) (new : SessionValue) (P : SessionValue → Type 0) → P new → P (session_at own j sessions) → P (session_at own j (set sessions link new))
one-fresh own sessions link j new P n p = one-same sessions link j (no_session own) new P n p

pub begins-shared : (old : SharedValue) (link : ℕ) (most : Rights) → link < length old.sessions
    → SharedBegins link most old (record { own = old.own; setup = old.setup; files = old.files; sessions = set old.sessions link (session_with (setup_with most old.setup)) })
begins-shared old link most lt =
    let fresh : SessionValue = session_with (setup_with most old.setup) in
    let new : SharedValue = record { own = old.own; setup = old.setup; files = old.files; sessions = set old.sessions link fresh } in
    let links : length new.sessions ≡ length old.sessions = length-set old.sessions link fresh in
    record {
      stands = λ first events h. (let node = node_after old.setup first (length old.sessions) events in
          after-more first events (Begins link most) old new h (lt, tt) refl links
          (ap (λ (v : SharedValue). let w : SharedValue = record { own = v.own; setup = old.setup; files = v.files; sessions = set v.sessions link fresh } in w) h.stands
          ∙ ap (λ (l : List SessionValue). let w : SharedValue = record { own = old.setup.identity.bufsiz; setup = old.setup; files = node.files; sessions = l } in w) (sym (map-set (session_of_exchange old.setup node.files) node.exchanges link (new_exchange most)))));
      rights = ap (λ (s : SessionValue). s.setup.most) (get_or-set_same old.sessions link fresh (no_session old.setup) lt);
      same_files = refl;
      same_own = refl;
      same_setup = refl;
      same_links = links;
    }

phase-same : (full : Bool) (files after : Files) (exchange : Exchange) (begun : Option Begun) → phase_of full (before_files files exchange).standing begun ≡ phase_of full (before_files after exchange).standing begun
phase-same full files after exchange None = refl
phase-same full files after exchange (Some b) = refl

kept-same : (own : ServerSetup) (files after : Files) (exchange : Exchange) → session_of_exchange own files exchange ≡ session_of_exchange own after exchange
kept-same own files after exchange =
    ap (λ (p : Phase). let s = session_of_exchange own files exchange in let t : SessionValue = record { own = s.own; setup = s.setup; limit = s.limit; kept = s.kept; phase = p } in t) (phase-same own.full files after exchange exchange.begun)

all-kept : (own : ServerSetup) (files after : Files) (exchanges : List Exchange) → map (session_of_exchange own files) exchanges ≡ map (session_of_exchange own after) exchanges
all-kept own files after [] = refl
all-kept own files after (exchange ∷ exchanges) =
    ap (λ (s : SessionValue). s ∷ map (session_of_exchange own files) exchanges) (kept-same own files after exchange)
    ∙ ap (λ (l : List SessionValue). session_of_exchange own after exchange ∷ l) (all-kept own files after exchanges)

-- an event that gives files, and leaves the links
pub given-shared : (old : SharedValue) (event : Event) (f : Files → Files) → ((links : ℕ) → AreOf links (event ∷ [])) → ((node : Node) → after_event old.setup node event ≡ record node { files = f node.files })
    → SharedGiven event old (record old { files = f old.files })
given-shared old event f of does =
    record {
      stands = λ first events h. (let node = node_after old.setup first (length old.sessions) events in
          after-more first events event old (record old { files = f old.files }) h (of (length old.sessions)) refl refl
          (ap (λ (v : SharedValue). let w : SharedValue = record { own = v.own; setup = old.setup; files = f v.files; sessions = v.sessions } in w) h.stands
          ∙ ap (λ (l : List SessionValue). let w : SharedValue = record { own = old.setup.identity.bufsiz; setup = old.setup; files = f node.files; sessions = l } in w) (all-kept old.setup node.files (f node.files) node.exchanges)
          ∙ ap (shared_of old.setup) (sym (does node))));
      same_sessions = refl;
      same_own = refl;
      same_setup = refl;
    }

-- ---- A file is dropped.

withouts-moved : (own : ServerSetup) (files after : Files) (at : ℕ) (exchanges : List Exchange) → map (session_of_exchange own after) (map (exchange_without at) exchanges) ≡ map (session_without at) (map (session_of_exchange own files) exchanges)
withouts-moved own files after at [] = refl
withouts-moved own files after at (exchange ∷ exchanges) =
    ap (λ (s : SessionValue). s ∷ map (session_of_exchange own after) (map (exchange_without at) exchanges)) (exchange-moved own files after (Some (dropped at)) exchange)
    ∙ ap (λ (l : List SessionValue). session_without at (session_of_exchange own files exchange) ∷ l) (withouts-moved own files after at exchanges)

any-held : (own : ServerSetup) (files : Files) (at : ℕ) (exchanges : List Exchange) → ((i : ℕ) → IsSteadyExchange (get_or exchanges i no_exchange)) →
    is_held at (map (session_of_exchange own files) exchanges) ≡ list_any (λ (exchange : Exchange). is_file at (open_on exchange)) exchanges
any-held own files at [] h = refl
any-held own files at (exchange ∷ exchanges) h =
    ap (λ (x : Option OpenFile). is_file at x || is_held at (map (session_of_exchange own files) exchanges)) (open-kept own files exchange (h 0))
    ∙ ap (λ b. is_file at (open_on exchange) || b) (any-held own files at exchanges (λ i. h (suc i)))

pub drops-shared : (old : SharedValue) (at : ℕ) → is_held at old.sessions ≡ false
    → SharedDrops at old (record { own = old.own; setup = old.setup; files = remove old.files at; sessions = map (session_without at) old.sessions })
drops-shared old at closed =
    let new : SharedValue = record { own = old.own; setup = old.setup; files = remove old.files at; sessions = map (session_without at) old.sessions } in
    record {
      closed = closed;
      stands = λ first events h. (let node = node_after old.setup first (length old.sessions) events in
          let shares = (history-shares old.setup first (length old.sessions) events h.links).0 in
          let unopened : is_open at node ≡ false =
          sym (ap (λ (v : SharedValue). is_held at v.sessions) h.stands ∙ any-held old.setup node.files at node.exchanges shares.steady) ∙ closed in
          after-more first events (Drops at) old new h tt refl (length-map old.sessions (session_without at))
          (ap (λ (v : SharedValue). let w : SharedValue = record { own = v.own; setup = old.setup; files = remove v.files at; sessions = map (session_without at) v.sessions } in w) h.stands
          ∙ ap (λ (l : List SessionValue). let w : SharedValue = record { own = old.setup.identity.bufsiz; setup = old.setup; files = remove node.files at; sessions = l } in w)
          (sym (withouts-moved old.setup node.files (remove node.files at) at node.exchanges))
          ∙ ap (λ (b : Bool). shared_of old.setup (if b then node else without_file at node)) (sym unopened)));
      files = refl;
      sessions = refl;
      same_own = refl;
      same_setup = refl;
    }

-- what a link's rights are
pub rights-kept : (v : SharedValue) (link : ℕ) (first : Files) (events : List Event) → SharedAfter first events v → (session_at v.setup link v.sessions).setup.most ≡ (exchange_at link (node_after v.setup first (length v.sessions) events)).most
rights-kept v link first events h =
    let node = node_after v.setup first (length v.sessions) events in
    ap (λ (w : SharedValue). (session_at v.setup link w.sessions).setup.most) h.stands
    ∙ ap (λ (s : SessionValue). s.setup.most) (get_or-map (session_of_exchange v.setup node.files) node.exchanges link no_exchange)

-- ---- A new node.

all-new : (own : ServerSetup) (first : Files) (links : ℕ) → replicate links (session_with own) ≡ map (session_of_exchange own first) (replicate links (new_exchange own.most))
all-new own first zero = refl
all-new own first (suc links) = ap (λ (l : List SessionValue). session_with own ∷ l) (all-new own first links)

pub new-shared : (own : ServerSetup) (links : ℕ) (sessions : List SessionValue) → sessions ≡ replicate links (session_with own) → SharedAfter [] [] (record { own = own.identity.bufsiz; setup = own; files = []; sessions = sessions })
new-shared own links sessions e =
    let n : length sessions ≡ links = ap (λ (l : List SessionValue). length l) e ∙ length-replicate links (session_with own) in
    record {
      links = tt;
      stands = ap (λ (l : List SessionValue). let v : SharedValue = record { own = own.identity.bufsiz; setup = own; files = []; sessions = l } in v) (e ∙ all-new own [] links)
          ∙ ap (λ (k : ℕ). shared_of own (node_after own [] k [])) (sym n);
    }
