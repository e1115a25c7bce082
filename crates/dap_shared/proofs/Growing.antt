-- One item more on a link adds its answers there, and none on the other links.
use Rattle.std.proofs.Common.{◌≡◌, ◌≢◌, ℕ, zero, suc, ◌<◌, Bool, true, false, List, [], ◌∷◌, ◌++◌, length, map, Option, Some, None, refl, ap, sym, subst, ◌∙◌, inl, inr, arith, eq-eqb}
use Rattle.std.specs.Prelude.{◌==◌, if◌then◌else◌, get_or, replicate, set}
use Rattle.std.proofs.lemmas.Bool.{cases_eq, ne_eqb}
use Rattle.std.proofs.lemmas.Grind.{get_or-set_at}
use Rattle.std.proofs.lemmas.List.{get_or-set_same, get_or-set_other, length-map, length-set, length-replicate}
use Rattle.std.proofs.Math.ListN.{get_or-map}
use Rattle.dap_accessed.specs.declared.setup.ServerSetup.{ServerSetup}
use Rattle.dap_msg.specs.declared.items.Item.{Item}
use Rattle.rec_file.specs.declared.picks.Rights.{Rights}
use Rattle.dap_accessed.specs.declared.phase.OpenFile.{OpenFile}
use Rattle.dap_accessed.specs.Standing.{Files}
use Rattle.dap_accessed.specs.Replies.{bare_status}
use Rattle.dap_accessed.specs.Groups.{GroupedItems, answers_in, answers_of, after_item}
use Rattle.dap_accessed.proofs.ForCallers.{answers_after-more}
use Rattle.dap_shared.specs.Sharing.{asks_to_open, file_locked, is_locked}
use Rattle.dap_shared.specs.Nodes.{AnswersOn, Event, Exchange, Node, Serves, Begins, Gives, GivesRecord, Drops, added_on, asked_on, after_all, after_event, answers_beside, end_at, exchange_at, exchange_moved_up, exchange_of, exchange_without, is_open, more_beside, most_on, new_exchange, new_node, no_exchange, node_after, open_beside, removed_by, setup_on, without_file}
use Rattle.dap_shared.proofs.Events.{new-stays, count-item, count-drop}
use Rattle.dap_shared.proofs.Stepping.{all-more, locked_group}

-- there are as many links after any events
count-all : (own : ServerSetup) (node : Node) (events : List Event) → length (after_all own node events).exchanges ≡ length node.exchanges
count-all own node [] = refl
count-all own node (Serves link item ∷ events) = count-all own (after_event own node (Serves link item)) events ∙ count-item own node link item
count-all own node (Begins link most ∷ events) = count-all own (after_event own node (Begins link most)) events ∙ length-set node.exchanges link (new_exchange most)
count-all own node (Gives name shape ∷ events) = count-all own (after_event own node (Gives name shape)) events
count-all own node (GivesRecord at number body ∷ events) = count-all own (after_event own node (GivesRecord at number body)) events
count-all own node (Drops at ∷ events) = count-all own (after_event own node (Drops at)) events ∙ count-drop own node at

by-lock : (own : ServerSetup) (c : GroupedItems) (item : Item) (locked : Bool) →
    answers_in (if locked then locked_group own c.standing item else after_item own c item).standing.past ≡ answers_in c.standing.past ++ (if locked then bare_status file_locked ∷ [] else answers_of own c item)
by-lock own c item true = refl
by-lock own c item false = answers_after-more own c.standing c.begun item

module _ (own : ServerSetup) (node : Node) (link : ℕ) (item : Item) where
  abbrev before : GroupedItems
  before = end_at link node

  abbrev others : List (Option OpenFile)
  others = open_beside link node.exchanges

  abbrev its : ServerSetup
  its = setup_on own link node

  abbrev most : Rights
  most = (exchange_at link node).most

  abbrev after : GroupedItems
  after = more_beside its others before item

  abbrev removed : Option OpenFile
  removed = removed_by (asked_on own link node item) before after

  pub grows : link < length node.exchanges → answers_in (exchange_at link (after_event own node (Serves link item))).past ≡ answers_in (exchange_at link node).past ++ answers_beside its others before item
  grows there =
      ap (λ (e : Exchange). answers_in e.past) (get_or-set_same (map (exchange_moved_up removed) node.exchanges) link (exchange_of most after) no_exchange (omega (arith, there, length-map node.exchanges (exchange_moved_up removed))))
      ∙ by-lock its before item (is_locked others (asks_to_open its node.files before.standing.state item))

  same-past : (r : Option OpenFile) (e : Exchange) → answers_in (exchange_moved_up r e).past ≡ answers_in e.past
  same-past None e = refl
  same-past (Some o) e = refl

  pub stays : (other : ℕ) → other ≢ link → answers_in (exchange_at other (after_event own node (Serves link item))).past ≡ answers_in (exchange_at other node).past
  stays other d =
      ap (λ (e : Exchange). answers_in e.past)
      (get_or-set_other (map (exchange_moved_up removed) node.exchanges) link other (exchange_of most after) no_exchange d
      ∙ ap (get_or (map (exchange_moved_up removed) node.exchanges) other) (sym (new-stays removed))
      ∙ get_or-map (exchange_moved_up removed) node.exchanges other no_exchange)
      ∙ same-past removed (exchange_at other node)

-- ---- The rights of a link.

most-moved : (r : Option OpenFile) (e : Exchange) → (exchange_moved_up r e).most ≡ e.most
most-moved None e = refl
most-moved (Some o) e = refl

most-served : (own : ServerSetup) (node : Node) (link : ℕ) (item : Item) (other : ℕ) → other < length node.exchanges → (exchange_at other (after_event own node (Serves link item))).most ≡ (exchange_at other node).most
most-served own node link item other there =
    let c = end_at link node in
    let d = more_beside (setup_on own link node) (open_beside link node.exchanges) c item in
    let r = removed_by (asked_on own link node item) c d in
    let many = length-map node.exchanges (exchange_moved_up r) in
    let moved = map (exchange_moved_up r) node.exchanges in
    let ours = exchange_of (exchange_at link node).most d in
    elim (cases_eq other link) [
      | inl same ↦ subst (λ (k : ℕ). (get_or (set moved link ours) k no_exchange).most ≡ (exchange_at k node).most) (sym same)
          (ap (λ (e : Exchange). e.most) (get_or-set_same moved link ours no_exchange (omega (arith, there, many, same))))
      | inr apart ↦ ap (λ (e : Exchange). e.most)
          (get_or-set_other moved link other ours no_exchange apart
          ∙ ap (get_or moved other) (sym (new-stays r))
          ∙ get_or-map (exchange_moved_up r) node.exchanges other no_exchange)
          ∙ most-moved r (exchange_at other node)
    ]

most-begun : (node : Node) (link : ℕ) (most : Rights) (other : ℕ) → other < length node.exchanges
    → (get_or (set node.exchanges link (new_exchange most)) other no_exchange).most ≡ (if link == other then most else (exchange_at other node).most)
most-begun node link most other there =
    elim (cases_eq other link) [
      | inl same ↦ ap (λ (e : Exchange). e.most) (get_or-set_at node.exchanges link other (new_exchange most) no_exchange same (omega (arith, there, same)))
          ∙ ap (λ (b : Bool). if b then most else (exchange_at other node).most) (sym (eq-eqb link other (sym same)))
      | inr apart ↦ ap (λ (e : Exchange). e.most) (get_or-set_other node.exchanges link other (new_exchange most) no_exchange apart)
          ∙ ap (λ (b : Bool). if b then most else (exchange_at other node).most) (sym (ne_eqb link other (λ e. apart (sym e))))
    ]

most-dropped : (node : Node) (at : ℕ) (b : Bool) (link : ℕ) → (exchange_at link (if b then node else without_file at node)).most ≡ (exchange_at link node).most
most-dropped node at true link = refl
most-dropped node at false link = ap (λ (e : Exchange). e.most) (get_or-map (exchange_without at) node.exchanges link no_exchange)

most-after : (own : ServerSetup) (node : Node) (events : List Event) (link : ℕ) → link < length node.exchanges → (exchange_at link (after_all own node events)).most ≡ most_on link (exchange_at link node).most events
most-after own node [] link there = refl
most-after own node (Serves other item ∷ events) link there =
    let many = count-item own node other item in
    most-after own (after_event own node (Serves other item)) events link (omega (arith, there, many)) ∙ ap (λ (r : Rights). most_on link r events) (most-served own node other item link there)
most-after own node (Begins other most ∷ events) link there =
    let many = length-set node.exchanges other (new_exchange most) in
    most-after own (after_event own node (Begins other most)) events link (omega (arith, there, many)) ∙ ap (λ (r : Rights). most_on link r events) (most-begun node other most link there)
most-after own node (Gives name shape ∷ events) link there = most-after own (after_event own node (Gives name shape)) events link there
most-after own node (GivesRecord at number body ∷ events) link there = most-after own (after_event own node (GivesRecord at number body)) events link there
most-after own node (Drops at ∷ events) link there =
    let many = count-drop own node at in
    most-after own (after_event own node (Drops at)) events link (omega (arith, there, many)) ∙ ap (λ (r : Rights). most_on link r events) (most-dropped node at (is_open at node) link)

most-first : (most : Rights) (links link : ℕ) → link < links → (get_or (replicate links (new_exchange most)) link no_exchange).most ≡ most
most-first most zero link lt = absurd (let none : ⊥ = omega (arith, lt) in none)
most-first most (suc links) zero lt = refl
most-first most (suc links) (suc link) lt = most-first most links link (omega (arith, lt))

pub rights-last : (own : ServerSetup) (first : Files) (links : ℕ) (events : List Event) (link : ℕ) → link < links → (exchange_at link (node_after own first links events)).most ≡ most_on link own.most events
rights-last own first links events link lt =
    let many = length-replicate links (new_exchange own.most) in
    most-after own (new_node own first links) events link (omega (arith, lt, many)) ∙ ap (λ (r : Rights). most_on link r events) (most-first own.most links link lt)

-- ---- After any history.

pub answers-grow : (own : ServerSetup) (first : Files) (links : ℕ) (events : List Event) (link : ℕ) (item : Item) → link < links →
    AnswersOn link own first links (events ++ Serves link item ∷ []) ≡ AnswersOn link own first links events ++ added_on link own first links events item
answers-grow own first links events link item lt =
    let n = count-all own (new_node own first links) events in let m = length-replicate links (new_exchange own.most) in
    ap (λ (node : Node). answers_in (exchange_at link node).past) (all-more own (new_node own first links) events (Serves link item))
    ∙ grows own (node_after own first links events) link item (omega (arith, n, m, lt))

pub answers-stay : (own : ServerSetup) (first : Files) (links : ℕ) (events : List Event) (link other : ℕ) (item : Item) → other ≢ link →
    AnswersOn other own first links (events ++ Serves link item ∷ []) ≡ AnswersOn other own first links events
answers-stay own first links events link other item d =
    ap (λ (node : Node). answers_in (exchange_at other node).past) (all-more own (new_node own first links) events (Serves link item))
    ∙ stays own (node_after own first links events) link item other d

-- ---- A file that is dropped.

dropped-by : (node : Node) (link at : ℕ) (b : Bool) → answers_in (exchange_at link (if b then node else without_file at node)).past ≡ answers_in (exchange_at link node).past
dropped-by node link at true = refl
dropped-by node link at false = ap (λ (e : Exchange). answers_in e.past) (get_or-map (exchange_without at) node.exchanges link no_exchange)

pub answers-dropped : (own : ServerSetup) (first : Files) (links : ℕ) (events : List Event) (link at : ℕ) →
    AnswersOn link own first links (events ++ Drops at ∷ []) ≡ AnswersOn link own first links events
answers-dropped own first links events link at =
    let node = node_after own first links events in
    ap (λ (n : Node). answers_in (exchange_at link n).past) (all-more own (new_node own first links) events (Drops at))
    ∙ dropped-by node link at (is_open at node)
