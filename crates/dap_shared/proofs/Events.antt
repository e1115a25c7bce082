-- Every event leaves the links so that none has open what another may change.
use Rattle.std.proofs.Common.{◌≡◌, ◌≢◌, ℕ, zero, suc, ◌<◌, ◌≤◌, Bool, true, false, List, [], ◌∷◌, length, map, Option, Some, None, refl, ap, sym, subst, ◌∙◌, inl, inr, arith, eq-eqb}
use Rattle.std.specs.Prelude.{IfSome, if◌then◌else◌, ◌==◌, ◌||◌, ◌&&◌, get_or, set, replicate, option_map}
use Rattle.std.specs.List.{list_any}
use Rattle.std.proofs.lemmas.Bool.{cases_eq, ne_eqb}
use Rattle.std.proofs.lemmas.List.{get_or-set_same, get_or-set_other, length-append, length-map, length-set, length-replicate}
use Rattle.std.proofs.Math.ListN.{get_or-map}
use Rattle.dap_accessed.specs.declared.setup.ServerSetup.{ServerSetup}
use Rattle.dap_msg.specs.declared.items.Item.{Item}
use Rattle.dap_accessed.specs.declared.phase.OpenFile.{OpenFile}
use Rattle.dap_accessed.specs.Replies.{bare_status}
use Rattle.rec_file.specs.Files.{file_with_record}
use Rattle.rec_file.specs.declared.picks.Rights.{Rights}
use Rattle.dap_accessed.specs.Adding.{name_given, with_new_file}
use Rattle.dap_accessed.specs.Asked.{made_file}
use Rattle.dap_accessed.specs.Sessions.{moved_up}
use Rattle.dap_accessed.proofs.ForCallers.{length-with}
use Rattle.dap_accessed.specs.Setup.{all_rights}
use Rattle.dap_accessed.specs.Standing.{file_at, Files, ServerState, Fresh, Ready, Opened, Connected, Store, Stopped}
use Rattle.dap_accessed.specs.Accesses.{refuse_access}
use Rattle.dap_accessed.specs.Effects.{Begun, Does}
use Rattle.dap_accessed.specs.Groups.{GroupedItems}
use Rattle.dap_accessed.specs.Groups.{after_item, next_group}
use Rattle.dap_shared.specs.Sharing.{open_in, has_alone, are_apart, bars, is_file, is_locked, asks_to_open, file_locked, state_moved_up}
use Rattle.dap_shared.specs.Nodes.{Exchange, Node, new_exchange, no_exchange, new_node, exchange_at, exchange_of, end_at, before_files, open_on, open_beside, more_beside, begun_moved_up, exchange_moved_up, exchange_without, removed_by, asked_on, is_open, without_file, with_record_at, setup_on, after_event, after_all, node_after, Event, Serves, Begins, Gives, GivesRecord, Drops}
use Rattle.dap_shared.proofs.Changes.{closes, HasRights, IsSteady, Goes, one-goes}
use Rattle.dap_shared.specs.Keeping.{AreOf, AreApart, HoldsStill}
use Rattle.dap_shared.proofs.Shares.{shifted, Aside, aside, dropped, aside-dropped, gone, stays-none, two-options, own-within}

-- the link's stream has the rights of its Access
abbrev pub IsSteadyExchange : Exchange → Type 0
IsSteadyExchange exchange = IsSteady (before_files [] exchange)

pub record IsShared (node : Node) : Type 0 where
  pub steady : (link : ℕ) → IsSteadyExchange (exchange_at link node)
  pub within : (link : ℕ) → IfSome (open_on (exchange_at link node)) (λ o. o.at < length node.files)
  pub apart : (one two : ℕ) → one ≢ two → AreApart (open_on (exchange_at one node)) (open_on (exchange_at two node))

-- ---- Exchanges.

pub new-stays : (r : Option OpenFile) → exchange_moved_up r no_exchange ≡ no_exchange
new-stays None = refl
new-stays (Some removed) = refl

same-map : (o : Option OpenFile) → o ≡ option_map (shifted None) o
same-map None = refl
same-map (Some o) = refl

open-moved : (removed : OpenFile) (state : ServerState) → open_in (state_moved_up removed.at state) ≡ option_map (shifted (Some removed)) (open_in state)
open-moved removed Fresh = refl
open-moved removed Ready = refl
open-moved removed (Opened o) = refl
open-moved removed (Connected o s) = refl
open-moved removed (Store o s) = refl
open-moved removed (Stopped o s) = refl

open-shifted : (r : Option OpenFile) (exchange : Exchange) → open_on (exchange_moved_up r exchange) ≡ option_map (shifted r) (open_on exchange)
open-shifted None exchange = same-map (open_on exchange)
open-shifted (Some removed) exchange = open-moved removed exchange.state

rights-moved : (removed : ℕ) (state : ServerState) → HasRights state → HasRights (state_moved_up removed state)
rights-moved removed Fresh h = tt
rights-moved removed Ready h = tt
rights-moved removed (Opened o) h = tt
rights-moved removed (Connected o s) h = h
rights-moved removed (Store o s) h = h
rights-moved removed (Stopped o s) h = h

begun-moved : (removed : OpenFile) (state : ServerState) (begun : Option Begun) → IfSome begun (λ b. (open_in state ≡ Some b.opened) × (b.stream.rights ≡ b.opened.rights))
    → IfSome (option_map (begun_moved_up removed.at) begun) (λ b. (open_in (state_moved_up removed.at state) ≡ Some b.opened) × (b.stream.rights ≡ b.opened.rights))
begun-moved removed state None h = tt
begun-moved removed state (Some b) h = (open-moved removed state ∙ ap (option_map (shifted (Some removed))) h.0, h.1)

steady-moved : (r : Option OpenFile) (exchange : Exchange) → IsSteadyExchange exchange → IsSteadyExchange (exchange_moved_up r exchange)
steady-moved None exchange h = h
steady-moved (Some removed) exchange h = record { rights = rights-moved removed.at exchange.state h.rights; begun = begun-moved removed exchange.state exchange.begun h.begun }

neither : (a b : Bool) → (a || b) ≡ false → (a ≡ false) × (b ≡ false)
neither true b e = cc
neither false b e = (refl, e)

any-false : (o : OpenFile) (xs : List (Option OpenFile)) (j : ℕ) → list_any (bars o) xs ≡ false → bars o (get_or xs j None) ≡ false
any-false o [] j e = refl
any-false o (x ∷ xs) zero e = (neither (bars o x) (list_any (bars o) xs) e).0
any-false o (x ∷ xs) (suc j) e = any-false o xs j (neither (bars o x) (list_any (bars o) xs) e).1

or-swapped : (a b : Bool) → (a || b) ≡ (b || a)
or-swapped true true = refl
or-swapped true false = refl
or-swapped false true = refl
or-swapped false false = refl

eq-swapped : (a b : ℕ) → (a == b) ≡ (b == a)
eq-swapped a b =
    elim (cases_eq a b) [
      | inl same ↦ eq-eqb a b same ∙ sym (eq-eqb b a (sym same))
      | inr other ↦ ne_eqb a b other ∙ sym (ne_eqb b a (λ e. other (sym e)))
    ]

apart-swapped : (one two : Option OpenFile) → AreApart one two → AreApart two one
apart-swapped None None h = tt
apart-swapped None (Some two) h = tt
apart-swapped (Some one) None h = tt
apart-swapped (Some one) (Some two) h =
    ap (λ b. b && (has_alone two || has_alone one)) (eq-swapped two.at one.at) ∙ ap (λ b. (one.at == two.at) && b) (or-swapped (has_alone two) (has_alone one)) ∙ h

nothing : (o : Option OpenFile) → AreApart o None
nothing None = tt
nothing (Some o) = tt

-- ---- An item.

-- what it does, where it is locked out or not
goes-by : (own : ServerSetup) (node : Node) (link : ℕ) (item : Item) → IsShared node → (locked : Bool) → let old = end_at link node in let its = setup_on own link node in
    Goes old (if locked then next_group its old.standing item (Does (refuse_access old.standing.scene (bare_status file_locked))) else after_item its old item) (if locked then None else asks_to_open its node.files old.standing.state item)
goes-by own node link item h true = record { moved = closes (open_on (exchange_at link node)); steady = record { rights = tt; begun = tt } }
goes-by own node link item h false = one-goes (setup_on own link node) (end_at link node) item (record { rights = (h.steady link).rights; begun = (h.steady link).begun })

-- a group of two that it begins has the open file
pub served-begun : (own : ServerSetup) (node : Node) (link : ℕ) (item : Item) → IsShared node → let new = more_beside (setup_on own link node) (open_beside link node.exchanges) (end_at link node) item in
    IfSome new.begun (λ b. (open_in new.standing.state ≡ Some b.opened) × (b.stream.rights ≡ b.opened.rights))
served-begun own node link item h =
    let its = setup_on own link node in
    (goes-by own node link item h (is_locked (open_beside link node.exchanges) (asks_to_open its node.files (exchange_at link node).state item))).steady.begun

module _ (own : ServerSetup) (node : Node) (link : ℕ) (item : Item) (there : link < length node.exchanges) (h : IsShared node) where
  abbrev old : GroupedItems
  old = end_at link node

  abbrev others : List (Option OpenFile)
  others = open_beside link node.exchanges

  abbrev its : ServerSetup
  its = setup_on own link node

  abbrev most : Rights
  most = (exchange_at link node).most

  abbrev new : GroupedItems
  new = more_beside its others old item

  abbrev after : Node
  after = after_event own node (Serves link item)

  abbrev asked : Option OpenFile
  asked = asks_to_open its node.files old.standing.state item

  abbrev removed : Option OpenFile
  removed = removed_by asked old new

  abbrev asks : Bool → Option OpenFile
  asks locked = if locked then None else asked

  went : Goes old new (asks (is_locked others asked))
  went = goes-by own node link item h (is_locked others asked)

  -- where a file is locked, nothing is gone
  same-gone : (locked : Bool) → let d = (if locked then next_group its old.standing item (Does (refuse_access old.standing.scene (bare_status file_locked))) else after_item its old item) in
      gone node.files d.standing.scene.files (open_in old.standing.state) (open_in d.standing.state) (asks locked) ≡ gone node.files d.standing.scene.files (open_in old.standing.state) (open_in d.standing.state) asked
  same-gone true = stays-none node.files (open_in old.standing.state) None ∙ sym (stays-none node.files (open_in old.standing.state) asked)
  same-gone false = refl

  exchange-own : exchange_at link after ≡ exchange_of most new
  exchange-own = get_or-set_same (map (exchange_moved_up removed) node.exchanges) link (exchange_of most new) no_exchange (omega (arith, there, length-map node.exchanges (exchange_moved_up removed)))

  exchange-other : (j : ℕ) → j ≢ link → exchange_at j after ≡ exchange_moved_up removed (exchange_at j node)
  exchange-other j d =
      get_or-set_other (map (exchange_moved_up removed) node.exchanges) link j (exchange_of most new) no_exchange d
      ∙ ap (get_or (map (exchange_moved_up removed) node.exchanges) j) (sym (new-stays removed))
      ∙ get_or-map (exchange_moved_up removed) node.exchanges j no_exchange

  beside : (j : ℕ) → j ≢ link → get_or others j None ≡ open_on (exchange_at j node)
  beside j d = get_or-map open_on (set node.exchanges link no_exchange) j no_exchange ∙ ap open_on (get_or-set_other node.exchanges link j no_exchange no_exchange d)

  free-by : (locked : Bool) → is_locked others asked ≡ locked → (j : ℕ) → j ≢ link → (p o : OpenFile) → open_on (exchange_at j node) ≡ Some p → asks locked ≡ Some o → are_apart o p ≡ false
  free-by true e j d p o is a = cc
  free-by false e j d p o is a =
      let none : list_any (bars o) others ≡ false = sym (ap (is_locked others) a) ∙ e in
      sym (ap (bars o) (beside j d ∙ is)) ∙ any-false o others j none

  -- what another link has open
  stays : (j : ℕ) → j ≢ link → (p : OpenFile) → open_on (exchange_at j node) ≡ Some p → Aside node.files after.files (open_in new.standing.state) removed p
  stays j d p is =
      subst (λ (r : Option OpenFile). Aside node.files after.files (open_in new.standing.state) r p) (same-gone (is_locked others asked))
      (aside node.files (asks (is_locked others asked)) p
      (subst (λ (x : Option OpenFile). IfSome x (λ o. o.at < length node.files)) is (h.within j))
      (λ o a. free-by (is_locked others asked) refl j d p o is a)
      (open_in old.standing.state) after.files (open_in new.standing.state) went.moved (h.within link)
      (subst (AreApart (open_on (exchange_at link node))) is (h.apart link j (λ e. d (sym e)))))

  open-other : (j : ℕ) → j ≢ link → open_on (exchange_at j after) ≡ option_map (shifted removed) (open_on (exchange_at j node))
  open-other j d = ap open_on (exchange-other j d) ∙ open-shifted removed (exchange_at j node)

  -- ---- It stays so.

  some-within : (o : Option OpenFile) → ((p : OpenFile) → o ≡ Some p → (shifted removed p).at < length after.files) → IfSome (option_map (shifted removed) o) (λ q. q.at < length after.files)
  some-within None f = tt
  some-within (Some p) f = f p refl

  some-apart : (o : Option OpenFile) → ((p : OpenFile) → o ≡ Some p → AreApart (open_in new.standing.state) (Some (shifted removed p))) → AreApart (open_in new.standing.state) (option_map (shifted removed) o)
  some-apart None f = nothing (open_in new.standing.state)
  some-apart (Some p) f = f p refl

  steady-then : (j : ℕ) → IsSteadyExchange (exchange_at j after)
  steady-then j =
      elim (cases_eq j link) [
        | inl same ↦ subst (λ k. IsSteadyExchange (exchange_at k after)) (sym same) (subst IsSteadyExchange (sym exchange-own) (record { rights = went.steady.rights; begun = went.steady.begun }))
        | inr d ↦ subst IsSteadyExchange (sym (exchange-other j d)) (steady-moved removed (exchange_at j node) (h.steady j))
      ]

  within-then : (own-within : IfSome (open_in new.standing.state) (λ o. o.at < length after.files)) (j : ℕ) → IfSome (open_on (exchange_at j after)) (λ o. o.at < length after.files)
  within-then w j =
      elim (cases_eq j link) [
        | inl same ↦ subst (λ k. IfSome (open_on (exchange_at k after)) (λ o. o.at < length after.files)) (sym same) (subst (λ (exchange : Exchange). IfSome (open_on exchange) (λ o. o.at < length after.files)) (sym exchange-own) w)
        | inr d ↦ subst (λ (x : Option OpenFile). IfSome x (λ o. o.at < length after.files)) (sym (open-other j d)) (some-within (open_on (exchange_at j node)) (λ p is. (stays j d p is).within))
      ]

  with-own : (j : ℕ) → j ≢ link → AreApart (open_on (exchange_at link after)) (open_on (exchange_at j after))
  with-own j d =
      subst (λ (exchange : Exchange). AreApart (open_on exchange) (open_on (exchange_at j after))) (sym exchange-own)
      (subst (AreApart (open_in new.standing.state)) (sym (open-other j d)) (some-apart (open_on (exchange_at j node)) (λ p is. (stays j d p is).apart)))

  both-others : (i j : ℕ) → i ≢ link → j ≢ link → i ≢ j → AreApart (open_on (exchange_at i after)) (open_on (exchange_at j after))
  both-others i j di dj d =
      subst (λ (x : Option OpenFile). AreApart x (open_on (exchange_at j after))) (sym (open-other i di))
      (subst (AreApart (option_map (shifted removed) (open_on (exchange_at i node)))) (sym (open-other j dj))
      (two-options removed (open_on (exchange_at i node)) (open_on (exchange_at j node)) (h.apart i j d) (λ p is. (stays i di p is).elsewhere) (λ p is. (stays j dj p is).elsewhere)))

  apart-then : (i j : ℕ) → i ≢ j → AreApart (open_on (exchange_at i after)) (open_on (exchange_at j after))
  apart-then i j d =
      elim (cases_eq i link) [
        | inl same ↦ subst (λ k. AreApart (open_on (exchange_at k after)) (open_on (exchange_at j after))) (sym same) (with-own j (λ e. d (same ∙ sym e)))
        | inr di ↦ elim (cases_eq j link) [
          | inl same ↦ subst (λ k. AreApart (open_on (exchange_at i after)) (open_on (exchange_at k after))) (sym same) (apart-swapped (open_on (exchange_at link after)) (open_on (exchange_at i after)) (with-own i di))
          | inr dj ↦ both-others i j di dj d
        ]
      ]

  pub item-shares : IsShared after
  item-shares =
      record {
        steady = steady-then;
        within = within-then (own-within node.files (asks (is_locked others asked)) (open_in old.standing.state) after.files (open_in new.standing.state) went.moved (h.within link));
        apart = apart-then;
      }

  moved-is : (r : Option OpenFile) (p : OpenFile) → shifted r p ≡ record p { at = (shifted r p).at }
  moved-is None p = refl
  moved-is (Some o) p = refl

  pub holds-still : (j : ℕ) → j ≢ link → (p : OpenFile) → open_on (exchange_at j node) ≡ Some p → HoldsStill j node after p
  holds-still j d p is =
      let a = stays j d p is in (shifted removed p, open-other j d ∙ ap (option_map (shifted removed)) is, moved-is removed p, a.within, a.same)

-- ---- Any history.

none-first : (o : Option OpenFile) → AreApart None o
none-first None = tt
none-first (Some o) = tt

-- an exchange of a list in which one is new
pub one-new : (exchanges : List Exchange) (link j : ℕ) (new : Exchange) (P : Exchange → Type 0) → P new → P (get_or exchanges j no_exchange) → P (get_or (set exchanges link new) j no_exchange)
one-new [] link j new P n p = p
one-new (exchange ∷ exchanges) zero zero new P n p = n
one-new (exchange ∷ exchanges) zero (suc j) new P n p = p
one-new (exchange ∷ exchanges) (suc link) zero new P n p = p
one-new (exchange ∷ exchanges) (suc link) (suc j) new P n p = one-new exchanges link j new P n p

still-within : (o : Option OpenFile) (few many : ℕ) → few ≤ many → IfSome o (λ p. p.at < few) → IfSome o (λ p. p.at < many)
still-within None few many le h = tt
still-within (Some p) few many le h = omega (arith, le, h)

begin-shares : (own : ServerSetup) (node : Node) (link : ℕ) (most : Rights) → IsShared node → IsShared (after_event own node (Begins link most))
begin-shares own node link most h =
    let new = new_exchange most in
    record {
      steady = λ j. one-new node.exchanges link j new IsSteadyExchange (record { rights = tt; begun = tt }) (h.steady j);
      within = λ j. one-new node.exchanges link j new (λ exchange. IfSome (open_on exchange) (λ o. o.at < length node.files)) tt (h.within j);
      apart = λ i j d. one-new node.exchanges link i new (λ exchange. AreApart (open_on exchange) (open_on (exchange_at j (after_event own node (Begins link most))))) (none-first (open_on (exchange_at j (after_event own node (Begins link most)))))
          (one-new node.exchanges link j new (λ exchange. AreApart (open_on (exchange_at i node)) (open_on exchange)) (nothing (open_on (exchange_at i node))) (h.apart i j d));
    }

-- files that are given leave what is open
given-shares : (node : Node) (files : Files) → length node.files ≤ length files → IsShared node → IsShared (record node { files = files })
given-shares node files le h =
    record {
      steady = h.steady;
      within = λ link. still-within (open_on (exchange_at link node)) (length node.files) (length files) le (h.within link);
      apart = h.apart;
    }

-- ---- A file that is dropped.

none-any : {A : Type 0} (test : A → Bool) (xs : List A) (j : ℕ) (d : A) → test d ≡ false → list_any test xs ≡ false → test (get_or xs j d) ≡ false
none-any test [] j d n e = n
none-any test (x ∷ xs) zero d n e = (neither (test x) (list_any test xs) e).0
none-any test (x ∷ xs) (suc j) d n e = none-any test xs j d n (neither (test x) (list_any test xs) e).1

some-moved : (P : OpenFile → Type 0) (f : OpenFile → OpenFile) (o : Option OpenFile) → ((p : OpenFile) → o ≡ Some p → P (f p)) → IfSome (option_map f o) P
some-moved P f None g = tt
some-moved P f (Some p) g = g p refl

module _ (node : Node) (at : ℕ) (h : IsShared node) (closed : is_open at node ≡ false) where
  abbrev later : Node
  later = without_file at node

  exchange-later : (j : ℕ) → exchange_at j later ≡ exchange_moved_up (Some (dropped at)) (exchange_at j node)
  exchange-later j = get_or-map (exchange_without at) node.exchanges j no_exchange

  open-later : (j : ℕ) → open_on (exchange_at j later) ≡ option_map (shifted (Some (dropped at))) (open_on (exchange_at j node))
  open-later j = ap open_on (exchange-later j) ∙ open-shifted (Some (dropped at)) (exchange_at j node)

  elsewhere : (j : ℕ) (p : OpenFile) → open_on (exchange_at j node) ≡ Some p → at ≢ p.at
  elsewhere j p is same =
      let none : is_file at (open_on (exchange_at j node)) ≡ false = none-any (λ (exchange : Exchange). is_file at (open_on exchange)) node.exchanges j no_exchange refl closed in
      let both : true ≡ false = sym (eq-eqb p.at at (sym same)) ∙ sym (ap (is_file at) is) ∙ none in cc

  aside-later : (j : ℕ) (p : OpenFile) → open_on (exchange_at j node) ≡ Some p → Aside node.files later.files None (Some (dropped at)) p
  aside-later j p is =
      aside-dropped node.files at p (subst (λ (x : Option OpenFile). IfSome x (λ o. o.at < length node.files)) is (h.within j)) (elsewhere j p is)

  without-shares : IsShared later
  without-shares =
      record {
        steady = λ j. subst IsSteadyExchange (sym (exchange-later j)) (steady-moved (Some (dropped at)) (exchange_at j node) (h.steady j));
        within = λ j. subst (λ (x : Option OpenFile). IfSome x (λ o. o.at < length later.files)) (sym (open-later j))
            (some-moved (λ o. o.at < length later.files) (shifted (Some (dropped at))) (open_on (exchange_at j node)) (λ p is. (aside-later j p is).within));
        apart = λ i j d. subst (λ (x : Option OpenFile). AreApart x (open_on (exchange_at j later))) (sym (open-later i))
            (subst (AreApart (option_map (shifted (Some (dropped at))) (open_on (exchange_at i node)))) (sym (open-later j))
            (two-options (Some (dropped at)) (open_on (exchange_at i node)) (open_on (exchange_at j node)) (h.apart i j d) (λ p is. (aside-later i p is).elsewhere) (λ p is. (aside-later j p is).elsewhere)));
      }

  without-holds : (j : ℕ) (p : OpenFile) → open_on (exchange_at j node) ≡ Some p → HoldsStill j node later p
  without-holds j p is =
      let a = aside-later j p is in (moved_up at p, open-later j ∙ ap (option_map (shifted (Some (dropped at)))) is, refl, a.within, a.same)

drops-by : (node : Node) (at : ℕ) (b : Bool) → is_open at node ≡ b → IsShared node → IsShared (if b then node else without_file at node)
drops-by node at true e h = h
drops-by node at false e h = without-shares node at h e

drop-shares : (own : ServerSetup) (node : Node) (at : ℕ) → IsShared node → IsShared (after_event own node (Drops at))
drop-shares own node at h = drops-by node at (is_open at node) refl h

holds-by : (node : Node) (at : ℕ) (b : Bool) → is_open at node ≡ b → IsShared node → (j : ℕ) (p : OpenFile) → open_on (exchange_at j node) ≡ Some p → HoldsStill j node (if b then node else without_file at node) p
holds-by node at true e h j p is = (p, is, refl, subst (λ (x : Option OpenFile). IfSome x (λ o. o.at < length node.files)) is (h.within j), refl)
holds-by node at false e h j p is = without-holds node at h e j p is

-- what a link has open stays so where a file is dropped
pub drop-holds : (own : ServerSetup) (node : Node) (at : ℕ) → IsShared node → (j : ℕ) (p : OpenFile) → open_on (exchange_at j node) ≡ Some p → HoldsStill j node (after_event own node (Drops at)) p
drop-holds own node at h j p is = holds-by node at (is_open at node) refl h j p is

open-stays : (own : ServerSetup) (node : Node) (at : ℕ) (b : Bool) → is_open at node ≡ b → b ≡ true → (if b then node else without_file at node) ≡ node
open-stays own node at true e is = refl
open-stays own node at false e is = cc

-- a file that is open isn't dropped
pub drop-refused : (own : ServerSetup) (node : Node) (at : ℕ) → is_open at node ≡ true → after_event own node (Drops at) ≡ node
drop-refused own node at is = open-stays own node at (is_open at node) refl is

counts-by : (node : Node) (at : ℕ) (b : Bool) → length (if b then node else without_file at node).exchanges ≡ length node.exchanges
counts-by node at true = refl
counts-by node at false = length-map node.exchanges (exchange_without at)

pub count-drop : (own : ServerSetup) (node : Node) (at : ℕ) → length (after_event own node (Drops at)).exchanges ≡ length node.exchanges
count-drop own node at = counts-by node at (is_open at node)

-- ---- Every event.

pub count-item : (own : ServerSetup) (node : Node) (link : ℕ) (item : Item) → length (after_event own node (Serves link item)).exchanges ≡ length node.exchanges
count-item own node link item =
    let c = end_at link node in
    let d = more_beside (setup_on own link node) (open_beside link node.exchanges) c item in
    let r = removed_by (asked_on own link node item) c d in
    length-set (map (exchange_moved_up r) node.exchanges) link (exchange_of (exchange_at link node).most d) ∙ length-map node.exchanges (exchange_moved_up r)

pub all-share : (own : ServerSetup) (links : ℕ) (node : Node) (events : List Event) → length node.exchanges ≡ links → AreOf links events → IsShared node → IsShared (after_all own node events) × (length (after_all own node events).exchanges ≡ links)
all-share own links node [] n o h = (h, n)
all-share own links node (Serves link item ∷ events) n o h =
    all-share own links (after_event own node (Serves link item)) events (count-item own node link item ∙ n) o.1 (item-shares own node link item (omega (arith, n, o.0)) h)
all-share own links node (Begins link most ∷ events) n o h =
    all-share own links (after_event own node (Begins link most)) events (length-set node.exchanges link (new_exchange most) ∙ n) o.1 (begin-shares own node link most h)
all-share own links node (Gives name asked ∷ events) n o h =
    let longer = length-append node.files ((name_given own.names name node.files, made_file asked) ∷ []) in
    all-share own links (after_event own node (Gives name asked)) events n o (given-shares node (with_new_file own.names name asked node.files) (omega (arith, longer)) h)
all-share own links node (GivesRecord at number body ∷ events) n o h =
    let same = length-with node.files at (file_with_record (file_at at node.files) number body) in
    all-share own links (after_event own node (GivesRecord at number body)) events n o (given-shares node (with_record_at at number body node.files) (omega (arith, same)) h)
all-share own links node (Drops at ∷ events) n o h =
    all-share own links (after_event own node (Drops at)) events (count-drop own node at ∙ n) o (drop-shares own node at h)

all-new : (own : ServerSetup) (P : Exchange → Type 0) → ((most : Rights) → P (new_exchange most)) → (links link : ℕ) → P (get_or (replicate links (new_exchange own.most)) link no_exchange)
all-new own P p zero link = p all_rights
all-new own P p (suc links) zero = p own.most
all-new own P p (suc links) (suc link) = all-new own P p links link

new-shares : (own : ServerSetup) (first : Files) (links : ℕ) → IsShared (new_node own first links)
new-shares own first links =
    record {
      steady = all-new own IsSteadyExchange (λ most. record { rights = tt; begun = tt }) links;
      within = all-new own (λ exchange. IfSome (open_on exchange) (λ o. o.at < length first)) (λ most. tt) links;
      apart = λ one two d. all-new own (λ exchange. AreApart (open_on exchange) (open_on (exchange_at two (new_node own first links)))) (λ most. none-first (open_on (exchange_at two (new_node own first links)))) links one;
    }

pub history-shares : (own : ServerSetup) (first : Files) (links : ℕ) (events : List Event) → AreOf links events → IsShared (node_after own first links events) × (length (node_after own first links events).exchanges ≡ links)
history-shares own first links events o = all-share own links (new_node own first links) events (length-replicate links (new_exchange own.most)) o (new-shares own first links)
