-- A locked file has a holder.
use Rattle.std.proofs.Common.{◌≡◌, ◌≢◌, ℕ, suc, ◌<◌, ◌⊎◌, Bool, true, false, not, ◌==◌, ◌&&◌, ◌||◌, List, [], ◌∷◌, map, length, Option, Some, None, refl, ap, sym, subst, ◌∙◌, inl, inr, arith, ne_eqb}
use Rattle.std.specs.Prelude.{get_or, set}
use Rattle.std.specs.List.{list_any}
use Rattle.std.proofs.lemmas.Bool.{cases_eq, eq-eqb}
use Rattle.std.proofs.lemmas.List.{get_or-set_same, get_or-set_other, length-map, length-set, set-get_or, map-set}
use Rattle.std.proofs.lemmas.List.Folds.{list_any_at}
use Rattle.std.proofs.Math.ListN.{get_or-map}
use Rattle.dap_accessed.specs.declared.setup.ServerSetup.{ServerSetup}
use Rattle.dap_msg.specs.declared.items.Item.{Item}
use Rattle.dap_accessed.specs.declared.phase.OpenFile.{OpenFile}
use Rattle.dap_accessed.specs.Standing.{Files, ServerState, Fresh, Ready, Opened, Connected, Store, Stopped}
use Rattle.dap_shared.specs.Sharing.{asks_to_open, barred_by, bars, is_locked, open_in}
use Rattle.dap_shared.specs.Nodes.{Exchange, Node, asked_on, exchange_at, is_locked_out, locks_out, no_exchange, open_beside, open_on, setup_on}

-- the index of one that passes the test
abbrev Passes : (o : OpenFile) → List (Option OpenFile) → Type 0
Passes o xs = (i : ℕ) × (i < length xs) × (bars o (get_or xs i None) ≡ true)

found-by : (o : OpenFile) (x : Option OpenFile) (xs : List (Option OpenFile)) (b : Bool) → bars o x ≡ b → (list_any (bars o) xs ≡ true → Passes o xs) → (b || list_any (bars o) xs) ≡ true → Passes o (x ∷ xs)
found-by o x xs true is later e = (0, omega arith, is)
found-by o x xs false is later e = let r = later e in (suc r.0, (let lt = r.1 in omega (arith, lt)), r.2)

found : (o : OpenFile) (xs : List (Option OpenFile)) → list_any (bars o) xs ≡ true → Passes o xs
found o [] e = absurd (let none : ⊥ = cc in none)
found o (x ∷ xs) e = found-by o x xs (bars o x) refl (found o xs) e

-- what another link has open, as one of those beside
beside-at : (link : ℕ) (exchanges : List Exchange) (i : ℕ) → get_or (open_beside link exchanges) i None ≡ open_on (get_or (set exchanges link no_exchange) i no_exchange)
beside-at link exchanges i = get_or-map open_on (set exchanges link no_exchange) i no_exchange

count-beside : (link : ℕ) (exchanges : List Exchange) → length (open_beside link exchanges) ≡ length exchanges
count-beside link exchanges = length-map (set exchanges link no_exchange) open_on ∙ length-set exchanges link no_exchange

holder-of : (node : Node) (link : ℕ) (asked : Option OpenFile) → is_locked (open_beside link node.exchanges) asked ≡ true
    → (other : ℕ) × (other < length node.exchanges) × ((not (other == link) && barred_by asked (open_on (exchange_at other node))) ≡ true)
holder-of node link None e = absurd (let none : ⊥ = cc in none)
holder-of node link (Some o) e =
    let f = found o (open_beside link node.exchanges) e in
    let many = count-beside link node.exchanges in
    let lt : f.0 < length node.exchanges = omega (arith, f.1, many) in
    let here : bars o (open_on (get_or (set node.exchanges link no_exchange) f.0 no_exchange)) ≡ true = ap (bars o) (sym (beside-at link node.exchanges f.0)) ∙ f.2 in
    elim (cases_eq f.0 link) [
      | inl same ↦
          let new = get_or-set_same node.exchanges link no_exchange no_exchange (subst (λ (k : ℕ). k < length node.exchanges) same lt) in
          let own : bars o (open_on (get_or (set node.exchanges link no_exchange) link no_exchange)) ≡ true = subst (λ (k : ℕ). bars o (open_on (get_or (set node.exchanges link no_exchange) k no_exchange)) ≡ true) same here in
          let not_so : false ≡ true = ap (λ (x : Exchange). bars o (open_on x)) (sym new) ∙ own in
          absurd (let none : ⊥ = cc in none)
      | inr apart ↦
          let other = get_or-set_other node.exchanges link f.0 no_exchange no_exchange apart in
          (f.0, lt, ap (λ (b : Bool). not b && bars o (open_on (exchange_at f.0 node))) (ne_eqb f.0 link apart) ∙ ap (λ (x : Exchange). bars o (open_on x)) (sym other) ∙ here)
    ]

pub has-holder : (own : ServerSetup) (node : Node) (link : ℕ) (item : Item) → is_locked_out own link node item ≡ true → (other : ℕ) × (other < length node.exchanges) × (locks_out own other link node item ≡ true)
has-holder own node link item e = holder-of node link (asked_on own link node item) e

locked-by : (node : Node) (link other : ℕ) (asked : Option OpenFile) (b : Bool) → (other == link) ≡ b → other < length node.exchanges → (not b && barred_by asked (open_on (exchange_at other node))) ≡ true → is_locked (open_beside link node.exchanges) asked ≡ true
locked-by node link other asked true is lt e = absurd (let none : ⊥ = cc in none)
locked-by node link other None false is lt e = absurd (let none : ⊥ = cc in none)
locked-by node link other (Some o) false is lt e =
    let apart : other ≢ link = λ same. (let eq : false ≡ true = sym is ∙ eq-eqb other link same in let none : ⊥ = cc in none) in
    let at = get_or-set_other node.exchanges link other no_exchange no_exchange apart in
    let many = count-beside link node.exchanges in
    list_any_at (bars o) (open_beside link node.exchanges) other None (omega (arith, lt, many))
    (ap (bars o) (beside-at link node.exchanges other) ∙ ap (λ (x : Exchange). bars o (open_on x)) at ∙ e)

pub is-holder : (own : ServerSetup) (node : Node) (link other : ℕ) (item : Item) → other < length node.exchanges → locks_out own other link node item ≡ true → is_locked_out own link node item ≡ true
is-holder own node link other item lt e = locked-by node link other (asked_on own link node item) (other == link) refl lt e

-- ---- Beside the link's own: it has nothing open where it asks to open.

ready-or-none : (own : ServerSetup) (files : Files) (state : ServerState) (item : Item) → (open_in state ≡ None) ⊎ (asks_to_open own files state item ≡ None)
ready-or-none own files Fresh item = inl refl
ready-or-none own files Ready item = inl refl
ready-or-none own files (Opened opened) item = inr refl
ready-or-none own files (Connected opened stream) item = inr refl
ready-or-none own files (Store opened stream) item = inr refl
ready-or-none own files (Stopped opened stream) item = inr refl

-- an index that has this already
beside-all : (link : ℕ) (exchanges : List Exchange) → open_on (get_or exchanges link no_exchange) ≡ None → open_beside link exchanges ≡ map open_on exchanges
beside-all link exchanges none =
    let at : get_or (map open_on exchanges) link None ≡ None = get_or-map open_on exchanges link no_exchange ∙ none in
    map-set open_on exchanges link no_exchange
    ∙ ap (λ (x : Option OpenFile). set (map open_on exchanges) link x) (sym at)
    ∙ set-get_or (map open_on exchanges) link None

-- so it may be asked of all links
pub locked-by-all : (own : ServerSetup) (node : Node) (link : ℕ) (item : Item) → is_locked (map open_on node.exchanges) (asked_on own link node item) ≡ is_locked_out own link node item
locked-by-all own node link item =
    elim (ready-or-none (setup_on own link node) node.files (exchange_at link node).state item) [
      | inl none ↦ ap (λ (l : List (Option OpenFile)). is_locked l (asked_on own link node item)) (sym (beside-all link node.exchanges none))
      | inr none ↦ ap (is_locked (map open_on node.exchanges)) none ∙ sym (ap (is_locked (open_beside link node.exchanges)) none)
    ]
