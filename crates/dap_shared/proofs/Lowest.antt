-- The lowest address, one link more.
use Rattle.std.proofs.Common.{◌≡◌, ℕ, ◌+◌, ◌<◌, ◌≤◌, ◌⊎◌, Bool, true, false, List, [], ◌∷◌, length, Option, Some, None, refl, sym, subst, ◌∙◌, inl, inr, arith}
use Rattle.std.specs.Prelude.{IfOk, IfSome, IsTrue, Result, Ok, Err, ◌++◌, if◌then◌else◌}
use Rattle.std.specs.Option.{option_to_list}
use Rattle.dap_accessed.specs.declared.setup.ServerSetup.{ServerSetup}
use Rattle.dap_msg.specs.Items.{ItemAt}
use Rattle.dap_accessed.specs.Standing.{Files}
use Rattle.dap_accessed.specs.declared.fault.NoMemory.{NoMemory}
use Rattle.dap_accessed.specs.declared.served.Served.{Served}
use Rattle.dap_msg.specs.declared.message.Message.{Message}
use Rattle.dap_shared.specs.Shared.{IsSilentAt, SharedAfter, SharedServes}
use Rattle.std.proofs.lemmas.Bool.{cases_eq}
use Rattle.dap_msg.specs.declared.items.Item.{Item}
use Rattle.dap_shared.specs.Nodes.{Event, Node, is_locked_out, locks_out, node_after}
use Rattle.dap_shared.specs.Noted.{IsLowest, LeastOf, NotedServed, NotedValue}
use Rattle.dap_shared.specs.Inner.Lower.{IsLower}
use Rattle.dap_shared.proofs.Events.{history-shares}
use Rattle.dap_shared.proofs.Holders.{is-holder}

module _ (test : ℕ → Bool) (number : ℕ → ℕ) (k : ℕ) where
  none-more : test k ≡ false → LeastOf test number k None → LeastOf test number (k + 1) None
  none-more not_k h i lt = elim (cases_eq i k) [
    | inl same ↦ subst (λ (j : ℕ). test j ≡ false) (sym same) not_k
    | inr other ↦ h i (omega (arith, lt, other))
  ]

  -- it doesn't pass
  pub not-more : (low : Option ℕ) → test k ≡ false → LeastOf test number k low → LeastOf test number (k + 1) low
  not-more None not_k h = none-more not_k h
  not-more (Some n) not_k h = (
    let lt = h.0.1 in (h.0.0, omega (arith, lt), h.0.2, h.0.3),
    λ i lt is. elim (cases_eq i k) [
      | inl same ↦ (let off : false ≡ true = sym not_k ∙ subst (λ (j : ℕ). test j ≡ true) same is in absurd (let none : ⊥ = cc in none))
      | inr other ↦ h.1 i (omega (arith, lt, other)) is
    ],
  )

  below : (low : Option ℕ) (n : ℕ) → n ≤ number k → IfSome low (λ m. n ≤ m) → LeastOf test number k low → (i : ℕ) → i < k + 1 → IsTrue (test i) → n ≤ number i
  below None n own other h i lt is = elim (cases_eq i k) [
    | inl same ↦ subst (λ (j : ℕ). n ≤ number j) (sym same) own
    | inr apart ↦ (let off : false ≡ true = sym (h i (omega (arith, lt, apart))) ∙ is in absurd (let none : ⊥ = cc in none))
  ]
  below (Some m) n own other h i lt is = elim (cases_eq i k) [
    | inl same ↦ subst (λ (j : ℕ). n ≤ number j) (sym same) own
    | inr apart ↦ (let more = h.1 i (omega (arith, lt, apart)) is in omega (arith, other, more))
  ]

  one-of : (low : Option ℕ) (n : ℕ) → IsTrue (test k) → (n ≡ number k) ⊎ (low ≡ Some n) → LeastOf test number k low → (i : ℕ) × (i < k + 1) × IsTrue (test i) × (n ≡ number i)
  one-of low n is (inl own) h = (k, omega arith, is, own)
  one-of None n is (inr e) h = absurd (let none : ⊥ = cc in none)
  one-of (Some m) n is (inr e) h =
      let same : m ≡ n = cc in
      let lt = h.0.1 in
      (h.0.0, omega (arith, lt), h.0.2, sym same ∙ h.0.3)

  -- it passes
  pub one-more : (low : Option ℕ) (n : ℕ) → IsTrue (test k) → n ≤ number k → IfSome low (λ m. n ≤ m) → (n ≡ number k) ⊎ (low ≡ Some n) → LeastOf test number k low → LeastOf test number (k + 1) (Some n)
  one-more low n is own other one h = (one-of low n is one h, below low n own other h)

module _ (test : ℕ → Bool) (number : ℕ → ℕ) (k : ℕ) where
  pub step : (low new : Option ℕ) (address : ℕ) (b : Bool) → b ≡ test k → address ≡ number k → (b ≡ false → new ≡ low) → (b ≡ true → IsLower low address new) → LeastOf test number k low → LeastOf test number (k + 1) new
  step low new address true is own still lower h =
      let o = lower refl in
      subst (λ (x : Option ℕ). LeastOf test number (k + 1) x) (sym o.is)
      (one-more test number k low o.lower (sym is) (subst (λ (a : ℕ). o.lower ≤ a) own o.own) o.other (subst (λ (a : ℕ). (o.lower ≡ a) ⊎ (low ≡ Some o.lower)) own o.one) h)
  step low new address false is own still lower h =
      subst (λ (x : Option ℕ). LeastOf test number (k + 1) x) (sym (still refl)) (not-more test number k low (sym is) h)

free : (own : ServerSetup) (node : Node) (link other : ℕ) (item : Item) (b : Bool) → locks_out own other link node item ≡ b → other < length node.exchanges → is_locked_out own link node item ≡ false → b ≡ false
free own node link other item true is lt none = sym (is-holder own node link other item lt is) ∙ none
free own node link other item false is lt none = refl

-- where none is refused, none locks out
pub none-lowest : (own : ServerSetup) (addresses : List ℕ) (link : ℕ) (node : Node) (item : Item) → length addresses ≡ length node.exchanges → is_locked_out own link node item ≡ false → IsLowest own addresses link node item None
none-lowest own addresses link node item many none i lt = free own node link i item (locks_out own i link node item) refl (omega (arith, lt, many)) none

-- ---- What is noted.

pub noted-served : (link : ℕ) (item : Item) (bytes : List ℕ) (at next : ℕ) (old new : NotedValue) (served : Served) (told lowest : Option ℕ) (addresses : List ℕ) → ItemAt bytes at item next → served.next ≡ next → SharedServes link item old.shared new.shared served.answers
    → ((first : Files) (events : List Event) → SharedAfter first events old.shared → IsLowest old.shared.setup addresses link (node_after old.shared.setup first (length old.shared.sessions) events) item told) → told ≡ lowest → addresses ≡ old.addresses
    → new.locked ≡ old.locked ++ option_to_list lowest → new.addresses ≡ old.addresses → NotedServed link bytes at old new served
noted-served link item bytes at next old new served told lowest addresses reads n s low is all locked same =
    record {
      item = item;
      reads = subst (λ (k : ℕ). ItemAt bytes at item k) (sym n) reads;
      serves = record {
        shared = s;
        noted = λ first events h. (
          lowest,
          subst (λ (l : List ℕ). IsLowest old.shared.setup l link (node_after old.shared.setup first (length old.shared.sessions) events) item lowest) all
              (subst (λ (o : Option ℕ). IsLowest old.shared.setup addresses link (node_after old.shared.setup first (length old.shared.sessions) events) item o) is (low first events h)),
          locked,
        );
        same_addresses = same;
      };
    }

pub noted-result : (link : ℕ) (item : Item) (bytes : List ℕ) (at next : ℕ) (old new : NotedValue) (r : Result Served NoMemory) (told lowest : Option ℕ) (addresses : List ℕ) → ItemAt bytes at item next → IfOk r (λ served. served.next ≡ next)
    → IfOk r (λ served. SharedServes link item old.shared new.shared served.answers)
    → ((first : Files) (events : List Event) → SharedAfter first events old.shared → IsLowest old.shared.setup addresses link (node_after old.shared.setup first (length old.shared.sessions) events) item told) → told ≡ lowest → addresses ≡ old.addresses
    → new.locked ≡ old.locked ++ option_to_list lowest → new.addresses ≡ old.addresses → IfOk r (NotedServed link bytes at old new)
noted-result link item bytes at next old new (Ok served) told lowest addresses reads n s low is all locked same = noted-served link item bytes at next old new served told lowest addresses reads n s low is all locked same
noted-result link item bytes at next old new (Err f) told lowest addresses reads n s low is all locked same = tt

-- ---- An item that takes no memory.

answers-some : (locked : Bool) (answer : Message) (others : List Message) → locked ≡ true → (if locked then answer ∷ [] else others) ≡ [] → ⊥
answers-some true answer others is none = cc
answers-some false answer others is none = cc

-- an item that is locked out has an answer
pub not-locking : (v : NotedValue) (link : ℕ) (item : Item) (lowest : Option ℕ) (address : ℕ) → length v.addresses ≡ length v.shared.sessions
    → ((first : Files) (events : List Event) → SharedAfter first events v.shared → IsLowest v.shared.setup v.addresses link (node_after v.shared.setup first (length v.shared.sessions) events) item lowest)
    → lowest ≡ Some address → IsSilentAt link v.shared item → ⊥
not-locking v link item lowest address many is some (first, events, h, silent) =
    let own = v.shared.setup in
    let node = node_after own first (length v.shared.sessions) events in
    let low : IsLowest own v.addresses link node item (Some address) = subst (IsLowest own v.addresses link node item) some (is first events h) in
    let links = (history-shares own first (length v.shared.sessions) events h.links).1 in
    let locked = is-holder own node link low.0.0 item (omega (arith, low.0.1, many, links)) low.0.2 in
    answers-some (is_locked_out own link node item) _ _ locked silent.0
