-- The table of the local addresses of a node.
use Rattle.std.proofs.Common.{◌≡◌, ◌≢◌, ◌⊎◌, inl, inr, ℕ, zero, suc, ◌<◌, arith, Bool, true, false, List, [], ◌∷◌, length, get_or, Option, Some, None, refl, ap, sym, subst, ◌∙◌, lt-ltb, eq-eqb}
use Rattle.std.specs.Prelude.{◌==◌, ◌&&◌, IfErr, Result, Ok, Err, cond, nat_lt, replicate, set, slice_get}
use Rattle.std.specs.List.{position, position_or_len}
use Rattle.std.proofs.lemmas.Bool.{eqb-true}
use Rattle.std.proofs.lemmas.Bool.Decides.{eqb_tells}
use Rattle.std.proofs.lemmas.List.{length-replicate, length-set}
use Rattle.std.proofs.lemmas.List.Quantifiers.{position-Some}
use Rattle.std.proofs.lemmas.List.Sums.{position_or_len_is}
use Rattle.std.proofs.lemmas.Option.{get_or_from_slice_get, slice_get-get_or, slice_get_within}
use Rattle.nsp_link.specs.declared.link.LinkSetup.{LinkSetup}
use Rattle.nsp_link.specs.declared.fault.LinkFault.{LinkFault}
use Rattle.nsp_link.specs.Link.{SetupFault}
use Rattle.dap_end.specs.Ports.{PortValue}
use Rattle.dap_end.specs.Node.{IsTaken, NodeValue, NotBegun, has_local, is_between}
use Rattle.dap_end.specs.Inner.NodeInside.{IsTable, unlisted}
use Rattle.dap_end.proofs.Ports.{none-there, set-again}

abbrev PortList : Type 0
PortList = List (Option PortValue)

abbrev Test : Type 0
Test = Option PortValue → Bool

-- ---- The index of a port that alone passes a test.

none-by : (test : Test) (ports : PortList) → ((k : ℕ) (o : Option PortValue) → slice_get ports k ≡ Some o → test o ≡ true → ⊥) → (r : Option ℕ) → position test ports ≡ r → r ≡ None
none-by test ports none None e = refl
none-by test ports none (Some i) e =
    let f = position-Some test ports i None e in
    absurd (none i (get_or ports i None) (slice_get-get_or ports i None f.0) f.1)

is-nowhere : (test : Test) (ports : PortList) → ((k : ℕ) (o : Option PortValue) → slice_get ports k ≡ Some o → test o ≡ true → ⊥) → position test ports ≡ None
is-nowhere test ports none = none-by test ports none (position test ports) refl

fails-by : (b : Bool) → (b ≡ true → ⊥) → b ≡ false
fails-by true n = absurd (n refl)
fails-by false n = refl

is-at : (test : Test) (ports : PortList) (i : ℕ) (o : Option PortValue) → slice_get ports i ≡ Some o → test o ≡ true
    → ((k : ℕ) (q : Option PortValue) → slice_get ports k ≡ Some q → test q ≡ true → k ≡ i) → position test ports ≡ Some i
is-at test ports i o here passes only =
    let within = slice_get_within ports i o here in
    let there : get_or ports i None ≡ o = get_or_from_slice_get ports i o None here in
    let before : (k : ℕ) → k < i → test (get_or ports k None) ≡ false = λ k lt.
    fails-by (test (get_or ports k None)) (λ passing. (let same = only k (get_or ports k None) (slice_get-get_or ports k None (omega (arith, lt, within))) passing in let none : ⊥ = omega (arith, lt, same) in none)) in
    let first : position_or_len test ports ≡ i = position_or_len_is test ports i None (omega (arith, within)) before (λ lt. ap test there ∙ passes) in
    ap (λ (n : ℕ). cond (nat_lt n (length ports)) (Some n) None) first ∙ ap (λ (b : Bool). cond b (Some i) None) (lt-ltb i (length ports) within)

-- ---- Own addresses.

local-some : (local : ℕ) (o : Option PortValue) → has_local local o ≡ true → (p : PortValue) × (o ≡ Some p) × (p.link.setup.local ≡ local)
local-some local None e = absurd (let none : ⊥ = cc in none)
local-some local (Some p) e = (p, refl, eqb-true p.link.setup.local local e)

and-left : (a b : Bool) → (a && b) ≡ true → a ≡ true
and-left true b e = refl
and-left false b e = absurd (let none : ⊥ = cc in none)

between-local : (local remote : ℕ) (o : Option PortValue) → is_between local remote o ≡ true → has_local local o ≡ true
between-local local remote None e = absurd (let none : ⊥ = cc in none)
between-local local remote (Some p) e = and-left (p.link.setup.local == local) (p.link.setup.remote == remote) e

module _ (table : List (Option ℕ)) (ports : PortList) (h : IsTable table ports) where
  -- a port with this local address is where the table says
  listed-at : (local k : ℕ) (o : Option PortValue) → slice_get ports k ≡ Some o → has_local local o ≡ true → slice_get table local ≡ Some (Some k)
  listed-at local k o at passing =
      let s = local-some local o passing in
      subst (λ (l : ℕ). slice_get table l ≡ Some (Some k)) s.2 (h.listed k s.0 (at ∙ ap Some s.1))

  listed-here : (local link k : ℕ) (o : Option PortValue) → slice_get table local ≡ Some (Some link) → slice_get ports k ≡ Some o → has_local local o ≡ true → k ≡ link
  listed-here local link k o here at passing = let same : Some (Some k) ≡ Some (Some link) = sym (listed-at local k o at passing) ∙ here in (let is : k ≡ link = cc in is)

  listed-nowhere : (local k : ℕ) (o : Option PortValue) → slice_get table local ≡ Some None → slice_get ports k ≡ Some o → has_local local o ≡ true → ⊥
  listed-nowhere local k o none at passing = let same : Some (Some k) ≡ Some None = sym (listed-at local k o at passing) ∙ none in (let none : ⊥ = cc in none)

  pub found-local : (local : ℕ) (r : Option ℕ) → slice_get table local ≡ Some r → r ≡ position (has_local local) ports
  found-local local None e = sym (is-nowhere (has_local local) ports (λ k o at passing. listed-nowhere local k o e at passing))
  found-local local (Some link) e =
      let t = h.there local link e in
      sym (is-at (has_local local) ports link (Some t.0) t.1 (eq-eqb t.0.link.setup.local local t.2) (λ k o at passing. listed-here local link k o e at passing))

  pub between-none : (local remote : ℕ) → slice_get table local ≡ Some None → position (is_between local remote) ports ≡ None
  between-none local remote e = is-nowhere (is_between local remote) ports (λ k o at passing. listed-nowhere local k o e at (between-local local remote o passing))

  pub between-some : (local remote link : ℕ) (o : Option PortValue) → slice_get table local ≡ Some (Some link) → slice_get ports link ≡ Some o → is_between local remote o ≡ true
      → position (is_between local remote) ports ≡ Some link
  between-some local remote link o e at passing = is-at (is_between local remote) ports link o at passing (λ k q there joins. listed-here local link k q e there (between-local local remote q joins))

  pub between-other : (local remote link : ℕ) (o : Option PortValue) → slice_get table local ≡ Some (Some link) → slice_get ports link ≡ Some o → is_between local remote o ≡ false
      → position (is_between local remote) ports ≡ None
  between-other local remote link o e at fails =
      is-nowhere (is_between local remote) ports (λ k q there joins.
      (let same = listed-here local link k q e there (between-local local remote q joins) in
      let one : Some q ≡ Some o = sym there ∙ ap (λ (i : ℕ). slice_get ports i) same ∙ at in
      let both : true ≡ false = sym joins ∙ ap (is_between local remote) (let is : q ≡ o = cc in is) ∙ fails in
      let none : ⊥ = cc in none))

  -- it is the only one
  pub only-one : (local : ℕ) (r : Option ℕ) → slice_get table local ≡ Some r → (link : ℕ) (p : PortValue) → slice_get ports link ≡ Some (Some p) → p.link.setup.local ≡ local → r ≡ Some link
  only-one local r e link p at is =
      let same : Some r ≡ Some (Some link) = sym e ∙ listed-at local link (Some p) at (eq-eqb p.link.setup.local local is) in
      (let one : r ≡ Some link = cc in one)

-- ---- Lists in which one element was set.

set-here : {A : Type 0} (xs : List A) (i : ℕ) (a : A) → i < length xs → slice_get (set xs i a) i ≡ Some a
set-here [] i a lt = absurd (omega (arith, lt))
set-here (x ∷ xs) zero a lt = refl
set-here (x ∷ xs) (suc i) a lt = set-here xs i a (omega (arith, lt))

set-other : {A : Type 0} (xs : List A) (i j : ℕ) (a : A) → j ≢ i → slice_get (set xs i a) j ≡ slice_get xs j
set-other [] i j a d = refl
set-other (x ∷ xs) zero zero a d = absurd (d refl)
set-other (x ∷ xs) zero (suc j) a d = refl
set-other (x ∷ xs) (suc i) zero a d = refl
set-other (x ∷ xs) (suc i) (suc j) a d = set-other xs i j a (λ e. d (ap suc e))

some-none : {A : Type 0} (o : Option (Option A)) (a : A) → o ≡ Some (Some a) → o ≡ Some None → ⊥
some-none o a e f = let same : Some (Some a) ≡ Some None = sym e ∙ f in (let none : ⊥ = cc in none)

some-one : {A : Type 0} (o : Option (Option A)) (a b : A) → o ≡ Some (Some a) → o ≡ Some (Some b) → a ≡ b
some-one o a b e f = let same : Some (Some a) ≡ Some (Some b) = sym e ∙ f in (let is : a ≡ b = cc in is)

apart-by : (i j : ℕ) → (((i == j) ≡ true) × (i ≡ j)) ⊎ (((i == j) ≡ false) × (i ≢ j)) → (i ≡ j) ⊎ (i ≢ j)
apart-by i j (inl e) = inl e.1
apart-by i j (inr e) = inr e.1

apart : (i j : ℕ) → (i ≡ j) ⊎ (i ≢ j)
apart i j = apart-by i j (eqb_tells i j)

-- ---- What becomes of the table.

module _ (table : List (Option ℕ)) (ports : PortList) (link : ℕ) (h : IsTable table ports) where
  -- ---- The link has the port that it had, or one with the same local address.
  module _ (p q : PortValue) (at : slice_get ports link ≡ Some (Some q)) (same : p.link.setup.local ≡ q.link.setup.local) where
    abbrev new-ports : PortList
    new-ports = set ports link (Some p)

    here : slice_get new-ports link ≡ Some (Some p)
    here = set-here ports link (Some p) (slice_get_within ports link (Some q) at)

    kept-listed : (j : ℕ) (r : PortValue) → (link ≡ j) ⊎ (link ≢ j) → slice_get new-ports j ≡ Some (Some r) → slice_get table r.link.setup.local ≡ Some (Some j)
    kept-listed j r (inl e) there =
        let is : p ≡ r = some-one (slice_get new-ports link) p r here (ap (λ (i : ℕ). slice_get new-ports i) e ∙ there) in
        subst (λ (l : ℕ). slice_get table l ≡ Some (Some j)) (sym same ∙ ap (λ (x : PortValue). x.link.setup.local) is)
        (subst (λ (i : ℕ). slice_get table q.link.setup.local ≡ Some (Some i)) e (h.listed link q at))
    kept-listed j r (inr d) there = h.listed j r (sym (set-other ports link j (Some p) (λ e. d (sym e))) ∙ there)

    kept-there : (local j : ℕ) → (link ≡ j) ⊎ (link ≢ j) → slice_get table local ≡ Some (Some j) → (r : PortValue) × (slice_get new-ports j ≡ Some (Some r)) × (r.link.setup.local ≡ local)
    kept-there local j (inl e) is =
        let t = h.there local j is in
        let one : q ≡ t.0 = some-one (slice_get ports link) q t.0 at (ap (λ (i : ℕ). slice_get ports i) e ∙ t.1) in
        (p, subst (λ (i : ℕ). slice_get new-ports i ≡ Some (Some p)) e here, same ∙ ap (λ (x : PortValue). x.link.setup.local) one ∙ t.2)
    kept-there local j (inr d) is =
        let t = h.there local j is in
        (t.0, set-other ports link j (Some p) (λ e. d (sym e)) ∙ t.1, t.2)

    pub table-kept : IsTable table (set ports link (Some p))
    table-kept = record { whole = h.whole; listed = λ j r. kept-listed j r (apart link j); there = λ local j. kept-there local j (apart link j) }

  -- ---- It is no longer there.
  module _ (o : Option PortValue) (at : slice_get ports link ≡ Some o) where
    abbrev rest-ports : PortList
    rest-ports = set ports link None

    gone : slice_get rest-ports link ≡ Some None
    gone = set-here ports link None (slice_get_within ports link o at)

    -- what is still there was there, on another link
    was : (j : ℕ) (r : PortValue) → slice_get rest-ports j ≡ Some (Some r) → (link ≢ j) × (slice_get ports j ≡ Some (Some r))
    was j r there =
        let d : link ≢ j = λ e. some-none (slice_get rest-ports j) r there (subst (λ (i : ℕ). slice_get rest-ports i ≡ Some None) e gone) in
        (d, sym (set-other ports link j None (λ e. d (sym e))) ∙ there)

  ended-none : slice_get ports link ≡ Some None → IsTable table (set ports link None)
  ended-none at = record {
    whole = h.whole;
    listed = λ j r there. h.listed j r (was None at j r there).1;
    there = λ local j is. (let t = h.there local j is in
        let d : link ≢ j = λ e. some-none (slice_get ports j) t.0 t.1 (subst (λ (i : ℕ). slice_get ports i ≡ Some None) e at) in
        (t.0, set-other ports link j None (λ e. d (sym e)) ∙ t.1, t.2));
  }

  module _ (q : PortValue) (at : slice_get ports link ≡ Some (Some q)) where
    abbrev own : ℕ
    own = q.link.setup.local

    abbrev less : List (Option ℕ)
    less = set table own None

    off : slice_get less own ≡ Some None
    off = set-here table own None (slice_get_within table own (Some link) (h.listed link q at))

    ended-listed : (j : ℕ) (r : PortValue) → slice_get (set ports link None) j ≡ Some (Some r) → slice_get less r.link.setup.local ≡ Some (Some j)
    ended-listed j r there =
        let w = was (Some q) at j r there in
        let is = h.listed j r w.1 in
        let other : r.link.setup.local ≢ own = λ e. w.0 (some-one (slice_get table own) link j (h.listed link q at) (subst (λ (l : ℕ). slice_get table l ≡ Some (Some j)) e is)) in
        set-other table own r.link.setup.local None other ∙ is

    ended-there : (local j : ℕ) → slice_get less local ≡ Some (Some j) → (r : PortValue) × (slice_get (set ports link None) j ≡ Some (Some r)) × (r.link.setup.local ≡ local)
    ended-there local j is =
        let other : local ≢ own = λ e. some-none (slice_get less local) j is (subst (λ (l : ℕ). slice_get less l ≡ Some None) (sym e) off) in
        let t = h.there local j (sym (set-other table own local None other) ∙ is) in
        let d : link ≢ j = λ e. other (sym t.2 ∙ ap (λ (x : PortValue). x.link.setup.local) (some-one (slice_get ports j) t.0 q t.1 (subst (λ (i : ℕ). slice_get ports i ≡ Some (Some q)) e at))) in
        (t.0, set-other ports link j None (λ e. d (sym e)) ∙ t.1, t.2)

    ended-some : IsTable less (set ports link None)
    ended-some = record { whole = length-set table own None ∙ h.whole; listed = ended-listed; there = ended-there }

  pub table-ended : (o : Option PortValue) → slice_get ports link ≡ Some o → IsTable (unlisted o table) (set ports link None)
  table-ended None at = ended-none at
  table-ended (Some q) at = ended-some q at

-- ---- A link that wasn't there has a local address that none has.

module _ (table : List (Option ℕ)) (ports : PortList) (link local : ℕ) (p : PortValue) (h : IsTable table ports) (free : slice_get ports link ≡ Some None)
    (unused : slice_get table local ≡ Some None) (own : p.link.setup.local ≡ local) where
  abbrev more : List (Option ℕ)
  more = set table local (Some link)

  abbrev all : PortList
  all = set ports link (Some p)

  on : slice_get more local ≡ Some (Some link)
  on = set-here table local (Some link) (slice_get_within table local None unused)

  here' : slice_get all link ≡ Some (Some p)
  here' = set-here ports link (Some p) (slice_get_within ports link None free)

  added-listed : (j : ℕ) (r : PortValue) → (link ≡ j) ⊎ (link ≢ j) → slice_get all j ≡ Some (Some r) → slice_get more r.link.setup.local ≡ Some (Some j)
  added-listed j r (inl e) there =
      let is : p ≡ r = some-one (slice_get all link) p r here' (ap (λ (i : ℕ). slice_get all i) e ∙ there) in
      subst (λ (l : ℕ). slice_get more l ≡ Some (Some j)) (sym own ∙ ap (λ (x : PortValue). x.link.setup.local) is) (subst (λ (i : ℕ). slice_get more local ≡ Some (Some i)) e on)
  added-listed j r (inr d) there =
      let is = h.listed j r (sym (set-other ports link j (Some p) (λ e. d (sym e))) ∙ there) in
      let other : r.link.setup.local ≢ local = λ e. some-none (slice_get table local) j (subst (λ (l : ℕ). slice_get table l ≡ Some (Some j)) e is) unused in
      set-other table local r.link.setup.local (Some link) other ∙ is

  added-there : (l j : ℕ) → (local ≡ l) ⊎ (local ≢ l) → slice_get more l ≡ Some (Some j) → (r : PortValue) × (slice_get all j ≡ Some (Some r)) × (r.link.setup.local ≡ l)
  added-there l j (inl e) is =
      let same : link ≡ j = some-one (slice_get more local) link j on (ap (λ (i : ℕ). slice_get more i) e ∙ is) in
      (p, subst (λ (i : ℕ). slice_get all i ≡ Some (Some p)) same here', own ∙ e)
  added-there l j (inr d) is =
      let t = h.there l j (sym (set-other table local l (Some link) (λ e. d (sym e))) ∙ is) in
      let other : j ≢ link = λ e. some-none (slice_get ports j) t.0 t.1 (subst (λ (i : ℕ). slice_get ports i ≡ Some None) (sym e) free) in
      (t.0, set-other ports link j (Some p) other ∙ t.1, t.2)

  table-added : IsTable more all
  table-added = record { whole = length-set table local (Some link) ∙ h.whole; listed = λ j r. added-listed j r (apart link j); there = λ l j. added-there l j (apart local l) }

-- ---- A link begins, or begins anew.

module _ (table : List (Option ℕ)) (ports : PortList) (link local : ℕ) (o : Option PortValue) (h : IsTable table ports) (at : slice_get ports link ≡ Some o)
    (small : local < 65536) (alone : (other : ℕ) → slice_get table local ≡ Some (Some other) → other ≡ link) where
  ended : IsTable (unlisted o table) (set ports link None)
  ended = table-ended table ports link h o at

  none-left : (r : Option (Option ℕ)) → slice_get (unlisted o table) local ≡ r → local < length (unlisted o table) → r ≡ Some None
  none-left None e lt = absurd (let got = slice_get-get_or (unlisted o table) local None lt in let both : None ≡ Some (get_or (unlisted o table) local None) = sym e ∙ got in (let none : ⊥ = cc in none))
  none-left (Some None) e lt = refl
  none-left (Some (Some j)) e lt =
      let t = ended.there local j e in
      let w = was table ports link h o at j t.0 t.1 in
      let is = subst (λ (l : ℕ). slice_get table l ≡ Some (Some j)) t.2 (h.listed j t.0 w.1) in
      absurd (w.0 (sym (alone j is)))

  pub table-begun : (p : PortValue) → p.link.setup.local ≡ local → IsTable (set (unlisted o table) local (Some link)) (set ports link (Some p))
  table-begun p own =
      subst (λ (l : PortList). IsTable (set (unlisted o table) local (Some link)) l) (set-again ports link None (Some p))
      (table-added (unlisted o table) (set ports link None) link local p ended (set-here ports link None (slice_get_within ports link o at))
      (none-left (slice_get (unlisted o table) local) refl (subst (λ (n : ℕ). local < n) (sym ended.whole) small)) own)

-- ---- A new node.

none-listed : (n local link : ℕ) → slice_get (replicate n None) local ≡ Some (Some link) → ⊥
none-listed zero local link e = let none : ⊥ = cc in none
none-listed (suc n) zero link e = let none : ⊥ = cc in none
none-listed (suc n) (suc local) link e = none-listed n local link e

whole-new : (n : ℕ) (o : Option ℕ) → length (replicate n o) ≡ n
whole-new n o = length-replicate n o

pub table-new : (table : List (Option ℕ)) (links : ℕ) → table ≡ replicate 65536 None → IsTable table (replicate links None)
table-new table links is = record {
  whole = ap (λ (l : List (Option ℕ)). length l) is ∙ whole-new 65536 None;
  listed = λ link p e. absurd (none-there links link p e);
  there = λ local link e. absurd (none-listed 65536 local link (sym (ap (λ (l : List (Option ℕ)). slice_get l local) is) ∙ e));
}

-- ---- Whether another link has a local address.

pub taken : (table : List (Option ℕ)) (v : NodeValue) (link local : ℕ) → IsTable table v.ports → (other : ℕ) × (slice_get table local ≡ Some (Some other)) × (other ≢ link) → IsTaken link local v
taken table v link local h t = let s = h.there local t.0 t.1 in (t.0, s.0, s.1, s.2, t.2)

pub untaken : (table : List (Option ℕ)) (v : NodeValue) (link local : ℕ) → IsTable table v.ports → ((other : ℕ) → slice_get table local ≡ Some (Some other) → other ≡ link) → IsTaken link local v → ⊥
untaken table v link local h alone t = t.4 (alone t.0 (subst (λ (l : ℕ). slice_get table l ≡ Some (Some t.0)) t.3 (h.listed t.0 t.1 t.2)))

-- what is true of a refusal
pub err-from : {A E : Type 0} {P Q : E → Type 0} (r : Result A E) → IfErr r P → ((e : E) → P e → Q e) → IfErr r Q
err-from (Ok a) h next = tt
err-from (Err e) h next = next e h

-- why a port isn't made is why the link doesn't begin
pub port-refused : (v : NodeValue) (link : ℕ) (setup : LinkSetup) (f : LinkFault) → (IsTaken link setup.local v → ⊥) → SetupFault setup f → NotBegun link setup v f
port-refused v link setup f alone (inl h) = inl (h.0, inl h.1)
port-refused v link setup f alone (inr h) = inr (h.0, h.1, alone)
