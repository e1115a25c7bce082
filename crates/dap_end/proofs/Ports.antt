-- The ports of a node.
use Rattle.std.proofs.Common.{◌≡◌, ℕ, zero, suc, List, [], ◌∷◌, length, Option, Some, None, refl, ap, sym, subst, ◌∙◌, inr, arith}
use Rattle.std.specs.Prelude.{set, slice_get, slice_index_or, replicate}
use Rattle.std.proofs.lemmas.Option.{slice_get_read, slice_get_within}
use Rattle.std.proofs.lemmas.List.{length-set}
use Rattle.dap_shared.specs.Noted.{NotedValue}
use Rattle.nsp_link.specs.declared.link.LinkSetup.{LinkSetup}
use Rattle.dap_end.specs.Ports.{PortValue, new_port}
use Rattle.dap_end.specs.Node.{NodeValue}
use Rattle.dap_end.specs.Inner.Kept.{IsPort}
use Rattle.dap_end.specs.Inner.NodeInside.{IsNode, IsTable}

abbrev pub ArePorts : List (Option PortValue) → Type 0
ArePorts ports = (link : ℕ) (p : PortValue) → slice_get ports link ≡ Some (Some p) → IsPort p

-- setting an element again
pub set-again : {A : Type 0} (xs : List A) (i : ℕ) (a b : A) → set (set xs i a) i b ≡ set xs i b
set-again [] i a b = refl
set-again (x ∷ xs) zero a b = refl
set-again (x ∷ xs) (suc i) a b = ap (λ (l : List _). x ∷ l) (set-again xs i a b)

-- what is at an index of a list in which one element was set
set-get : (xs : List (Option PortValue)) (i j : ℕ) (a : Option PortValue) (p : PortValue) (P : PortValue → Type 0) → ((q : PortValue) → a ≡ Some q → P q) → (slice_get xs j ≡ Some (Some p) → P p) → slice_get (set xs i a) j ≡ Some (Some p) → P p
set-get [] i j a p P n h e = h e
set-get (x ∷ xs) zero zero a p P n h e = n p (let same : a ≡ Some p = cc in same)
set-get (x ∷ xs) zero (suc j) a p P n h e = h e
set-get (x ∷ xs) (suc i) zero a p P n h e = h e
set-get (x ∷ xs) (suc i) (suc j) a p P n h e = set-get xs i j a p P n h e

pub set-ports : (ports : List (Option PortValue)) (link : ℕ) (a : Option PortValue) → ((q : PortValue) → a ≡ Some q → IsPort q) → ArePorts ports → ArePorts (set ports link a)
set-ports ports link a n h = λ j p e. set-get ports link j a p IsPort n (h j p) e

pub none-there : (links j : ℕ) (p : PortValue) → slice_get (replicate links None) j ≡ Some (Some p) → ⊥
none-there zero j p e = cc
none-there (suc links) zero p e = cc
none-there (suc links) (suc j) p e = none-there links j p e

pub no-ports : (links : ℕ) → ArePorts (replicate links None)
no-ports links = λ j p e. absurd (none-there links j p e)

-- ---- A node.

-- one port was set, or the link is no longer there, and the table is right again
pub node-set : (before after : List (Option ℕ)) (v : NodeValue) (link : ℕ) (noted : NotedValue) (o : Option PortValue) → IsNode before v → length noted.shared.sessions ≡ length v.noted.shared.sessions
    → ((q : PortValue) → o ≡ Some q → IsPort q) → IsTable after (set v.ports link o) → IsNode after (record { noted = noted; ports = set v.ports link o })
node-set before after v link noted o h many new right =
    record { links = length-set v.ports link o ∙ h.links ∙ sym many; ports = set-ports v.ports link o new h.ports; table = right }

-- no port moved
pub node-same : (table : List (Option ℕ)) (v : NodeValue) (noted : NotedValue) → IsNode table v → length noted.shared.sessions ≡ length v.noted.shared.sessions → IsNode table (record { noted = noted; ports = v.ports })
node-same table v noted h many = record { links = h.links ∙ sym many; ports = h.ports; table = h.table }

-- a port moved
pub node-moved : (table : List (Option ℕ)) (v : NodeValue) (link : ℕ) (noted : NotedValue) (p : PortValue) → IsNode table v → length noted.shared.sessions ≡ length v.noted.shared.sessions → IsPort p
    → IsTable table (set v.ports link (Some p)) → IsNode table (record { noted = noted; ports = set v.ports link (Some p) })
node-moved table v link noted p h many new right =
    node-set table table v link noted (Some p) h many (λ q is. subst IsPort (let same : p ≡ q = cc in same) new) right

-- a new port
pub port-new : (setup : LinkSetup) (p : PortValue) → p ≡ new_port setup → IsPort p
port-new setup p is = subst IsPort (sym is) (record { offset = inr (refl, refl); short = λ k d lt. absurd (let none : ⊥ = omega (arith, lt) in none) })

-- ---- A port that is where it was.

some-apart : (p : PortValue) (o : Option (Option PortValue)) → o ≡ Some (Some p) → o ≡ Some None → ⊥
some-apart p o one other = cc

read-there : (xs : List (Option PortValue)) (i : ℕ) (p : PortValue) (o : Option PortValue) → slice_get xs i ≡ Some (Some p) → o ≡ slice_index_or xs i o → slice_get xs i ≡ Some o
read-there xs i p o there value = slice_get_read xs (length xs) i o refl (slice_get_within xs i _ there) value

-- the port that was read where one is
pub port-there : (xs : List (Option PortValue)) (i : ℕ) (p q : PortValue) (o : Option PortValue) → slice_get xs i ≡ Some (Some p) → o ≡ slice_index_or xs i o → o ≡ Some q → slice_get xs i ≡ Some (Some q)
port-there xs i p q o there value is = read-there xs i p o there value ∙ ap (λ (x : Option PortValue). Some x) is

-- there is one
pub never-none : (xs : List (Option PortValue)) (i : ℕ) (p : PortValue) (o : Option PortValue) → slice_get xs i ≡ Some (Some p) → o ≡ slice_index_or xs i o → o ≡ None → ⊥
never-none xs i p o there value is = some-apart p (slice_get xs i) there (read-there xs i p o there value ∙ ap (λ (x : Option PortValue). Some x) is)
