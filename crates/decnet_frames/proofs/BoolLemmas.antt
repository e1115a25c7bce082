-- Facts by what a condition is, and by what is known.
use Rattle.std.proofs.Common.{◌≡◌, ℕ, List, Bool, true, false, Option, Some, None, IfSome, refl, subst}

pub by_bool : {X : Type 0} (b : Bool) → (b ≡ true → X) → (b ≡ false → X) → X
by_bool true f g = f refl
by_bool false f g = g refl

-- something holds of an input, if it is known
pub if_known : (known : Option (List ℕ)) (P : List ℕ → Type 0) → ((input : List ℕ) → known ≡ Some input → P input) → IfSome known P
if_known None P holds = tt
if_known (Some input) P holds = holds input refl

pub known_at : (known : Option (List ℕ)) (P : List ℕ → Type 0) (input : List ℕ) → known ≡ Some input → IfSome known P → P input
known_at known P input is holds = let at : IfSome (Some input) P = subst (λ (k : Option (List ℕ)). IfSome k P) is holds in at
