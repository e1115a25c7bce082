-- An element of a list is written, and written again after all others have changed.
use Rattle.std.proofs.Common.{◌≡◌, ℕ, zero, suc, List, [], ◌∷◌, map, refl, ap}
use Rattle.std.specs.Prelude.{set}
use Rattle.dap_accessed.specs.Sessions.{SessionValue}

pub map-over : (f : SessionValue → SessionValue) (xs : List SessionValue) (i : ℕ) (a b : SessionValue) → set (map f (set xs i a)) i b ≡ set (map f xs) i b
map-over f [] i a b = refl
map-over f (x ∷ xs) zero a b = refl
map-over f (x ∷ xs) (suc i) a b = ap (λ (l : List SessionValue). f x ∷ l) (map-over f xs i a b)
