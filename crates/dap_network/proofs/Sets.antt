-- Lists in which one element was set.
use Rattle.std.proofs.Common.{◌≡◌, ◌≢◌, ℕ, zero, suc, List, [], ◌∷◌, Some, refl, ap}
use Rattle.std.specs.Prelude.{None, Option, get_or, set, slice_get}

pub set_there : {A : Type 0} (xs : List A) (i : ℕ) (a b : A) → slice_get (set xs i a) i ≡ Some b → b ≡ a
set_there [] i a b e = let none : ⊥ = cc in absurd none
set_there (x ∷ xs) zero a b e = let same : b ≡ a = cc in same
set_there (x ∷ xs) (suc i) a b e = set_there xs i a b e

pub set_other : {A : Type 0} (xs : List A) (i j : ℕ) (a : A) → j ≢ i → slice_get (set xs i a) j ≡ slice_get xs j
set_other [] i j a d = refl
set_other (x ∷ xs) zero zero a d = absurd (d refl)
set_other (x ∷ xs) zero (suc j) a d = refl
set_other (x ∷ xs) (suc i) zero a d = refl
set_other (x ∷ xs) (suc i) (suc j) a d = set_other xs i j a (λ e. d (ap suc e))

-- what was set is there, where something was
pub set_here : {A : Type 0} (xs : List A) (i : ℕ) (a b : A) → slice_get xs i ≡ Some a → slice_get (set xs i b) i ≡ Some b
set_here [] i a b e = let none : ⊥ = cc in absurd none
set_here (x ∷ xs) zero a b e = refl
set_here (x ∷ xs) (suc i) a b e = set_here xs i a b e

-- what is there is set
pub set_same : {A : Type 0} (xs : List A) (i : ℕ) (a : A) → slice_get xs i ≡ Some a → set xs i a ≡ xs
set_same [] i a e = refl
set_same (x ∷ xs) zero a e = let same : a ≡ x = cc in ap (λ (y : _). y ∷ xs) same
set_same (x ∷ xs) (suc i) a e = ap (λ (l : List _). x ∷ l) (set_same xs i a e)

-- an element is set again
pub set_again : {A : Type 0} (xs : List A) (i : ℕ) (a b : A) → set (set xs i a) i b ≡ set xs i b
set_again [] i a b = refl
set_again (x ∷ xs) zero a b = refl
set_again (x ∷ xs) (suc i) a b = ap (λ (l : List _). x ∷ l) (set_again xs i a b)

-- what is there is there, whatever stands for nothing
pub there_is : {A : Type 0} (xs : List A) (i : ℕ) (a d : A) → slice_get xs i ≡ Some a → get_or xs i d ≡ a
there_is [] i a d e = let none : ⊥ = cc in absurd none
there_is (x ∷ xs) zero a d e = let same : x ≡ a = cc in same
there_is (x ∷ xs) (suc i) a d e = there_is xs i a d e

-- what stands there, where it isn't nothing, is there
pub is_there : {A : Type 0} (xs : List (Option A)) (i : ℕ) (a : A) → get_or xs i None ≡ Some a → slice_get xs i ≡ Some (Some a)
is_there [] i a e = let none : ⊥ = cc in absurd none
is_there (x ∷ xs) zero a e = ap Some e
is_there (x ∷ xs) (suc i) a e = is_there xs i a e
