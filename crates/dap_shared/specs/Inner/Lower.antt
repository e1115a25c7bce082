-- The lower of a number and what was lowest so far.
use Rattle.std.specs.Prelude.{ℕ, ◌≡◌, ◌≤◌, ◌⊎◌, IfSome, Option, Some}

pub record IsLower (lowest : Option ℕ) (number : ℕ) (result : Option ℕ) : Type 0 where
  pub lower : ℕ
  pub is : result ≡ Some lower
  pub own : lower ≤ number
  pub other : IfSome lowest (λ low. lower ≤ low)
  pub one : (lower ≡ number) ⊎ (lowest ≡ Some lower)
