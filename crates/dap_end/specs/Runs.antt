-- Events, one after another.
use Rattle.std.specs.Prelude.{◌≡◌, List, [], ◌∷◌}

-- the events may lead from old to new by these steps, each with some answer
abbrev pub RunsBy : {S E A : Type 0} → (S → E → A → S → Type 0) → S → List E → S → Type 0
RunsBy Goes old [] new = new ≡ old
RunsBy {S} {E} {A} Goes old (event ∷ events) new = (mid : S) × (answer : A) × Goes old event answer mid × RunsBy Goes mid events new
