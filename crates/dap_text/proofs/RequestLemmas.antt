-- What follows the last word of a line.
use Rattle.std.proofs.Common.{◌≡◌, [], ◌∷◌, None, refl}
use Rattle.texts.specs.Words.{Words, ends}

pub ends_none : {X : Type 0} (x : X) (words : Words) → (words ≡ [] → ⊥) → ends x words ≡ None
ends_none x [] some = absurd (some refl)
ends_none x (word ∷ words) some = refl
