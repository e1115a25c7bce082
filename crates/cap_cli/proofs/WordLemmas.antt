-- Words that stand alone, and others.
use Rattle.std.proofs.Common.{◌≡◌, refl, List, [], ◌∷◌, length}
use Rattle.cap_cli.specs.Words.{Text, alone, listing_of, wish_of, wish_or}

pub lone : (words : List Text) (word : Text) → words ≡ word ∷ [] → wish_of words ≡ wish_or (alone word) words
lone words word one = rw one refl

pub others : (words : List Text) → (length words ≡ 1 → ⊥) → wish_of words ≡ listing_of words
others [] other = refl
others (word ∷ []) other = absurd (other refl)
others (word ∷ next ∷ words) other = refl
