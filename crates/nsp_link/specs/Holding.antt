-- Early segments that are held: their numbers, the lowest first, and what they say.
use Rattle.std.specs.Prelude.{ℕ, ◌+◌, ◌<◌, List, [], ◌∷◌, ◌==◌, if◌then◌else◌}
use Rattle.nsp_link.specs.Cutting.{Piece}

-- the numbers rise, and lie between these two
unfoldable pub AreHeld : ℕ → ℕ → List (ℕ × Piece) → Type 0
AreHeld low high [] = Unit {0}
AreHeld low high (h ∷ held) = (low < h.0) × (h.0 < high) × AreHeld h.0 high held

-- the segments that follow the k-th without a hole
unfoldable pub following : ℕ → List (ℕ × Piece) → List Piece
following k [] = []
following k (h ∷ held) = if h.0 == k + 1 then h.1 ∷ following (k + 1) held else []

-- By their numbers alone: once the segments up to the k-th are taken, those that follow without a hole are taken too.
-- The number of the last one taken, and the numbers that are still held.
unfoldable pub closed_up : ℕ → List ℕ → ℕ × List ℕ
closed_up k [] = (k, [])
closed_up k (n ∷ held) = if n == k + 1 then closed_up n held else (k, n ∷ held)
