-- Pieces of one stream, end to end.
use Rattle.std.specs.Prelude.{◌≡◌, ◌⊎◌, ⊤, ◌<◌, List, [], ◌∷◌, ◌++◌, if◌then◌else◌}
use Rattle.std.specs.List.{AllByRecursion, flat_map}
use Rattle.dap_follow.specs.Streams.{Sequenced}
use Rattle.dap_follow.specs.Joined.{Fragment, joins, tail}

-- the segments of pieces, in order
abbrev pub all_segments : List Fragment → List Sequenced
all_segments ps = flat_map (λ p. p.head ∷ p.others) ps

-- a piece and the next one as one
abbrev pub merged : Fragment → Fragment → Fragment
merged p q = record { head = p.head; others = p.others ++ q.head ∷ q.others }

-- The pieces of segments, and those of the segments after them: the last and the first are one, if they join.
abbrev pub glue : List Fragment → List Fragment → List Fragment
glue [] ys = ys
glue (p ∷ []) [] = p ∷ []
glue (p ∷ []) (y ∷ ys) = if joins (tail p) y.head then merged p y ∷ ys else p ∷ y ∷ ys
glue (p ∷ q ∷ ps) ys = p ∷ glue (q ∷ ps) ys

-- each sequence number is below those after it
abbrev pub Rises : List Sequenced → Type 0
Rises [] = ⊤
Rises (s ∷ others) = AllByRecursion (λ other. s.sequence < other.sequence) others × Rises others

-- A segment has the sequence number already, or it is put between those below and those above.
abbrev pub IsPut : List Sequenced → Sequenced → List Sequenced → Type 0
IsPut old s new =
    ((new ≡ old) × (front back : List Sequenced) × (other : Sequenced) × (old ≡ front ++ other ∷ back) × (other.sequence ≡ s.sequence))
    ⊎ ((front back : List Sequenced) × (old ≡ front ++ back) × (new ≡ front ++ s ∷ back)
    × AllByRecursion (λ other. other.sequence < s.sequence) front × AllByRecursion (λ other. s.sequence < other.sequence) back)
