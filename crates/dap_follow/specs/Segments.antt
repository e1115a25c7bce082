-- Segments of a capture under their sequence numbers.
use Rattle.std.specs.Prelude.{ℕ, List, [], ◌∷◌, max}
use Rattle.dap_follow.specs.Streams.{NumberedSegment, Sequenced}

-- a segment with its sequence number without modulus
abbrev pub sequenced_at : ℕ → NumberedSegment → Sequenced
sequenced_at sequence c = record { sequence = sequence; packet = c.0; first = c.1.first; last = c.1.last; payload = c.1.payload }

-- the highest of their sequence numbers, and of one before them
abbrev pub highest_in : ℕ → List Sequenced → ℕ
highest_in highest [] = highest
highest_in highest (s ∷ others) = highest_in (max highest s.sequence) others
