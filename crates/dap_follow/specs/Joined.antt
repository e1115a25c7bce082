-- The messages of a stream. By the law `cut_messages_are_listed` a message that a link cut is one of them, in
-- whatever order its segments came.
use Rattle.std.specs.Prelude.{ℕ, ◌+◌, ◌==◌, ◌&&◌, not, Bool, List, [], ◌∷◌, fold, map, max, if◌then◌else◌}
use Rattle.std.specs.List.{filter, flat_map}
use Rattle.dap_follow.specs.Streams.{Sequenced}

-- two segments are neighbours, and no message ends or begins between them
abbrev pub joins : Sequenced → Sequenced → Bool
joins a b = (b.sequence == a.sequence + 1) && not a.last && not b.first

-- segments in a row: the first one and the others
pub record Fragment : Type 0 where
  pub head : Sequenced
  pub others : List Sequenced

-- a segment before pieces: it joins the first of them, or is a piece itself
abbrev pub with_segment : Sequenced → List Fragment → List Fragment
with_segment s [] = record { head = s; others = [] } ∷ []
with_segment s (p ∷ pieces) =
    if joins s p.head then record { head = s; others = p.head ∷ p.others } ∷ pieces else record { head = s; others = [] } ∷ p ∷ pieces

-- segments in order, cut at each hole, before each first segment of a message and after each last one
abbrev pub fragments_of : List Sequenced → List Fragment
fragments_of [] = []
fragments_of (s ∷ others) = with_segment s (fragments_of others)

-- the last segment
abbrev pub tail : Fragment → Sequenced
tail p = fold (λ one next. next) p.head p.others

-- a piece that begins with the first segment of a message and ends with the last one
abbrev pub is_message : Fragment → Bool
is_message p = p.head.first && (tail p).last

-- the bytes of all its segments
abbrev pub payload : Fragment → List ℕ
payload p = flat_map (λ s. s.payload) (p.head ∷ p.others)

-- a message, and the packet under which it is listed
pub record Message : Type 0 where
  pub packet : ℕ
  pub piece : Fragment

-- the latest packet of segments
abbrev pub latest : List Sequenced → ℕ
latest [] = 0
latest (s ∷ others) = max s.packet (latest others)

-- A message is listed under the packet with which it is whole: the latest of those of its segments.
abbrev pub fragment_message : Fragment → Message
fragment_message p = record { packet = latest (p.head ∷ p.others); piece = p }

-- the messages of a stream
abbrev pub messages : List Sequenced → List Message
messages ordered = map fragment_message (filter is_message (fragments_of ordered))
