-- Segments that are received, and the messages that they make.
use Rattle.std.specs.Prelude.{◌≡◌, ◌≢◌, ℕ, ◌+◌, ◌<◌, ◌≤◌, ◌⊎◌, List, [], ◌∷◌, ◌++◌, length, Option, Some, None, is_none, unwrap_or, if◌then◌else◌}
use Rattle.nsp_link.specs.declared.fault.LinkFault.{LinkFault}
use Rattle.nsp_link.specs.declared.fault.LinkFault.TheVariants.{BadSequence, MessageTooLong, Exhausted, NoMemory}
use Rattle.nsp_link.specs.Cutting.{Piece}
use Rattle.nsp_link.specs.Limits.{max_segments}

-- How many segments were taken in order, the bytes of the message that is begun, and the whole messages that weren't
-- returned.
pub record Coming : Type 0 where
  pub received : ℕ
  pub partial : Option (List ℕ)
  pub inbox : List (List ℕ)

-- before the first segment
abbrev pub nothing_came : Coming
nothing_came = record { received = 0; partial = None; inbox = [] }

-- the bytes of the message to which a segment belongs, so far
abbrev pub body_with : Coming → List ℕ → List ℕ
body_with c payload = unwrap_or c.partial [] ++ payload

-- One segment more. Its bytes follow those of its message, which is whole where the segment is the last one.
abbrev pub with_taken : Coming → Piece → Coming
with_taken c p = record {
  received = c.received + 1;
  partial = if p.last then None else Some (body_with c p.payload);
  inbox = if p.last then c.inbox ++ body_with c p.payload ∷ [] else c.inbox;
}

-- the segment is marked first exactly where no message is begun, and the message is then within the limit
abbrev pub FitsNext : ℕ → Coming → Piece → Type 0
FitsNext limit c p = (p.first ≡ is_none c.partial) × (length (body_with c p.payload) ≤ limit)

-- why a segment doesn't fit: its mark, and if that is right, the length
abbrev pub Misfits : ℕ → Coming → Piece → LinkFault → Type 0
Misfits limit c p BadSequence = p.first ≢ is_none c.partial
Misfits limit c p MessageTooLong = (p.first ≡ is_none c.partial) × (limit < length (body_with c p.payload))
Misfits limit c p _ = ⊥

-- ---- several segments, one after the other

-- the segments are taken, one after another
unfoldable pub with_all_taken : Coming → List Piece → Coming
with_all_taken c [] = c
with_all_taken c (p ∷ ps) = with_all_taken (with_taken c p) ps

-- each fits after those before it
unfoldable pub AllFitInOrder : ℕ → Coming → List Piece → Type 0
AllFitInOrder limit c [] = Unit {0}
AllFitInOrder limit c (p ∷ ps) = FitsNext limit c p × AllFitInOrder limit (with_taken c p) ps

-- the first that doesn't fit decides
unfoldable pub MisfitsOne : ℕ → Coming → List Piece → LinkFault → Type 0
MisfitsOne limit c [] e = ⊥
MisfitsOne limit c (p ∷ ps) e = Misfits limit c p e ⊎ (FitsNext limit c p × MisfitsOne limit (with_taken c p) ps e)

-- Why none of several segments is taken: the mark or length of one of them; or more than 2^40 would be taken; or
-- memory was refused. An earlier reason comes first.
abbrev pub RefusesAll : ℕ → Coming → List Piece → LinkFault → Type 0
RefusesAll limit c ps BadSequence = MisfitsOne limit c ps BadSequence
RefusesAll limit c ps MessageTooLong = MisfitsOne limit c ps MessageTooLong
RefusesAll limit c ps Exhausted = AllFitInOrder limit c ps × (max_segments < c.received + length ps)
RefusesAll limit c ps NoMemory = AllFitInOrder limit c ps × (c.received + length ps ≤ max_segments)
RefusesAll limit c ps _ = ⊥
