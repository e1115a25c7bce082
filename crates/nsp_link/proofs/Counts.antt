-- How many segments a message has, and where they begin.
use Rattle.std.proofs.Common.{◌≡◌, ℕ, zero, suc, ◌+◌, ◌-◌, ◌*◌, ◌<◌, ◌≤◌, min, List, length, take, drop, map, refl, arith, ap, ◌∙◌, append_assoc, ◌++◌, [], ◌∷◌, ◌==◌}
use Rattle.std.proofs.Math.Nat.{mul-le-mul_right}
use Rattle.std.proofs.lemmas.Grind.{div_ceil_times}
use Rattle.std.proofs.lemmas.List.{take_min, length-drop, append-nil, map-append}
use Rattle.std.specs.Int.{div_ceil}
use Rattle.std.proofs.lemmas.List.FromFn.{map-range_with_len_more, length-map-range_with_len}
use Rattle.std.proofs.lemmas.List.Elements.{All-cons, All-nil}
use Rattle.nsp_link.specs.Link.{LinkValue, AreShort}
use Rattle.std.specs.List.{range_with_len}
use Rattle.nsp_link.specs.Inner.Pieces.{Segment}
use Rattle.nsp_link.specs.Inner.Pieces.{piece, piece_values}
use Rattle.nsp_link.specs.Cutting.{Piece, count_of, piece_at, cut_message, cut}

-- each segment begins within the message
pub starts_within : (size len i : ℕ) → 0 < size → i < count_of size len → i * size ≤ len
unfolding count_of
starts_within size len zero pos lt = omega arith
starts_within size len (suc i) pos lt =
    let q = div_ceil len size in
    let bounds = div_ceil_times len size pos in
    let up : (suc i + 1) * size ≤ q * size = mul-le-mul_right size (omega arith) in
    omega arith

-- the bytes from a segment's start to its end
pub piece_payload : (size i start end : ℕ) (message : List ℕ) → start ≡ i * size → end ≡ min (length message) (start + size) → start ≤ length message → take (end - start) (drop start message) ≡ take size (drop (size * i) message)
piece_payload size i start end message s e le =
    let same : size * i ≡ start = omega arith in
    let len = length-drop start message in
    let short : end - start ≡ min size (length (drop start message)) = omega arith in
    rw (same, short) (take_min size (drop start message))

-- one more segment is queued
pub queued_more : (size : ℕ) (message : List ℕ) (i : ℕ) (before : List Piece) (items after : List Segment) (s : Segment)
    → after ≡ items ++ s ∷ [] → piece_values items ≡ before ++ map (piece_at size message) (range_with_len 0 i) → piece s ≡ piece_at size message i
    → piece_values after ≡ before ++ map (piece_at size message) (range_with_len 0 (i + 1))
queued_more size message i before items after s is had same =
    rw (is, map-append piece items (s ∷ []), had, same, map-range_with_len_more (piece_at size message) 0 i i (omega arith)) (append_assoc before (map (piece_at size message) (range_with_len 0 i)) (piece_at size message i ∷ []))

pub piece_is : (size : ℕ) (message : List ℕ) (i count : ℕ) (s : Segment) → count ≡ count_of size (length message) → s.first ≡ (i == 0) → s.last ≡ (i + 1 == count) → s.payload ≡ take size (drop (size * i) message) → piece s ≡ piece_at size message i
unfolding piece_at
piece_is size message i count s counted first last payload = rw (first, last, payload, counted) refl

pub length-cut_message : (size : ℕ) (message : List ℕ) → length (cut_message size message) ≡ count_of size (length message)
unfolding cut_message
length-cut_message size message = length-map-range_with_len (piece_at size message) 0 (count_of size (length message))

-- one message alone
pub cut-one : (size : ℕ) (message : List ℕ) → cut size (message ∷ []) ≡ cut_message size message
unfolding cut
cut-one size message = append-nil (cut_message size message)

pub length-cut-one : (size : ℕ) (message : List ℕ) → length (cut size (message ∷ [])) ≡ count_of size (length message)
length-cut-one size message = ap length (cut-one size message) ∙ length-cut_message size message

pub one_short : (v : LinkValue) (message : List ℕ) → length message ≤ v.setup.max_message → AreShort v (message ∷ [])
one_short v message le = All-cons (λ (m : List ℕ). length m ≤ v.setup.max_message) message [] le (All-nil (λ (m : List ℕ). length m ≤ v.setup.max_message))

-- one message alone
pub ruleset one_message = (length-cut-one, one_short)

pub ruleset counts = (starts_within, piece_payload)
