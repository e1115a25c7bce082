-- What the first 11 bytes tell: a segment up to its payload, an acknowledgement, and each fault.
use Rattle.std.proofs.Common.{◌≡◌, ℕ, zero, suc, ◌+◌, ◌*◌, ◌≤◌, List, [], ◌∷◌, ◌++◌, length, take, drop, Option, Some, None, refl, sym, ap, ◌∙◌, arith}
use Rattle.std.proofs.lemmas.List.{length-append, take_at, take_all, take-take, take-append-drop}
use Rattle.byteorder.specs.Endian.{little_bytes}
use Rattle.nsp_seg.specs.declared.packet.AckField.{AckField}
use Rattle.nsp_seg.specs.declared.packet.SegFault.{SegFault}
use Rattle.nsp_seg.specs.declared.packet.SegFault.TheVariants.{Truncated, Trailing, NotHere, BadNumber, NoMemory}
use Rattle.nsp_seg.specs.declared.packet.AckFields.{AckFields}
use Rattle.nsp_seg.specs.declared.packet.Packet.TheVariants.{Segment, DataAck}
use Rattle.nsp_seg.specs.Packets.{SegmentFields, marks, optional_ack, Spells, HasFault, IsFieldDue, IsCutField, MayNotFollow, MayNotBeNumber}

-- the segment with another payload
abbrev pub carrying : SegmentFields → List ℕ → SegmentFields
carrying s payload = record {
  first = s.first;
  last = s.last;
  dst = s.dst;
  src = s.src;
  ack1 = s.ack1;
  ack2 = s.ack2;
  number = s.number;
  payload = payload;
}

-- what stands before the payload
abbrev head_with : ℕ → SegmentFields → List ℕ
head_with free s =
    marks s.first s.last ∷ [] ++ little_bytes 2 s.dst ++ little_bytes 2 s.src ++ optional_ack s.ack1 ++ optional_ack s.ack2
    ++ little_bytes 2 (0x1000 * free + s.number)

-- A payload is the last of its segment. Bytes that begin as the segment does up to the payload are that segment, with
-- the payload that stands there.
pub other_payload : (s : SegmentFields) (one : List ℕ) → Spells (Segment s) one
    → (start : ℕ) × (start + length s.payload ≡ length one)
    × ((two : List ℕ) → take start two ≡ take start one → Spells (Segment (carrying s (drop start two))) two)
other_payload s one h =
    let head : List ℕ = head_with h.free s in
    let start : ℕ = length head in
    let whole : one ≡ head ++ s.payload = h.spelled in (
      start,
      omega (arith, ap length whole, length-append head s.payload),
      λ two same.
          let front : take start two ≡ head = same ∙ ap (take start) whole ∙ take_at head s.payload start refl in record {
            fits = h.fits;
            free = h.free;
            few = h.few;
            spelled = sym (take-append-drop start two) ∙ ap (λ (f : List ℕ). f ++ drop start two) front;
          },
    )

-- an acknowledgement field that may be missing has two bytes at most
ack_few : (a : Option AckField) → length (optional_ack a) ≤ 2
ack_few None = omega arith
ack_few (Some a) = omega arith

-- at most 11 bytes stand before a payload
pub head_few : (s : SegmentFields) (one : List ℕ) → Spells (Segment s) one → length one ≤ 11 + length s.payload
head_few s one h =
    let one : List ℕ = optional_ack s.ack1 in
    let two : List ℕ = optional_ack s.ack2 in
    let number : List ℕ = little_bytes 2 (0x1000 * h.free + s.number) in
    omega (arith, ap length h.spelled, length-append (one ++ two ++ number) s.payload, length-append (one ++ two) number, length-append one two, ack_few s.ack1, ack_few s.ack2)

-- ---- What the first bytes tell.

-- bytes that end before an offset are the same where those up to it are
same_short : (n : ℕ) (one two : List ℕ) → length one + 1 ≤ n → take n two ≡ take n one → two ≡ one
same_short zero one two short same = absurd (omega (arith, short))
same_short (suc n) [] [] short same = refl
same_short (suc n) [] (y ∷ two) short same = absurd cc
same_short (suc n) (x ∷ one) [] short same = absurd cc
same_short (suc n) (x ∷ one) (y ∷ two) short same =
    let more = same_short n one two (omega (arith, short)) cc in
    cc

-- an acknowledgement ends there
pub other_ack : (a : AckFields) (one two : List ℕ) → Spells (DataAck a) one → take 11 two ≡ take 11 one → Spells (DataAck a) two
other_ack a one two h same = rw (same_short 11 one two (omega (arith, ap length h.spelled, ack_few a.ack2)) same) h

-- ---- Faults.

-- bytes that are the same up to this many after a front begin with it, and go on the same
same_front : (n offset : ℕ) (front rest two : List ℕ) → offset ≡ length front + n → take offset two ≡ take offset (front ++ rest)
    → (other : List ℕ) × (two ≡ front ++ other) × (take n other ≡ take n rest)
same_front n offset [] rest two at same = let e : offset ≡ n = omega (arith, at) in (two, refl, rw e at same)
same_front n zero (x ∷ front) rest two at same = absurd (omega (arith, at))
same_front n (suc offset) (x ∷ front) rest [] at same = absurd cc
same_front n (suc offset) (x ∷ front) rest (y ∷ two) at same =
    let more = same_front n offset front rest two (omega (arith, at)) cc in
    (more.0, cc (more.1, same), more.2)

-- a fault's front has at most 9 bytes, and two after it tell the fault
behind : (front rest one two : List ℕ) → length front ≤ 9 → one ≡ front ++ rest → take 11 two ≡ take 11 one
    → (other : List ℕ) × (two ≡ front ++ other) × (take 2 other ≡ take 2 rest)
behind front rest one two few whole same =
    let offset : ℕ = length front + 2 in
    same_front 2 offset front rest two refl (sym (take-take offset 11 two (omega (arith, few))) ∙ ap (take offset) same ∙ take-take offset 11 one (omega (arith, few)) ∙ ap (take offset) whole)

-- what holds of no list of ten or more holds of shorter ones alone
few : (P : List ℕ → Type 0) → ((a b c d e f g h i j : ℕ) (l : List ℕ) → P (a ∷ b ∷ c ∷ d ∷ e ∷ f ∷ g ∷ h ∷ i ∷ j ∷ l) → ⊥)
    → (front : List ℕ) → P front → length front ≤ 9
few P none [] p = omega arith
few P none (a ∷ []) p = omega arith
few P none (a ∷ b ∷ []) p = omega arith
few P none (a ∷ b ∷ c ∷ []) p = omega arith
few P none (a ∷ b ∷ c ∷ d ∷ []) p = omega arith
few P none (a ∷ b ∷ c ∷ d ∷ e ∷ []) p = omega arith
few P none (a ∷ b ∷ c ∷ d ∷ e ∷ f ∷ []) p = omega arith
few P none (a ∷ b ∷ c ∷ d ∷ e ∷ f ∷ g ∷ []) p = omega arith
few P none (a ∷ b ∷ c ∷ d ∷ e ∷ f ∷ g ∷ h ∷ []) p = omega arith
few P none (a ∷ b ∷ c ∷ d ∷ e ∷ f ∷ g ∷ h ∷ i ∷ []) p = omega arith
few P none (a ∷ b ∷ c ∷ d ∷ e ∷ f ∷ g ∷ h ∷ i ∷ j ∷ l) p = absurd (none a b c d e f g h i j l p)

-- what goes on the same for two bytes is short where the other is, and may not follow where the other may not
short_other : (front rest other : List ℕ) → IsCutField front rest → take 2 other ≡ take 2 rest → IsCutField front other
short_other [] [] [] short same = refl
short_other [] [] (y ∷ other) short same = absurd cc
short_other [] (x ∷ rest) other short same = absurd cc
short_other (a ∷ front) rest other short same =
    let two : take 2 rest ≡ rest = take_all 2 rest (omega (arith, short)) in
    rw (same_short 2 rest other (omega (arith, short)) same) short

follow_more : (front : List ℕ) (x w : ℕ) (rest : List ℕ) (y z : ℕ) (other : List ℕ) → z ≡ w → MayNotFollow front (x ∷ w ∷ rest) → MayNotFollow front (y ∷ z ∷ other)
follow_more [] x w rest y z other same may = absurd may
follow_more (a ∷ []) x w rest y z other same may = absurd may
follow_more (a ∷ b ∷ []) x w rest y z other same may = absurd may
follow_more (a ∷ b ∷ c ∷ []) x w rest y z other same may = absurd may
follow_more (a ∷ b ∷ c ∷ d ∷ []) x w rest y z other same may = absurd may
follow_more (a ∷ b ∷ c ∷ d ∷ e ∷ []) x w rest y z other same may = absurd may
follow_more (a ∷ b ∷ c ∷ d ∷ e ∷ f ∷ []) x w rest y z other same may = absurd may
follow_more (a ∷ b ∷ c ∷ d ∷ e ∷ f ∷ g ∷ []) x w rest y z other same may = (may.0, may.1, rw same may.2)
follow_more (a ∷ b ∷ c ∷ d ∷ e ∷ f ∷ g ∷ h ∷ []) x w rest y z other same may = absurd may
follow_more (a ∷ b ∷ c ∷ d ∷ e ∷ f ∷ g ∷ h ∷ i ∷ []) x w rest y z other same may = may
follow_more (a ∷ b ∷ c ∷ d ∷ e ∷ f ∷ g ∷ h ∷ i ∷ j ∷ front) x w rest y z other same may = absurd may

follow_other : (front rest other : List ℕ) → MayNotFollow front rest → take 2 other ≡ take 2 rest → MayNotFollow front other
follow_other front [] [] may same = may
follow_other front [] (y ∷ other) may same = absurd cc
follow_other front (x ∷ rest) [] may same = absurd cc
follow_other front (x ∷ []) (y ∷ []) may same = let e : y ≡ x = cc in rw e may
follow_other front (x ∷ []) (y ∷ z ∷ other) may same = absurd cc
follow_other front (x ∷ w ∷ rest) (y ∷ []) may same = absurd cc
follow_other front (x ∷ w ∷ rest) (y ∷ z ∷ other) may same = let e : z ≡ w = cc in follow_more front x w rest y z other e may

number_other : (low high : ℕ) (rest other : List ℕ) → take 2 other ≡ take 2 (low ∷ high ∷ rest) → (more : List ℕ) × (other ≡ low ∷ high ∷ more)
number_other low high rest [] same = absurd cc
number_other low high rest (x ∷ []) same = absurd cc
number_other low high rest (x ∷ y ∷ more) same = (more, cc)

pub other_fault : (f : SegFault) (one two : List ℕ) → HasFault f one → take 11 two ≡ take 11 one → HasFault f two
other_fault (Truncated at) one two h same =
    let o = behind h.0 h.1 one two (few IsFieldDue (λ a b c d e f g h i j l p. p) h.0 h.4) h.2 same in
    (h.0, o.0, o.1, h.3, h.4, short_other h.0 h.1 o.0 h.5 o.2)
other_fault (Trailing at) one two h same =
    let o = behind h.0 h.1 one two (few (λ (l : List ℕ). MayNotFollow l h.1) (λ a b c d e f g h i j l p. p) h.0 h.4) h.2 same in
    (h.0, o.0, o.1, h.3, follow_other h.0 h.1 o.0 h.4 o.2)
other_fault (NotHere flag) one two h same =
    let o = behind (flag ∷ []) h.0 one two (omega arith) h.1 same in
    (o.0, o.1, h.2)
other_fault (BadNumber at) one two h same =
    let o = behind h.0 (h.2 ∷ h.3 ∷ h.1) one two (few (λ (l : List ℕ). MayNotBeNumber l h.3) (λ a b c d e f g h i j l p. p) h.0 h.6) h.4 same in
    let n = number_other h.2 h.3 h.1 o.0 o.2 in
    (h.0, n.0, h.2, h.3, o.1 ∙ ap (λ (l : List ℕ). h.0 ++ l) n.1, h.5, h.6)
other_fault NoMemory one two h same = absurd h
