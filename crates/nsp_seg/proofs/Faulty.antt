-- The fault of the bytes is the one that reading meets.
use Rattle.std.proofs.Common.{◌≡◌, ℕ, ◌<◌, ◌≤◌, List, [], ◌∷◌, ◌++◌, length, get_or, Result, Ok, Err, refl, ◌∙◌, arith, inl, inr}
use Rattle.std.proofs.lemmas.Bool.{lt-ltb, le-ltb, ne_eqb, cases_Bool}
use Rattle.nsp_seg.specs.declared.packet.SegFault.{SegFault}
use Rattle.nsp_seg.specs.declared.packet.SegFault.TheVariants.{Truncated, Trailing, NotHere, BadNumber, NoMemory}
use Rattle.nsp_seg.specs.Packets.{Packet, HasFault, IsUsedFlag, IsFieldDue, IsCutField, MayNotFollow, MayNotBeNumber}
use Rattle.nsp_seg.specs.Inner.Reading.{tail_of, read_segment, second_of, data_ack_of, read_packet, ReadsPacketAs}
use Rattle.nsp_seg.proofs.Faults.{IsBytes, IsSegmentFlag, IsAckFlag, high_word, low_word, is_segment, used_of, of_segment, of_ack}

read-segment : (flag : ℕ) (rest : List ℕ) → IsSegmentFlag flag → read_packet (flag ∷ rest) ≡ read_segment flag rest
unfolding read_packet
read-segment flag rest h = rw (of_segment flag h) refl

read-ack : (flag : ℕ) (rest : List ℕ) → IsAckFlag flag → read_packet (flag ∷ rest) ≡ data_ack_of rest
unfolding read_packet
read-ack flag rest h = rw (of_ack flag h) refl

-- a field of both kinds of packet
read-used : (flag : ℕ) (rest : List ℕ) (f : SegFault) → IsUsedFlag flag → read_segment flag rest ≡ Err f → data_ack_of rest ≡ Err f → read_packet (flag ∷ rest) ≡ Err f
read-used flag rest f (inl used) seg ack = read-segment flag rest used ∙ seg
read-used flag rest f (inr used) seg ack = read-ack flag rest used ∙ ack

truncated_read : (front rest : List ℕ) → IsFieldDue front → IsCutField front rest → read_packet (front ++ rest) ≡ Err (Truncated (length front))
unfolding read_packet read_segment data_ack_of tail_of
truncated_read [] rest due short = rw short refl
truncated_read (flag ∷ []) [] due short = read-used flag [] _ due refl refl
truncated_read (flag ∷ []) (x ∷ []) due short = read-used flag (x ∷ []) _ due refl refl
truncated_read (flag ∷ []) (x ∷ y ∷ rest) due short = absurd (omega arith)
truncated_read (flag ∷ d0 ∷ []) rest due short = absurd due
truncated_read (flag ∷ d0 ∷ d1 ∷ []) [] due short = read-used flag (d0 ∷ d1 ∷ []) _ due refl refl
truncated_read (flag ∷ d0 ∷ d1 ∷ []) (x ∷ []) due short = read-used flag (d0 ∷ d1 ∷ x ∷ []) _ due refl refl
truncated_read (flag ∷ d0 ∷ d1 ∷ []) (x ∷ y ∷ rest) due short = absurd (omega arith)
truncated_read (flag ∷ d0 ∷ d1 ∷ s0 ∷ []) rest due short = absurd due
truncated_read (flag ∷ d0 ∷ d1 ∷ s0 ∷ s1 ∷ []) [] due short = read-used flag (d0 ∷ d1 ∷ s0 ∷ s1 ∷ []) _ due refl refl
truncated_read (flag ∷ d0 ∷ d1 ∷ s0 ∷ s1 ∷ []) (x ∷ []) due short = read-used flag (d0 ∷ d1 ∷ s0 ∷ s1 ∷ x ∷ []) _ due refl refl
truncated_read (flag ∷ d0 ∷ d1 ∷ s0 ∷ s1 ∷ []) (x ∷ y ∷ rest) due short = absurd (omega arith)
truncated_read (flag ∷ d0 ∷ d1 ∷ s0 ∷ s1 ∷ a0 ∷ []) rest due short = absurd due
truncated_read (flag ∷ d0 ∷ d1 ∷ s0 ∷ s1 ∷ a0 ∷ a1 ∷ []) [] due short =
    read-segment flag (d0 ∷ d1 ∷ s0 ∷ s1 ∷ a0 ∷ a1 ∷ []) due.0 ∙ rw (high_word a0 a1 due.1) refl
truncated_read (flag ∷ d0 ∷ d1 ∷ s0 ∷ s1 ∷ a0 ∷ a1 ∷ []) (x ∷ []) due short =
    read-segment flag (d0 ∷ d1 ∷ s0 ∷ s1 ∷ a0 ∷ a1 ∷ x ∷ []) due.0 ∙ rw (high_word a0 a1 due.1) refl
truncated_read (flag ∷ d0 ∷ d1 ∷ s0 ∷ s1 ∷ a0 ∷ a1 ∷ []) (x ∷ y ∷ rest) due short = absurd (omega arith)
truncated_read (flag ∷ d0 ∷ d1 ∷ s0 ∷ s1 ∷ a0 ∷ a1 ∷ b0 ∷ []) rest due short = absurd due
truncated_read (flag ∷ d0 ∷ d1 ∷ s0 ∷ s1 ∷ a0 ∷ a1 ∷ b0 ∷ b1 ∷ []) [] due short =
    read-segment flag (d0 ∷ d1 ∷ s0 ∷ s1 ∷ a0 ∷ a1 ∷ b0 ∷ b1 ∷ []) due.0 ∙ rw (high_word a0 a1 due.1, high_word b0 b1 due.2) refl
truncated_read (flag ∷ d0 ∷ d1 ∷ s0 ∷ s1 ∷ a0 ∷ a1 ∷ b0 ∷ b1 ∷ []) (x ∷ []) due short =
    read-segment flag (d0 ∷ d1 ∷ s0 ∷ s1 ∷ a0 ∷ a1 ∷ b0 ∷ b1 ∷ x ∷ []) due.0 ∙ rw (high_word a0 a1 due.1, high_word b0 b1 due.2) refl
truncated_read (flag ∷ d0 ∷ d1 ∷ s0 ∷ s1 ∷ a0 ∷ a1 ∷ b0 ∷ b1 ∷ []) (x ∷ y ∷ rest) due short = absurd (omega arith)
truncated_read (flag ∷ d0 ∷ d1 ∷ s0 ∷ s1 ∷ a0 ∷ a1 ∷ b0 ∷ b1 ∷ c0 ∷ front) rest due short = absurd due

-- what follows the first acknowledgement field is no second one
second_of-low : (low high : ℕ) (rest : List ℕ) → high < 128 → second_of (low ∷ high ∷ rest) ≡ Err (Trailing 7)
unfolding second_of
second_of-low low high [] lt = rw (lt-ltb high 128 lt) refl
second_of-low low high (x ∷ rest) lt = rw (lt-ltb high 128 lt) refl

second_of-more : (low high x : ℕ) (rest : List ℕ) → 128 ≤ high → second_of (low ∷ high ∷ x ∷ rest) ≡ Err (Trailing 9)
unfolding second_of
second_of-more low high x rest le = rw (le-ltb high 128 le) refl

trailing_read : (front rest : List ℕ) → MayNotFollow front rest → read_packet (front ++ rest) ≡ Err (Trailing (length front))
unfolding read_packet data_ack_of second_of
trailing_read [] rest may = absurd may
trailing_read (flag ∷ []) rest may = absurd may
trailing_read (flag ∷ d0 ∷ []) rest may = absurd may
trailing_read (flag ∷ d0 ∷ d1 ∷ []) rest may = absurd may
trailing_read (flag ∷ d0 ∷ d1 ∷ s0 ∷ []) rest may = absurd may
trailing_read (flag ∷ d0 ∷ d1 ∷ s0 ∷ s1 ∷ []) rest may = absurd may
trailing_read (flag ∷ d0 ∷ d1 ∷ s0 ∷ s1 ∷ a0 ∷ []) rest may = absurd may
trailing_read (flag ∷ d0 ∷ d1 ∷ s0 ∷ s1 ∷ a0 ∷ a1 ∷ []) [] may = absurd may
trailing_read (flag ∷ d0 ∷ d1 ∷ s0 ∷ s1 ∷ a0 ∷ a1 ∷ []) (x ∷ []) may =
    read-ack flag (d0 ∷ d1 ∷ s0 ∷ s1 ∷ a0 ∷ a1 ∷ x ∷ []) may.0 ∙ rw (high_word a0 a1 may.1) refl
trailing_read (flag ∷ d0 ∷ d1 ∷ s0 ∷ s1 ∷ a0 ∷ a1 ∷ []) (x ∷ y ∷ rest) may =
    read-ack flag (d0 ∷ d1 ∷ s0 ∷ s1 ∷ a0 ∷ a1 ∷ x ∷ y ∷ rest) may.0 ∙ rw (high_word a0 a1 may.1, second_of-low x y rest may.2) refl
trailing_read (flag ∷ d0 ∷ d1 ∷ s0 ∷ s1 ∷ a0 ∷ a1 ∷ b0 ∷ []) rest may = absurd may
trailing_read (flag ∷ d0 ∷ d1 ∷ s0 ∷ s1 ∷ a0 ∷ a1 ∷ b0 ∷ b1 ∷ []) [] may = absurd may
trailing_read (flag ∷ d0 ∷ d1 ∷ s0 ∷ s1 ∷ a0 ∷ a1 ∷ b0 ∷ b1 ∷ []) (x ∷ rest) may =
    read-ack flag (d0 ∷ d1 ∷ s0 ∷ s1 ∷ a0 ∷ a1 ∷ b0 ∷ b1 ∷ x ∷ rest) may.0 ∙ rw (high_word a0 a1 may.1, second_of-more b0 b1 x rest may.2) refl
trailing_read (flag ∷ d0 ∷ d1 ∷ s0 ∷ s1 ∷ a0 ∷ a1 ∷ b0 ∷ b1 ∷ c0 ∷ front) rest may = absurd may

not_here_read : (flag : ℕ) (rest : List ℕ) → (IsUsedFlag flag → ⊥) → read_packet (flag ∷ rest) ≡ Err (NotHere flag)
unfolding read_packet
not_here_read flag rest unused =
    elim (cases_Bool (is_segment flag)) [
      | inl t ↦ absurd (unused (inl (used_of flag t)))
      | inr n ↦ rw (n, ne_eqb flag 0x04 (λ four. unused (inr (rw four refl)))) refl
    ]

bad_number_read : (front rest : List ℕ) (low high : ℕ) → low < 256 → MayNotBeNumber front high → read_packet (front ++ low ∷ high ∷ rest) ≡ Err (BadNumber (length front))
unfolding read_packet read_segment data_ack_of tail_of
bad_number_read [] rest low high small may = absurd may
bad_number_read (flag ∷ []) rest low high small may = absurd may
bad_number_read (flag ∷ d0 ∷ []) rest low high small may = absurd may
bad_number_read (flag ∷ d0 ∷ d1 ∷ []) rest low high small may = absurd may
bad_number_read (flag ∷ d0 ∷ d1 ∷ s0 ∷ []) rest low high small may = absurd may
bad_number_read (flag ∷ d0 ∷ d1 ∷ s0 ∷ s1 ∷ []) rest low high small may =
    read-ack flag (d0 ∷ d1 ∷ s0 ∷ s1 ∷ low ∷ high ∷ rest) may.0 ∙ rw (low_word low high small may.1) refl
bad_number_read (flag ∷ d0 ∷ d1 ∷ s0 ∷ s1 ∷ a0 ∷ []) rest low high small may = absurd may
bad_number_read (flag ∷ d0 ∷ d1 ∷ s0 ∷ s1 ∷ a0 ∷ a1 ∷ []) rest low high small may = absurd may
bad_number_read (flag ∷ d0 ∷ d1 ∷ s0 ∷ s1 ∷ a0 ∷ a1 ∷ b0 ∷ []) rest low high small may = absurd may
bad_number_read (flag ∷ d0 ∷ d1 ∷ s0 ∷ s1 ∷ a0 ∷ a1 ∷ b0 ∷ b1 ∷ []) rest low high small may =
    read-segment flag (d0 ∷ d1 ∷ s0 ∷ s1 ∷ a0 ∷ a1 ∷ b0 ∷ b1 ∷ low ∷ high ∷ rest) may.0
    ∙ rw (high_word a0 a1 may.1, high_word b0 b1 may.2, high_word low high may.3) refl
bad_number_read (flag ∷ d0 ∷ d1 ∷ s0 ∷ s1 ∷ a0 ∷ a1 ∷ b0 ∷ b1 ∷ c0 ∷ front) rest low high small may = absurd may

-- the byte at the end of a front
byte_behind : (front rest : List ℕ) (x : ℕ) → get_or (front ++ x ∷ rest) (length front) 0 ≡ x
byte_behind [] rest x = refl
byte_behind (y ∷ front) rest x = byte_behind front rest x

pub read-fault : (f : SegFault) (bytes : List ℕ) → IsBytes bytes → HasFault f bytes → read_packet bytes ≡ Err f
read-fault (Truncated at) bytes fits h =
    let front = h.0 in
    let rest = h.1 in
    let same = h.2 in
    let len = h.3 in
    rw same (rw (← len) (truncated_read front rest h.4 h.5))
read-fault (Trailing at) bytes fits h =
    let front = h.0 in
    let rest = h.1 in
    let same = h.2 in
    let len = h.3 in
    rw same (rw (← len) (trailing_read front rest h.4))
read-fault (NotHere flag) bytes fits h = let same = h.1 in rw same (not_here_read flag h.0 h.2)
read-fault (BadNumber at) bytes fits h =
    let front = h.0 in
    let rest = h.1 in
    let low = h.2 in
    let high = h.3 in
    let same = h.4 in
    let len = h.5 in
    let byte = rw same at (fits (length front)) in
    let small = rw (byte_behind front (high ∷ rest) low) at byte in
    rw same (rw (← len) (bad_number_read front rest low high small h.6))
read-fault NoMemory bytes fits h = absurd h

-- a result that gives what is read of bytes at fault
pub given-faulty : (r : Result Packet SegFault) (f : SegFault) (bytes : List ℕ) → IsBytes bytes → r ≡ read_packet bytes → HasFault f bytes → r ≡ Err f
given-faulty r f bytes fits g h = g ∙ read-fault f bytes fits h
