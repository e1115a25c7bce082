-- What is read is spelled so.
use Rattle.std.proofs.Common.{sym, ◌≡◌, ℕ, suc, ◌+◌, ◌*◌, ◌/◌, ◌%◌, ◌<◌, ◌≤◌, List, [], ◌∷◌, ◌++◌, Option, Some, None, Result, Ok, Err, refl, ap, arith, inl, inr, ◌==◌, ◌||◌}
use Rattle.std.specs.Prelude.{IfSome, IfOk}
use Rattle.byteorder.specs.Endian.{little_bytes}
use Rattle.std.proofs.lemmas.Bool.{or_cases, eqb-true, cases_lt, cases_eq, cases_Bool, lt-ltb, le-ltb, eq-eqb, ne_eqb}
use Rattle.nsp_seg.specs.declared.packet.AckField.{AckField}
use Rattle.nsp_seg.specs.declared.packet.SegFault.{SegFault}
use Rattle.nsp_seg.specs.Numbers.{residue}
use Rattle.nsp_seg.specs.Packets.{Packet, Spells, AckFits, Beside, optional_ack, marks}
use Rattle.nsp_seg.specs.Inner.Reading.{◌>>=◌, tail_of, read_segment, second_of, data_ack_of, read_packet, ReadsPacketAs}
use Rattle.nsp_seg.proofs.Faults.{IsBytes, IsSegmentFlag, high_word, low_word, is_segment, used_of, of_segment}

low_cell : (low high : ℕ) → low < 256 → high < 256 → (low + 256 * high) % 256 ≡ low
low_cell low high l h = omega arith

high_cell : (low high : ℕ) → low < 256 → high < 256 → (low + 256 * high) / 256 % 256 ≡ high
high_cell low high l h = omega arith

-- the field that a marked number is, written again
abbrev field : ℕ → AckField
field word = record { qual = word / 4096 % 8; number = residue word }

field_word : (word : ℕ) → 0x8000 ≤ word → word < 0x10000 → 0x8000 + 0x1000 * (word / 4096 % 8) + residue word ≡ word
unfolding residue
field_word word le lt = omega arith

field_fits : (word : ℕ) → AckFits (field word)
unfolding residue
field_fits word = (omega arith, omega arith)

abbrev Tail : Type 0
Tail = Option AckField × Option AckField × ℕ × List ℕ

pub record TailIs (bytes : List ℕ) (t : Tail) : Type 0 where
  pub bytes_are : bytes ≡ optional_ack t.0 ++ optional_ack t.1 ++ little_bytes 2 t.2 ++ t.3
  pub first : IfSome t.0 AckFits
  pub second : IfSome t.1 AckFits
  pub beside : Beside t.0 t.1
  pub small : t.2 < 0x8000

abbrev tail_ok : Tail → Result Tail SegFault
tail_ok t = Ok t

tail_same : (t u : Tail) → tail_ok t ≡ tail_ok u → t ≡ u
tail_same t u e = cc

third_found : (a0 a1 b0 b1 : ℕ) (rest : List ℕ) (t : Tail) → a0 < 256 → a1 < 256 → 128 ≤ a1 → b0 < 256 → b1 < 256 → 128 ≤ b1 → IsBytes rest → tail_of (a0 ∷ a1 ∷ b0 ∷ b1 ∷ rest) ≡ Ok t → TailIs (a0 ∷ a1 ∷ b0 ∷ b1 ∷ rest) t
unfolding tail_of
third_found a0 a1 b0 b1 [] t sa ta la sb tb lb fits e = let g = rw (high_word a0 a1 la, high_word b0 b1 lb) at e in absurd cc
third_found a0 a1 b0 b1 (x ∷ []) t sa ta la sb tb lb fits e = let g = rw (high_word a0 a1 la, high_word b0 b1 lb) at e in absurd cc
third_found a0 a1 b0 b1 (c0 ∷ c1 ∷ rest) t sa ta la sb tb lb fits e =
    elim (cases_lt c1 128) [
      | inl lt ↦
          let g = rw (high_word a0 a1 la, high_word b0 b1 lb, low_word c0 c1 (fits 0) lt) at e in
          let same = tail_same (Some (field (a0 + 256 * a1)), Some (field (b0 + 256 * b1)), c0 + 256 * c1, rest) t g in
          rw (← same) (record {
            bytes_are = rw (field_word (a0 + 256 * a1) (omega arith) (omega arith), low_cell a0 a1 sa ta, high_cell a0 a1 sa ta, field_word (b0 + 256 * b1) (omega arith) (omega arith), low_cell b0 b1 sb tb, high_cell b0 b1 sb tb, low_cell c0 c1 (fits 0) (omega arith), high_cell c0 c1 (fits 0) (omega arith)) refl;
            first = field_fits (a0 + 256 * a1);
            second = field_fits (b0 + 256 * b1);
            beside = tt;
            small = omega (arith, fits 0);
          })
      | inr le ↦ let g = rw (high_word a0 a1 la, high_word b0 b1 lb, high_word c0 c1 le) at e in absurd cc
    ]

second_found : (a0 a1 : ℕ) (rest : List ℕ) (t : Tail) → a0 < 256 → a1 < 256 → 128 ≤ a1 → IsBytes rest → tail_of (a0 ∷ a1 ∷ rest) ≡ Ok t → TailIs (a0 ∷ a1 ∷ rest) t
unfolding tail_of
second_found a0 a1 [] t sa ta la fits e = let g = rw (high_word a0 a1 la) at e in absurd cc
second_found a0 a1 (x ∷ []) t sa ta la fits e = let g = rw (high_word a0 a1 la) at e in absurd cc
second_found a0 a1 (b0 ∷ b1 ∷ rest) t sa ta la fits e =
    elim (cases_lt b1 128) [
      | inl lt ↦
          let g = rw (high_word a0 a1 la, low_word b0 b1 (fits 0) lt) at e in
          let same = tail_same (Some (field (a0 + 256 * a1)), None, b0 + 256 * b1, rest) t g in
          rw (← same) (record {
            bytes_are = rw (field_word (a0 + 256 * a1) (omega arith) (omega arith), low_cell a0 a1 sa ta, high_cell a0 a1 sa ta, low_cell b0 b1 (fits 0) (omega arith), high_cell b0 b1 (fits 0) (omega arith)) refl;
            first = field_fits (a0 + 256 * a1);
            second = tt;
            beside = tt;
            small = omega (arith, fits 0);
          })
      | inr le ↦ third_found a0 a1 b0 b1 rest t sa ta la (fits 0) (fits 1) le (λ i. fits (suc (suc i))) e
    ]

tail_found : (bytes : List ℕ) (t : Tail) → IsBytes bytes → tail_of bytes ≡ Ok t → TailIs bytes t
unfolding tail_of
tail_found [] t fits e = absurd cc
tail_found (x ∷ []) t fits e = absurd cc
tail_found (a0 ∷ a1 ∷ rest) t fits e =
    elim (cases_lt a1 128) [
      | inl lt ↦
          let g = rw (low_word a0 a1 (fits 0) lt) at e in
          let same = tail_same (None, None, a0 + 256 * a1, rest) t g in
          rw (← same) (record { bytes_are = rw (low_cell a0 a1 (fits 0) (omega arith), high_cell a0 a1 (fits 0) (omega arith)) refl; first = tt; second = tt; beside = tt; small = omega (arith, fits 0) })
      | inr le ↦ second_found a0 a1 rest t (fits 0) (fits 1) le (λ i. fits (suc (suc i))) e
    ]

marks_of : (flag : ℕ) → IsSegmentFlag flag → marks (flag == 0x20 || flag == 0x60) (flag == 0x40 || flag == 0x60) ≡ flag
marks_of flag h =
    elim (or_cases (flag == 0x00 || flag == 0x20 || flag == 0x40) (flag == 0x60) (of_segment flag h)) [
      | inl e3 ↦ elim (or_cases (flag == 0x00 || flag == 0x20) (flag == 0x40) e3) [
        | inl e2 ↦ elim (or_cases (flag == 0x00) (flag == 0x20) e2) [ inl e1 ↦ rw (eqb-true _ _ e1) refl | inr e1 ↦ rw (eqb-true _ _ e1) refl ]
        | inr e2 ↦ rw (eqb-true _ _ e2) refl
      ]
      | inr e3 ↦ rw (eqb-true _ _ e3) refl
    ]

bind_ok : {A B : Type 0} (r : Result A SegFault) (g : A → B) (p : B) → (r >>= (λ x. Ok (g x))) ≡ Ok p → (x : A) × (r ≡ Ok x) × (g x ≡ p)
bind_ok (Ok x) g p e = (x, refl, cc)
bind_ok (Err y) g p e = absurd cc

free_word : (word : ℕ) → 0x1000 * (word / 4096) + residue word ≡ word
unfolding residue
free_word word = omega arith

residue-small : (n : ℕ) → residue n < 4096
unfolding residue
residue-small n = omega arith

segment_found : (flag : ℕ) (bytes : List ℕ) (p : Packet) → IsSegmentFlag flag → IsBytes bytes → read_segment flag bytes ≡ Ok p → Spells p (flag ∷ bytes)
unfolding read_segment
segment_found flag [] p used fits e = absurd cc
segment_found flag (x ∷ []) p used fits e = absurd cc
segment_found flag (d0 ∷ d1 ∷ []) p used fits e = absurd cc
segment_found flag (d0 ∷ d1 ∷ x ∷ []) p used fits e = absurd cc
segment_found flag (d0 ∷ d1 ∷ s0 ∷ s1 ∷ bytes) p used fits e =
    let b = bind_ok (tail_of bytes) _ p e in
    let t = b.0 in
    let tail = tail_found bytes t (λ i. fits (suc (suc (suc (suc i))))) b.1 in
    rw (← b.2) (record {
      fits = (omega (arith, fits 0, fits 1), omega (arith, fits 2, fits 3), tail.first, tail.second, tail.beside, residue-small t.2);
      free = t.2 / 4096;
      few = omega (arith, tail.small);
      spelled = rw (marks_of flag used, low_cell d0 d1 (fits 0) (fits 1), high_cell d0 d1 (fits 0) (fits 1), low_cell s0 s1 (fits 2) (fits 3), high_cell s0 s1 (fits 2) (fits 3), free_word t.2) (ap (λ (xs : List ℕ). flag ∷ d0 ∷ d1 ∷ s0 ∷ s1 ∷ xs) tail.bytes_are);
    })

second_ack_found : (bytes : List ℕ) (b : Option AckField) → IsBytes bytes → second_of bytes ≡ Ok b → IfSome b AckFits × (bytes ≡ optional_ack b)
unfolding second_of
second_ack_found [] b fits e = let same : None ≡ b = (cc) in rw (← same) (tt, refl)
second_ack_found (x ∷ []) b fits e = absurd cc
second_ack_found (b0 ∷ b1 ∷ []) b fits e =
    elim (cases_lt b1 128) [
      | inl lt ↦ let g = rw (lt-ltb b1 128 lt) at e in absurd cc
      | inr le ↦
          let g = rw (le-ltb b1 128 le, high_word b0 b1 le) at e in
          let same : Some (field (b0 + 256 * b1)) ≡ b = (cc) in
          rw (← same) (field_fits (b0 + 256 * b1), rw (field_word (b0 + 256 * b1) (omega arith) (omega (arith, fits 0, fits 1)), low_cell b0 b1 (fits 0) (fits 1), high_cell b0 b1 (fits 0) (fits 1)) refl)
    ]
second_ack_found (b0 ∷ b1 ∷ x ∷ rest) b fits e =
    elim (cases_lt b1 128) [
      | inl lt ↦ let g = rw (lt-ltb b1 128 lt) at e in absurd cc
      | inr le ↦ let g = rw (le-ltb b1 128 le) at e in absurd cc
    ]

ack_found : (bytes : List ℕ) (p : Packet) → IsBytes bytes → data_ack_of bytes ≡ Ok p → Spells p (0x04 ∷ bytes)
unfolding data_ack_of
ack_found [] p fits e = absurd cc
ack_found (x ∷ []) p fits e = absurd cc
ack_found (d0 ∷ d1 ∷ []) p fits e = absurd cc
ack_found (d0 ∷ d1 ∷ x ∷ []) p fits e = absurd cc
ack_found (d0 ∷ d1 ∷ s0 ∷ s1 ∷ []) p fits e = absurd cc
ack_found (d0 ∷ d1 ∷ s0 ∷ s1 ∷ x ∷ []) p fits e = absurd cc
ack_found (d0 ∷ d1 ∷ s0 ∷ s1 ∷ a0 ∷ a1 ∷ rest) p fits e =
    elim (cases_lt a1 128) [
      | inl lt ↦ let g = rw (low_word a0 a1 (fits 4) lt) at e in absurd cc
      | inr le ↦
          let g = rw (high_word a0 a1 le) at e in
          let b = bind_ok (second_of rest) _ p g in
          let second = second_ack_found rest b.0 (λ i. fits (suc (suc (suc (suc (suc (suc i))))))) b.1 in
          rw (← b.2) (record {
            fits = (omega (arith, fits 0, fits 1), omega (arith, fits 2, fits 3), field_fits (a0 + 256 * a1), second.0);
            free = 0;
            few = omega arith;
            spelled = rw (low_cell d0 d1 (fits 0) (fits 1), high_cell d0 d1 (fits 0) (fits 1), low_cell s0 s1 (fits 2) (fits 3), high_cell s0 s1 (fits 2) (fits 3), field_word (a0 + 256 * a1) (omega arith) (omega (arith, fits 4, fits 5)), low_cell a0 a1 (fits 4) (fits 5), high_cell a0 a1 (fits 4) (fits 5)) (ap (λ (xs : List ℕ). 0x04 ∷ d0 ∷ d1 ∷ s0 ∷ s1 ∷ a0 ∷ a1 ∷ xs) second.1);
          })
    ]

pub read_found : (bytes : List ℕ) (p : Packet) → IsBytes bytes → read_packet bytes ≡ Ok p → Spells p bytes
unfolding read_packet
read_found [] p fits e = absurd cc
read_found (flag ∷ rest) p fits e =
    elim (cases_Bool (is_segment flag)) [
      | inl t ↦ let g = rw t at e in segment_found flag rest p (used_of flag t) (λ i. fits (suc i)) g
      | inr n ↦ elim (cases_eq flag 0x04) [
        | inl four ↦ let g = rw (n, eq-eqb flag 0x04 four) at e in rw four (ack_found rest p (λ i. fits (suc i)) g)
        | inr other ↦ let g = rw (n, ne_eqb flag 0x04 other) at e in absurd cc
      ]
    ]

pub given-found : (r : Result Packet SegFault) (bytes : List ℕ) → IsBytes bytes → r ≡ read_packet bytes → IfOk r (λ p. Spells p bytes)
given-found (Ok p) bytes fits g = read_found bytes p fits (sym g)
given-found (Err f) bytes fits g = tt
