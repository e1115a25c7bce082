-- What is written of a message of what is kept of Attributes: numbers below 256.
use Rattle.std.proofs.Common.{◌≡◌, ℕ, zero, suc, ◌+◌, ◌/◌, ◌%◌, ◌<◌, ◌≤◌, Bool, true, false, List, [], ◌∷◌, ◌++◌, length, Option, Some, None, refl, sym, subst, arith, lit<}
use Rattle.std.specs.Prelude.{nat_lt, slice_index, if◌then◌else◌}
use Rattle.std.specs.List.{concat}
use Rattle.std.proofs.lemmas.Bool.{lt-ltb, ltb-true}
use Rattle.dap_fields.specs.Spelling.{AreBytes}
use Rattle.dap_fields.specs.Writing.{groups}
use Rattle.dap_msg.specs.Message.{Attrib}
use Rattle.dap_msg.specs.Formats.{header_bytes}
use Rattle.dap_msg.specs.BothEnds.{no_attributes}
use Rattle.dap_msg.specs.Canon.{option_bytes, operand_fields, operand_bytes, canon}
use Rattle.dap_msg.specs.Fitting.{FieldsFit, FitsOption}
use Rattle.dap_msg.specs.Grammar.{Byte, Word, Extensible}
use Rattle.dap_msg.proofs.Extents.{kept_operand}

none-are : AreBytes []
none-are = λ i. lit< tt

at-cons : (b : ℕ) (bytes : List ℕ) (i : ℕ) → b < 256 → AreBytes bytes → slice_index (b ∷ bytes) i < 256
at-cons b bytes zero h are = h
at-cons b bytes (suc i) h are = are i

cons-are : (b : ℕ) (bytes : List ℕ) → b < 256 → AreBytes bytes → AreBytes (b ∷ bytes)
cons-are b bytes h are = λ i. at-cons b bytes i h are

at-append : (front back : List ℕ) (i : ℕ) → AreBytes front → AreBytes back → slice_index (front ++ back) i < 256
at-append [] back i f b = b i
at-append (c ∷ front) back zero f b = f 0
at-append (c ∷ front) back (suc i) f b = at-append front back i (λ k. f (suc k)) b

append-are : (front back : List ℕ) → AreBytes front → AreBytes back → AreBytes (front ++ back)
append-are front back f b = λ i. at-append front back i f b

-- ---- Fields.

groups-by : (v : ℕ) (rest : List ℕ) (b : Bool) → nat_lt v 128 ≡ b → AreBytes rest → AreBytes (if b then v ∷ [] else (128 + v % 128) ∷ rest)
groups-by v rest true t are = cons-are v [] (let small = ltb-true v 128 t in omega arith) none-are
groups-by v rest false t are = cons-are (128 + v % 128) rest (omega arith) are

groups-are : (max v : ℕ) → AreBytes (groups max v)
unfolding groups
groups-are zero v = none-are
groups-are (suc max) v = groups-by v (groups max (v / 128)) (nat_lt v 128) refl (groups-are max (v / 128))

-- each of these is a list of such numbers
abbrev AllAre : List (List ℕ) → Type 0
AllAre [] = Unit {0}
AllAre (f ∷ fields) = AreBytes f × AllAre fields

concat-are : (fields : List (List ℕ)) → AllAre fields → AreBytes (concat fields)
concat-are [] all = none-are
concat-are (f ∷ fields) all = append-are f (concat fields) all.0 (concat-are fields all.1)

byte-are : (v : Option ℕ) → FitsOption Byte v → AreBytes (option_bytes Byte v)
byte-are None h = none-are
byte-are (Some v) h = cons-are v [] h none-are

word-are : (v : Option ℕ) → AreBytes (option_bytes Word v)
word-are None = none-are
word-are (Some v) = cons-are (v % 256) (v / 256 % 256 ∷ []) (omega arith) (cons-are (v / 256 % 256) [] (omega arith) none-are)

extensible-are : (max : ℕ) (v : Option ℕ) → AreBytes (option_bytes (Extensible max) v)
extensible-are max None = none-are
extensible-are max (Some v) = groups-are 12 v

-- ---- The message.

pub kept_are_bytes : (datatype rfm rat bls bks fsz bsz : Option ℕ) →
    let m = Attrib (record no_attributes { datatype = datatype; rfm = rfm; rat = rat; bls = bls; bks = bks; fsz = fsz; bsz = bsz }) in
    FieldsFit m → AreBytes (canon m)
unfolding canon
kept_are_bytes datatype rfm rat bls bks fsz bsz fits =
    let m = Attrib (record no_attributes { datatype = datatype; rfm = rfm; rat = rat; bls = bls; bks = bks; fsz = fsz; bsz = bsz }) in
    let few : length (operand_bytes m) ≤ 60 = kept_operand datatype rfm rat bls bks fsz bsz in
    let small : length (operand_bytes m) < 256 = omega arith in
    let head : AreBytes (header_bytes 2 (length (operand_bytes m))) =
    subst (λ (b : Bool). AreBytes (if b then 2 ∷ 2 ∷ length (operand_bytes m) ∷ [] else 2 ∷ 6 ∷ length (operand_bytes m) % 256 ∷ length (operand_bytes m) / 256 ∷ []))
    (sym (lt-ltb (length (operand_bytes m)) 256 small))
    (cons-are 2 (2 ∷ length (operand_bytes m) ∷ []) (lit< tt) (cons-are 2 (length (operand_bytes m) ∷ []) (lit< tt) (cons-are (length (operand_bytes m)) [] small none-are))) in
    append-are (header_bytes 2 (length (operand_bytes m))) (operand_bytes m) head (concat-are (operand_fields m) (
      groups-are 12 _,
      (
        extensible-are 2 datatype,
        (
          none-are,
          (
            byte-are rfm fits.2,
            (
              extensible-are 3 rat,
              (
                word-are bls,
                (
                  none-are,
                  (
                    none-are,
                    (
                      byte-are bks fits.7,
                      (
                        byte-are fsz fits.8,
                        (none-are, (none-are, (none-are, (none-are, (byte-are bsz fits.13, (none-are, (none-are, (none-are, (none-are, (none-are, (none-are, (none-are, tt)))))))))))),
                      ),
                    ),
                  ),
                ),
              ),
            ),
          ),
        ),
      ),
    ))
