-- The written spelling is a spelling.
use Rattle.std.proofs.Common.{◌≡◌, ℕ, zero, suc, ◌+◌, ◌*◌, ◌/◌, ◌%◌, ◌^◌, ◌<◌, ◌≤◌, Bool, true, false, cond, eqb, List, [], ◌∷◌, ◌++◌, length, take, get_or, Option, Some, None, Ok, refl, sym, ap, subst, ◌∙◌, lit≤, arith, inl, inr}
use Rattle.std.specs.Prelude.{is_some, not, nat_lt, nat_le, ◌&&◌, ◌||◌}
use Rattle.std.proofs.lemmas.Bool.Decides.{nat_tests}
use Rattle.std.proofs.lemmas.Bool.{cases_lt, lt-ltb, le-ltb, le-leb}
use Rattle.std.proofs.lemmas.List.{length-append, take_at}
use Rattle.std.proofs.lemmas.Nat.Bits.{bit_at-suc, bit_at-zero}
use Rattle.std.proofs.Math.Nat.{pow-succ'}
use Rattle.dap_fields.specs.Spelling.{FixedValue}
use Rattle.dap_fields.specs.Writing.{groups, shortest}
use Rattle.dap_fields.proofs.ForCallers.{groups_spell}
use Rattle.dap_msg.specs.Grammar.{Kind, Byte, Word, Extensible, Image, ValueOf, SpellsField, Part, Must, When, OrElse, UnlessEnd, Remainder, PartValue, SpellsPart, Grammar, Next, Done, SpellsFormat, field_bytes, part_bytes, WritesFormat}
use Rattle.dap_msg.specs.Message.{Message, Config, Attrib, Access, Control, Contran, Ack, Accomp, Filedata, Status, Other, length_of}
use Rattle.dap_msg.specs.Formats.{any, has, menu, optional_part, header, operand, configuration_format, attributes_format, access_format, control_format, continuation_format, acknowledge_format, completion_format, file_data_format, status_format, other_format, type_number}
use Rattle.dap_msg.specs.Decoding.{HasLength, SpellsMessage, StandsInFront, IsSpelled}
use Rattle.dap_msg.specs.declared.fault.FaultKind.{FaultKind}
use Rattle.dap_msg.specs.Inner.Refusals.{refuses_type, refuses_flags, refuses_stream}
use Rattle.dap_msg.specs.Inner.Whole.{message_at}
use Rattle.dap_msg.proofs.Messages.{ok_only}
use Rattle.dap_msg.specs.Canon.{Fits}
use Rattle.dap_msg.specs.Canon.{option_bytes, bits_of, attribute_flags, control_flags, operand_bytes, canon}
use Rattle.dap_msg.specs.Fitting.{FitsField, FitsOption, FieldsFit, KeepsLimits}

-- ---- Fields.

-- the kinds that have a written spelling of every value
abbrev has_room : Kind → Bool
has_room (Extensible max) = nat_lt 0 max && nat_le max 12
has_room k = true

byte_spelled : (n : ℕ) → n < 256 → FixedValue 1 n (n ∷ [])
byte_spelled n lt = record { fits = lt; spelled = grind arith }

field_spelled : (k : Kind) (v : ValueOf k) → has_room k ≡ true → FitsField k v → SpellsField k v (field_bytes k v)
field_spelled Byte v room h = byte_spelled v h
field_spelled Word v room h = record { fits = h; spelled = refl }
field_spelled (Extensible max) v room h =
    let some : (0 < max) × (max ≤ 12) = grind (arith, nat_tests, room) in
    groups_spell max 12 v h some.1 some.0
field_spelled (Image max) v room h = record { short = h; spelled = refl }

-- ---- Menus.

bits_below : (flags : List Bool) → bits_of flags < 2 ^ length flags
bits_below [] = omega arith
bits_below (b ∷ flags) = grind (arith, bits_below flags, pow-succ' 2 (length flags))

lowest : (b : Bool) (x : ℕ) → eqb ((cond b 1 0 + 2 * x) / 2 ^ 0 % 2) 1 ≡ b
lowest b x = grind arith

above : (b : Bool) (x : ℕ) → (cond b 1 0 + 2 * x) / 2 ≡ x
above b x = grind arith

bit_is : (flags : List Bool) (i : ℕ) → has (bits_of flags) i ≡ get_or flags i false
bit_is [] i = ap (λ v. eqb v 1) (bit_at-zero i)
bit_is (b ∷ flags) zero = lowest b (bits_of flags)
bit_is (b ∷ flags) (suc i) = ap (λ v. eqb v 1) (bit_at-suc (cond b 1 0 + 2 * bits_of flags) i) ∙ ap (λ v. has v i) (above b (bits_of flags)) ∙ bit_is flags i

-- ---- Parts, and formats of them.

-- the part with the value v is written where the rest follows
record WrittenPart (p : Part) (v : PartValue p) (rest : List ℕ) : Type 0 where
  spelled : SpellsPart p v (part_bytes p v) rest

-- the bytes are what is written of the format with the value x, where the rest follows
pub record Written {A : Type 0} (g : Grammar A) (x : A) (bytes rest : List ℕ) : Type 0 where
  pub written : WritesFormat g x bytes rest

-- a part, and the format after it
infixr 5 ◌▷◌
◌▷◌ : {A : Type 0} {p : Part} {v : PartValue p} {g : PartValue p → Grammar A} {x : A} {back rest : List ℕ}
    → WrittenPart p v (back ++ rest) → Written (g v) x back rest → Written (Next p g) x (part_bytes p v ++ back) rest
part ▷ more = record { written = (_, _, refl, part.spelled, more.written) }

done : {A : Type 0} {rest : List ℕ} (x : A) → Written (Done x) x [] rest
done x = record { written = (refl, refl) }

-- what is written is spelled
spells : {A : Type 0} (g : Grammar A) (x : A) (bytes rest : List ℕ) → WritesFormat g x bytes rest → SpellsFormat g x bytes rest
spells (Done a) x bytes rest w = w
spells (Next p next) x bytes rest (v, back, joined, part, more) = (v, part_bytes p v, back, joined, part, spells (next v) x back rest more)

remainder : (bytes : List ℕ) → WrittenPart (Remainder true) bytes []
remainder bytes = record { spelled = (refl, refl) }

ignored : WrittenPart (Remainder false) [] []
ignored = record { spelled = (refl, refl) }

must : {rest : List ℕ} (k : Kind) (refuses : ValueOf k → Option FaultKind) (v : ValueOf k) → has_room k ≡ true → FitsField k v → refuses v ≡ None → WrittenPart (Must k refuses) v rest
must k refuses v room h e = record { spelled = (field_spelled k v room h, e) }

field : {rest : List ℕ} (k : Kind) (v : ValueOf k) → has_room k ≡ true → FitsField k v → WrittenPart (Must k any) v rest
field k v room h = must k any v room h refl

or_default : {rest : List ℕ} (k : Kind) (default v : ValueOf k) → has_room k ≡ true → FitsField k v → WrittenPart (OrElse k default any) v rest
or_default k default v room h = record { spelled = inl (field_spelled k v room h, refl) }

unless_end : (k : Kind) (o : Option (ValueOf k)) → has_room k ≡ true → FitsOption k o → WrittenPart (UnlessEnd k any) o []
unless_end k (Some v) room h = record { spelled = (field_spelled k v room h, refl) }
unless_end k None room h = record { spelled = (refl, refl) }

absent : {rest : List ℕ} (test : Bool) (k : Kind) (refuses : ValueOf k → Option FaultKind) → test ≡ false → WrittenPart (When test k refuses) None rest
absent test k refuses e = record { spelled = (e, refl) }

when : {rest : List ℕ} (test : Bool) (k : Kind) (o : Option (ValueOf k)) → test ≡ is_some o → has_room k ≡ true → FitsOption k o → WrittenPart (When test k any) o rest
when test k (Some v) e room h = record { spelled = (e, field_spelled k v room h, refl) }
when test k None e room h = absent test k any e

optional_field : {rest : List ℕ} (flags : List Bool) (i : ℕ) (k : Kind) (o : Option (ValueOf k)) → get_or flags i false ≡ is_some o → has_room k ≡ true → FitsOption k o → WrittenPart (optional_part (bits_of flags) i k) o rest
optional_field flags i k o e room h = when (has (bits_of flags) i) k o (bit_is flags i ∙ e) room h

bits : {rest : List ℕ} (max : ℕ) (flags : List Bool) → has_room (Extensible max) ≡ true → 2 ^ length flags ≤ 128 ^ max → WrittenPart (menu max (length flags)) (bits_of flags) rest
bits max flags room le =
    let below = bits_below flags in
    record { spelled = inl (field_spelled (Extensible max) (bits_of flags) room (omega arith), rw (lt-ltb (bits_of flags) (2 ^ length flags) below) refl) }

-- ---- Operands.

pub other_operand : (n : ℕ) → 10 ≤ n → operand n ≡ other_format n
other_operand n le = grind (arith, nat_tests, le)

pub operand_written : (m : Message) → FieldsFit m → Written (operand (type_number m)) m (operand_bytes m) []
unfolding configuration_format attributes_format access_format control_format continuation_format acknowledge_format completion_format file_data_format status_format other_format
operand_written (Config c) h =
    field Word c.bufsiz refl h.0
    ▷ field Byte c.ostype refl h.1
    ▷ field Byte c.filesys refl h.2
    ▷ field Byte c.vernum refl h.3
    ▷ field Byte c.econum refl h.4
    ▷ field Byte c.usrnum refl h.5
    ▷ field Byte c.softver refl h.6
    ▷ field Byte c.usrsoft refl h.7
    ▷ field (Extensible 12) c.syscap refl h.8
    ▷ ignored ▷ done (Config c)
operand_written (Attrib a) h =
    bits 6 (attribute_flags a) refl (lit≤ tt)
    ▷ optional_field (attribute_flags a) 0 (Extensible 2) a.datatype refl refl h.0
    ▷ optional_field (attribute_flags a) 1 Byte a.org refl refl h.1
    ▷ optional_field (attribute_flags a) 2 Byte a.rfm refl refl h.2
    ▷ optional_field (attribute_flags a) 3 (Extensible 3) a.rat refl refl h.3
    ▷ optional_field (attribute_flags a) 4 Word a.bls refl refl h.4
    ▷ optional_field (attribute_flags a) 5 Word a.mrs refl refl h.5
    ▷ optional_field (attribute_flags a) 6 (Image 5) a.alq refl refl h.6
    ▷ optional_field (attribute_flags a) 7 Byte a.bks refl refl h.7
    ▷ optional_field (attribute_flags a) 8 Byte a.fsz refl refl h.8
    ▷ optional_field (attribute_flags a) 9 (Image 5) a.mrn refl refl h.9
    ▷ optional_field (attribute_flags a) 10 (Image 40) a.runsys refl refl h.10
    ▷ optional_field (attribute_flags a) 11 Word a.deq refl refl h.11
    ▷ optional_field (attribute_flags a) 12 (Extensible 6) a.fop refl refl h.12
    ▷ optional_field (attribute_flags a) 13 Byte a.bsz refl refl h.13
    ▷ optional_field (attribute_flags a) 14 (Extensible 6) a.dev refl refl h.14
    ▷ optional_field (attribute_flags a) 15 (Extensible 6) a.sdc refl refl h.15
    ▷ optional_field (attribute_flags a) 16 Word a.lrl refl refl h.16
    ▷ optional_field (attribute_flags a) 17 (Image 5) a.hbk refl refl h.17
    ▷ optional_field (attribute_flags a) 18 (Image 5) a.ebk refl refl h.18
    ▷ optional_field (attribute_flags a) 19 Word a.ffb refl refl h.19
    ▷ optional_field (attribute_flags a) 20 (Image 5) a.sbn refl refl h.20
    ▷ ignored ▷ done (Attrib a)
operand_written (Access a) h =
    field Byte a.func refl h.0
    ▷ field (Extensible 5) a.opt refl h.1
    ▷ field (Image 255) a.name refl h.2
    ▷ or_default (Extensible 3) 0 a.fac refl h.3
    ▷ or_default (Extensible 3) 0 a.shr refl h.4
    ▷ or_default (Extensible 4) 0 a.display refl h.5
    ▷ or_default (Image 40) [] a.password refl h.6
    ▷ ignored ▷ done (Access a)
operand_written (Control c) h =
    field Byte c.func refl h.0
    ▷ bits 4 (control_flags c) refl (lit≤ tt)
    ▷ optional_field (control_flags c) 0 Byte c.rac refl refl h.1
    ▷ optional_field (control_flags c) 1 (Image 255) c.key refl refl h.2
    ▷ optional_field (control_flags c) 2 Byte c.krf refl refl h.3
    ▷ optional_field (control_flags c) 3 (Extensible 6) c.rop refl refl h.4
    ▷ optional_field (control_flags c) 4 (Image 5) c.hsh refl refl h.5
    ▷ optional_field (control_flags c) 5 (Extensible 4) c.display refl refl h.6
    ▷ ignored ▷ done (Control c)
operand_written (Contran func) h = field Byte func refl h ▷ ignored ▷ done (Contran func)
operand_written Ack h = ignored ▷ done Ack
operand_written (Accomp c) h =
    field Byte c.func refl h.0
    ▷ or_default (Extensible 6) 0 c.fop refl h.1
    ▷ unless_end Word c.check refl h.2
    ▷ ignored ▷ done (Accomp c)
operand_written (Filedata recnum payload) h = field (Image 8) recnum refl h ▷ remainder payload ▷ done (Filedata recnum payload)
operand_written (Status s) h =
    field Word s.code refl h.0
    ▷ or_default (Image 8) [] s.rfa refl h.1
    ▷ or_default (Image 8) [] s.recnum refl h.2
    ▷ or_default (Image 8) [] s.stv refl h.3
    ▷ ignored ▷ done (Status s)
operand_written (Other n body) h = subst (λ g. Written g (Other n body) (operand_bytes (Other n body)) []) (sym (other_operand n h.0)) (remainder body ▷ done (Other n body))

-- ---- Headers and whole messages.

pub number_fits : (m : Message) → FieldsFit m → (0 < type_number m) × (type_number m < 17)
number_fits m h = grind arith

-- Whether there is a stream, a LENGTH and a LEN256.
abbrev header_flags : Option ℕ → Option ℕ → List Bool
header_flags low high = false ∷ is_some low ∷ is_some high ∷ []

abbrev front : (number : ℕ) → Option ℕ → Option ℕ → List ℕ
front number low high = number ∷ (shortest (bits_of (header_flags low high)) ++ (option_bytes Byte low ++ (option_bytes Byte high ++ [])))

known_flags : (low high : Option ℕ) → (is_some low || not (is_some high)) ≡ true → refuses_flags (bits_of (header_flags low high)) ≡ None
known_flags low high e =
    let flags = header_flags low high in
    rw (lt-ltb (bits_of flags) 8 (bits_below flags), bit_is flags 1, bit_is flags 2, e) refl

header_written : (n : ℕ) (low high : Option ℕ) → 0 < n → n < 17 → (is_some low || not (is_some high)) ≡ true → FitsOption Byte low → FitsOption Byte high → (rest : List ℕ)
    → Written header (record { number = n; flags = bits_of (header_flags low high); low = low; high = high }) (front n low high) rest
unfolding header
header_written n low high some lt e l h rest =
    let flags = header_flags low high in
    must Byte refuses_type n refl (omega arith) (rw (lt-ltb 0 n some, le-leb n 16 (omega arith)) refl)
    ▷ must (Extensible 5) refuses_flags (bits_of flags) refl (omega (arith, bits_below flags)) (known_flags low high e)
    ▷ absent (has (bits_of flags) 0) Byte refuses_stream (bit_is flags 0)
    ▷ optional_field flags 1 Byte low refl refl l
    ▷ optional_field flags 2 Byte high refl refl h
    ▷ done _

-- a message whose header has these bytes of the operand's length
with_header : (m : Message) (low high : Option ℕ) (closed : Bool) → FieldsFit m → (is_some low || not (is_some high)) ≡ true → FitsOption Byte low → FitsOption Byte high
    → HasLength (length_of low high) (operand_bytes m) closed → SpellsMessage m (front (type_number m) low high ++ operand_bytes m) closed
with_header m low high closed h e l r extent =
    let n = number_fits m h in
    record {
      start = record {
        head = record { number = type_number m; flags = bits_of (header_flags low high); low = low; high = high };
        front = front (type_number m) low high;
        rest = operand_bytes m;
        joined = refl;
        header = spells header _ _ _ (header_written (type_number m) low high n.0 n.1 e l r (operand_bytes m)).written;
      };
      operand = spells (operand (type_number m)) m _ _ (operand_written m h).written;
      extent = extent;
    }

pub canon_spells : (m : Message) → KeepsLimits m → SpellsMessage m (canon m) true
unfolding canon groups
canon_spells m h =
    let len = length (operand_bytes m) in
    elim (cases_lt len 256) [
      | inl one ↦ rw (lt-ltb len 256 one) (with_header m (Some len) None true h.fields refl one tt (refl, refl))
      | inr two ↦ rw (le-ltb len 256 two) (with_header m (Some (len % 256)) (Some (len / 256)) true h.fields refl (omega arith) (omega (arith, h.length)) (omega arith, refl))
    ]

-- A message whose values fit their fields has a spelling with no LENGTH, however long its operand is.
pub open_spelling : (m : Message) → FieldsFit m → IsSpelled m
open_spelling m h = (front (type_number m) None None ++ operand_bytes m, false, with_header m None None false h refl tt tt refl)

pub closed_spelling : (m : Message) → KeepsLimits m → Fits m
closed_spelling m h = record { bytes = canon m; spelled = canon_spells m h }

pub canon_stands : (m : Message) → KeepsLimits m → (after : List ℕ) → StandsInFront m (length (canon m)) (canon m ++ after)
canon_stands m h after = record {
  closed = true;
  there = omega (arith, length-append (canon m) after);
  spelled = subst (λ (x : List ℕ). SpellsMessage m x true) (sym (take_at (canon m) after (length (canon m)) refl)) (canon_spells m h);
  open_is_all = λ t. absurd cc;
}

-- no other message, and no other number of bytes, is a closed front of what is written and whatever follows
pub one_front : (m other : Message) (more : List ℕ) (n : ℕ) → KeepsLimits m → n ≤ length (canon m ++ more)
    → SpellsMessage other (take n (canon m ++ more)) true → (n ≡ length (canon m)) × (other ≡ m)
one_front m other more n h le o =
    let one : message_at (canon m ++ more) ≡ Ok (m, length (canon m)) = ok_only (canon m ++ more) m (length (canon m)) (canon_stands m h more) in
    let two : message_at (canon m ++ more) ≡ Ok (other, n) = ok_only (canon m ++ more) other n (record { closed = true; there = le; spelled = o; open_is_all = λ t. absurd cc }) in
    let both : ◌≡◌ {A = Message × ℕ} (other, n) (m, length (canon m)) = cc in
    (ap (λ x. x.1) both, ap (λ x. x.0) both)

-- two messages of which the same is written are one
pub one_written : (m other : Message) → KeepsLimits m → KeepsLimits other → canon other ≡ canon m → other ≡ m
one_written m other h k e =
    let one : message_at (canon m ++ []) ≡ Ok (m, length (canon m)) = ok_only (canon m ++ []) m (length (canon m)) (canon_stands m h []) in
    let two : message_at (canon other ++ []) ≡ Ok (other, length (canon other)) = ok_only (canon other ++ []) other (length (canon other)) (canon_stands other k []) in
    let same : message_at (canon m ++ []) ≡ Ok (other, length (canon other)) = ap (λ (x : List ℕ). message_at (x ++ [])) (sym e) ∙ two in
    let both : ◌≡◌ {A = Message × ℕ} (other, length (canon other)) (m, length (canon m)) = cc in
    ap (λ x. x.0) both
