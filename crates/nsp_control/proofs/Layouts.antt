-- Reading by the fields of a packet, from left to right, with the first fault that is met.
use Rattle.std.proofs.Common.{◌≡◌, ◌≢◌, ℕ, ◌+◌, ◌*◌, ◌<◌, List, [], ◌∷◌, ◌++◌, length, append_assoc, Result, Ok, Err, refl, sym, ◌∙◌, ap, arith, inl, inr}
use Rattle.std.proofs.lemmas.Bool.{cases_eq, eq-eqb, ne_eqb}
use Rattle.std.proofs.lemmas.List.{length-append}
use Rattle.nsp_control.specs.declared.packet.ControlFault.{ControlFault}
use Rattle.nsp_control.specs.declared.packet.ControlFault.TheVariants.{Truncated, Trailing, NotHere, BadAddress, NoMemory}
use Rattle.nsp_control.specs.Faults.{ControlField, OneByte, TwoBytes, ZeroAddress, LinkAddress, control_width, IsControlField, AreControlFields}
use Rattle.nsp_control.specs.Reading.{◌>>=◌, read_control_byte, read_control_word, read_zero, read_address}

-- what follows a field
abbrev pub read_field : ℕ → ControlField → List ℕ → Result (ℕ × List ℕ) ControlFault
read_field at OneByte bytes = read_control_byte at bytes
read_field at TwoBytes bytes = read_control_word at bytes
read_field at ZeroAddress bytes = read_zero at bytes
read_field at LinkAddress bytes = read_address at bytes

-- what follows these fields, the first of which is at this offset
abbrev pub read_fields : ℕ → List ControlField → List ℕ → Result (List ℕ) ControlFault
read_fields at [] bytes = Ok bytes
read_fields at (field ∷ fields) bytes = read_field at field bytes >>= (λ x. read_fields (at + control_width field) fields x.1)

-- the fault of a field at this offset
abbrev pub FieldFault : ℕ → ControlField → List ℕ → ControlFault → Type 0
FieldFault at next rest (Truncated k) = (k ≡ at) × (length rest < control_width next)
FieldFault at next rest (BadAddress k) = (k ≡ at) × (field more : List ℕ) × (rest ≡ field ++ more) × (length field ≡ control_width next) × (IsControlField next field → ⊥)
FieldFault at next rest (Trailing k) = ⊥
FieldFault at next rest (NotHere k) = ⊥
FieldFault at next rest NoMemory = ⊥

-- a field, read: it is allowed, or has a fault
abbrev pub FieldRead : ℕ → ControlField → List ℕ → Result (ℕ × List ℕ) ControlFault → Type 0
FieldRead at field bytes (Ok x) = (first : List ℕ) × (bytes ≡ first ++ x.1) × IsControlField field first × (length first ≡ control_width field)
FieldRead at field bytes (Err f) = FieldFault at field bytes f

zero_read : (at a b : ℕ) (rest : List ℕ) → FieldRead at ZeroAddress (a ∷ b ∷ rest) (read_zero at (a ∷ b ∷ rest))
unfolding read_zero
zero_read at a b rest =
    elim (cases_eq (a + 256 * b) 0) [
      | inl z ↦
          let za : a ≡ 0 = omega (arith, z) in
          let zb : b ≡ 0 = omega (arith, z) in
          rw (eq-eqb (a + 256 * b) 0 z) (a ∷ b ∷ [], refl, rw (za, zb) refl, refl)
      | inr n ↦ rw (ne_eqb (a + 256 * b) 0 n) (refl, a ∷ b ∷ [], rest, refl, refl, λ e. n (let x : a ≡ 0 = cc in let y : b ≡ 0 = cc in omega (arith, x, y)))
    ]

address_read : (at a b : ℕ) (rest : List ℕ) → FieldRead at LinkAddress (a ∷ b ∷ rest) (read_address at (a ∷ b ∷ rest))
unfolding read_address
address_read at a b rest =
    elim (cases_eq (a + 256 * b) 0) [
      | inl z ↦
          let za : a ≡ 0 = omega (arith, z) in
          let zb : b ≡ 0 = omega (arith, z) in
          rw (eq-eqb (a + 256 * b) 0 z) (refl, a ∷ b ∷ [], rest, refl, refl, λ k. k.1 (rw (za, zb) refl))
      | inr n ↦ rw (ne_eqb (a + 256 * b) 0 n) (a ∷ b ∷ [], refl, (refl, λ e. n (let x : a ≡ 0 = cc in let y : b ≡ 0 = cc in omega (arith, x, y))), refl)
    ]

pub field_read : (at : ℕ) (field : ControlField) (bytes : List ℕ) → FieldRead at field bytes (read_field at field bytes)
unfolding read_zero read_address
field_read at OneByte [] = (refl, omega arith)
field_read at OneByte (a ∷ rest) = (a ∷ [], refl, refl, refl)
field_read at TwoBytes [] = (refl, omega arith)
field_read at TwoBytes (a ∷ []) = (refl, omega arith)
field_read at TwoBytes (a ∷ b ∷ rest) = (a ∷ b ∷ [], refl, refl, refl)
field_read at ZeroAddress [] = (refl, omega arith)
field_read at ZeroAddress (a ∷ []) = (refl, omega arith)
field_read at ZeroAddress (a ∷ b ∷ rest) = zero_read at a b rest
field_read at LinkAddress [] = (refl, omega arith)
field_read at LinkAddress (a ∷ []) = (refl, omega arith)
field_read at LinkAddress (a ∷ b ∷ rest) = address_read at a b rest

-- the first fault of these fields, the first of which is at this offset
pub record FieldsFault (at : ℕ) (fields : List ControlField) (bytes : List ℕ) (f : ControlFault) : Type 0 where
  pub next : ControlField
  pub before : List ControlField
  pub after : List ControlField
  pub front : List ℕ
  pub rest : List ℕ
  pub order : fields ≡ before ++ next ∷ after
  pub split : bytes ≡ front ++ rest
  pub allowed : AreControlFields before front
  pub fault : FieldFault (at + length front) next rest f

-- fields, read: all are allowed, or the first fault is met
abbrev pub FieldsRead : ℕ → List ControlField → List ℕ → Result (List ℕ) ControlFault → Type 0
FieldsRead at fields bytes (Ok rest) = (front : List ℕ) × (bytes ≡ front ++ rest) × AreControlFields fields front
FieldsRead at fields bytes (Err f) = FieldsFault at fields bytes f

plus_zero : (n : ℕ) → n + 0 ≡ n
plus_zero n = omega arith

offset_moved : (at w : ℕ) (first front : List ℕ) → length first ≡ w → at + length (first ++ front) ≡ at + w + length front
offset_moved at w first front len = let e = length-append first front in omega (arith, e, len)

-- a fault behind the first field, by its offset
moved : (at w : ℕ) (first front : List ℕ) (next : ControlField) (rest : List ℕ) (f : ControlFault) → length first ≡ w → FieldFault (at + w + length front) next rest f → FieldFault (at + length (first ++ front)) next rest f
moved at w first front next rest f len k = rw (offset_moved at w first front len) k

-- a fault of the fields behind one is one behind that
after_field : (at : ℕ) (field : ControlField) (fields : List ControlField) (bytes rest : List ℕ) (r : Result (List ℕ) ControlFault)
    → (first : List ℕ) × (bytes ≡ first ++ rest) × IsControlField field first × (length first ≡ control_width field)
    → FieldsRead (at + control_width field) fields rest r → FieldsRead at (field ∷ fields) bytes r
after_field at field fields bytes rest (Ok more) h k =
    let first = h.0 in
    let front = k.0 in
    (first ++ front, h.1 ∙ ap (λ b. first ++ b) k.1 ∙ sym (append_assoc first front more), (first, front, refl, h.2, k.2))
after_field at field fields bytes rest (Err f) h k =
    let first = h.0 in
    record {
      next = k.next;
      before = field ∷ k.before;
      after = k.after;
      front = first ++ k.front;
      rest = k.rest;
      order = ap (λ b. field ∷ b) k.order;
      split = h.1 ∙ ap (λ b. first ++ b) k.split ∙ sym (append_assoc first k.front k.rest);
      allowed = (first, k.front, refl, h.2, k.allowed);
      fault = moved at (control_width field) first k.front k.next k.rest f h.3 k.fault;
    }

first_field : (at : ℕ) (field : ControlField) (fields : List ControlField) (bytes : List ℕ) (r : Result (ℕ × List ℕ) ControlFault) → FieldRead at field bytes r
    → ((rest : List ℕ) → FieldsRead (at + control_width field) fields rest (read_fields (at + control_width field) fields rest))
    → FieldsRead at (field ∷ fields) bytes (r >>= (λ x. read_fields (at + control_width field) fields x.1))
first_field at field fields bytes (Ok x) h more = after_field at field fields bytes x.1 (read_fields (at + control_width field) fields x.1) h (more x.1)
first_field at field fields bytes (Err f) h more = record {
  next = field;
  before = [];
  after = fields;
  front = [];
  rest = bytes;
  order = refl;
  split = refl;
  allowed = refl;
  fault = rw (plus_zero at) h;
}

pub fields_read : (at : ℕ) (fields : List ControlField) (bytes : List ℕ) → FieldsRead at fields bytes (read_fields at fields bytes)
fields_read at [] bytes = ([], refl, refl)
fields_read at (field ∷ fields) bytes =
    first_field at field fields bytes (read_field at field bytes) (field_read at field bytes) (fields_read (at + control_width field) fields)

-- ---- the way back

no_sum : (a b : ℕ) → (a ∷ b ∷ [] ≢ 0 ∷ 0 ∷ []) → a + 256 * b ≡ 0 → ⊥
no_sum a b ne z =
    let za : a ≡ 0 = omega (arith, z) in
    let zb : b ≡ 0 = omega (arith, z) in
    ne (rw (za, zb) refl)

-- a field that is allowed is read
abbrev Back : ℕ → ControlField → List ℕ → List ℕ → Type 0
Back at field first rest = (n : ℕ) × (read_field at field (first ++ rest) ≡ Ok (n, rest)) × (length first ≡ control_width field)

field_back : (at : ℕ) (field : ControlField) (first rest : List ℕ) → IsControlField field first → Back at field first rest
unfolding read_zero read_address
field_back at OneByte [] rest h = absurd (omega (arith, h))
field_back at OneByte (a ∷ []) rest h = (a, refl, refl)
field_back at OneByte (a ∷ b ∷ first) rest h = absurd (omega (arith, h))
field_back at TwoBytes [] rest h = absurd (omega (arith, h))
field_back at TwoBytes (a ∷ []) rest h = absurd (omega (arith, h))
field_back at TwoBytes (a ∷ b ∷ []) rest h = (a + 256 * b, refl, refl)
field_back at TwoBytes (a ∷ b ∷ c ∷ first) rest h = absurd (omega (arith, h))
field_back at ZeroAddress first rest h = rw h (0, refl, refl)
field_back at LinkAddress [] rest h = let e = h.0 in absurd (omega (arith, e))
field_back at LinkAddress (a ∷ []) rest h = let e = h.0 in absurd (omega (arith, e))
field_back at LinkAddress (a ∷ b ∷ []) rest h = (a + 256 * b, rw (ne_eqb (a + 256 * b) 0 (no_sum a b h.1)) refl, refl)
field_back at LinkAddress (a ∷ b ∷ c ∷ first) rest h = let e = h.0 in absurd (omega (arith, e))

-- an address that can't be is met
bad_back : (at : ℕ) (next : ControlField) (field more : List ℕ) → length field ≡ control_width next → (IsControlField next field → ⊥) → read_field at next (field ++ more) ≡ Err (BadAddress at)
unfolding read_zero read_address
bad_back at OneByte field more len no_value = absurd (no_value len)
bad_back at TwoBytes field more len no_value = absurd (no_value len)
bad_back at ZeroAddress [] more len no_value = absurd (omega (arith, len))
bad_back at ZeroAddress (a ∷ []) more len no_value = absurd (omega (arith, len))
bad_back at ZeroAddress (a ∷ b ∷ []) more len no_value = rw (ne_eqb (a + 256 * b) 0 (no_sum a b no_value)) refl
bad_back at ZeroAddress (a ∷ b ∷ c ∷ field) more len no_value = absurd (omega (arith, len))
bad_back at LinkAddress [] more len no_value = absurd (omega (arith, len))
bad_back at LinkAddress (a ∷ []) more len no_value = absurd (omega (arith, len))
bad_back at LinkAddress (a ∷ b ∷ []) more len no_value =
    elim (cases_eq (a + 256 * b) 0) [
      | inl z ↦ rw (eq-eqb (a + 256 * b) 0 z) refl
      | inr n ↦ absurd (no_value (refl, λ e. n (let x : a ≡ 0 = cc in let y : b ≡ 0 = cc in omega (arith, x, y))))
    ]
bad_back at LinkAddress (a ∷ b ∷ c ∷ field) more len no_value = absurd (omega (arith, len))

-- a field that isn't whole is met
cut_back : (at : ℕ) (next : ControlField) (rest : List ℕ) → length rest < control_width next → read_field at next rest ≡ Err (Truncated at)
unfolding read_zero read_address
cut_back at OneByte [] lt = refl
cut_back at OneByte (a ∷ rest) lt = absurd (omega (arith, lt))
cut_back at TwoBytes [] lt = refl
cut_back at TwoBytes (a ∷ []) lt = refl
cut_back at TwoBytes (a ∷ b ∷ rest) lt = absurd (omega (arith, lt))
cut_back at ZeroAddress [] lt = refl
cut_back at ZeroAddress (a ∷ []) lt = refl
cut_back at ZeroAddress (a ∷ b ∷ rest) lt = absurd (omega (arith, lt))
cut_back at LinkAddress [] lt = refl
cut_back at LinkAddress (a ∷ []) lt = refl
cut_back at LinkAddress (a ∷ b ∷ rest) lt = absurd (omega (arith, lt))

fault_back : (at : ℕ) (next : ControlField) (rest : List ℕ) (f : ControlFault) → FieldFault at next rest f → read_field at next rest ≡ Err f
fault_back at next rest (Truncated k) h = let same = h.0 in rw same (cut_back at next rest h.1)
fault_back at next rest (BadAddress k) h =
    let same = h.0 in
    let split = h.3 in
    rw (same, split) (bad_back at next h.1 h.2 h.4 h.5)
fault_back at next rest (Trailing k) h = absurd h
fault_back at next rest (NotHere k) h = absurd h
fault_back at next rest NoMemory h = absurd h

-- behind a field that is allowed reading goes on
goes_on : (at : ℕ) (field : ControlField) (fields : List ControlField) (front first others rest : List ℕ) (r : Result (List ℕ) ControlFault) → front ≡ first ++ others → IsControlField field first
    → read_fields (at + control_width field) fields (others ++ rest) ≡ r → read_fields at (field ∷ fields) (front ++ rest) ≡ r
goes_on at field fields front first others rest r split allowed e =
    let b = field_back at field first (others ++ rest) allowed in
    let same = b.1 in
    rw (split, append_assoc first others rest, same) e

faulty_back : (at : ℕ) (before : List ControlField) (next : ControlField) (after : List ControlField) (front rest : List ℕ) (f : ControlFault) → AreControlFields before front
    → FieldFault (at + length front) next rest f → read_fields at (before ++ next ∷ after) (front ++ rest) ≡ Err f
faulty_back at [] next after front rest f none h =
    let here : FieldFault (at + 0) next rest f = rw none at h in
    let met = fault_back at next rest f (rw (plus_zero at) at here) in
    rw (none, met) refl
faulty_back at (field ∷ before) next after front rest f allowed h =
    let first = allowed.0 in
    let others = allowed.1 in
    let split = allowed.2 in
    let len = (field_back at field first others allowed.3).2 in
    let moved_on : FieldFault (at + length (first ++ others)) next rest f = rw split at h in
    let k : FieldFault (at + control_width field + length others) next rest f = rw (offset_moved at (control_width field) first others len) at moved_on in
    goes_on at field (before ++ next ∷ after) front first others rest (Err f) split allowed.3
    (faulty_back (at + control_width field) before next after others rest f allowed.4 k)

pub fields_faulty : (at : ℕ) (fields : List ControlField) (bytes : List ℕ) (f : ControlFault) → FieldsFault at fields bytes f → read_fields at fields bytes ≡ Err f
fields_faulty at fields bytes f h =
    let a = h.order in
    let b = h.split in
    rw (a, b) (faulty_back at h.before h.next h.after h.front h.rest f h.allowed h.fault)

pub fields_back : (at : ℕ) (fields : List ControlField) (front rest : List ℕ) → AreControlFields fields front → read_fields at fields (front ++ rest) ≡ Ok rest
fields_back at [] front rest none = rw none refl
fields_back at (field ∷ fields) front rest allowed =
    goes_on at field fields front allowed.0 allowed.1 rest (Ok rest) allowed.2 allowed.3 (fields_back (at + control_width field) fields allowed.1 rest allowed.4)

-- how many bytes fields have
abbrev pub widths : List ControlField → ℕ
widths [] = 0
widths (field ∷ fields) = control_width field + widths fields

pub all_wide : (fields : List ControlField) (front : List ℕ) → AreControlFields fields front → length front ≡ widths fields
all_wide [] front none = rw none refl
all_wide (field ∷ fields) front allowed =
    let first = allowed.0 in
    let others = allowed.1 in
    let split = allowed.2 in
    let len = (field_back 0 field first others allowed.3).2 in
    let more = all_wide fields others allowed.4 in
    let joined = length-append first others in
    rw split (omega (arith, joined, len, more))
