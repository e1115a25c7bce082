-- The fault that reading meets is the fault of the bytes, and the other way round.
use Rattle.std.proofs.Common.{◌≡◌, ◌≢◌, ◌⊎◌, ℕ, ◌+◌, ◌<◌, Bool, true, false, List, [], ◌∷◌, ◌++◌, length, Option, Some, None, Result, Ok, Err, refl, sym, ◌∙◌, ap, arith, inl, inr, get_or}
use Rattle.std.specs.Prelude.{if◌then◌else◌, IfErr}
use Rattle.std.proofs.lemmas.Bool.{cases_eq, ne_eqb}
use Rattle.nsp_control.specs.declared.packet.Control.{Control}
use Rattle.nsp_control.specs.declared.packet.ControlFault.{ControlFault}
use Rattle.nsp_control.specs.declared.packet.ControlFault.TheVariants.{Truncated, Trailing, NotHere, BadAddress, NoMemory}
use Rattle.nsp_control.specs.Packets.{SpellsControl}
use Rattle.nsp_control.specs.Faults.{ControlField, OneByte, TwoBytes, connect_fields, confirm_fields, disconnect_fields, fields_of, has_body, ReachesField, EndsAt, HasControlFault}
use Rattle.nsp_control.specs.Reading.{◌>>=◌, read_control_byte, read_control_word, read_zero, read_address, read_sizes, read_connect, read_confirm, read_reason, read_disconnect, read_disconnect_confirm, read_connect_ack, read_control}
use Rattle.nsp_control.proofs.Fields.{IsBytes}
use Rattle.nsp_control.proofs.Found.{read_found}
use Rattle.nsp_control.proofs.Spelled.{read-spelled}
use Rattle.nsp_control.proofs.Layouts.{read_fields, FieldFault, FieldsFault, FieldsRead, fields_read, fields_faulty, fields_back, widths, all_wide}

-- ---- outcomes

-- the fault, where there is one
abbrev fault_of : {A : Type 0} → Result A ControlFault → Option ControlFault
fault_of (Ok x) = None
fault_of (Err f) = Some f

fault_is : {A : Type 0} (r : Result A ControlFault) (f : ControlFault) → fault_of r ≡ Some f → r ≡ Err f
fault_is (Ok x) f e = absurd cc
fault_is (Err g) f e = let same : g ≡ f = cc in ap (λ k. Err k) same

-- what follows a part that is read by both
both_faults : {A B C : Type 0} (r : Result A ControlFault) (g : A → Result B ControlFault) (h : A → Result C ControlFault)
    → ((x : A) → fault_of (g x) ≡ fault_of (h x)) → fault_of (r >>= g) ≡ fault_of (r >>= h)
both_faults (Ok x) g h same = same x
both_faults (Err f) g h same = refl

end_faults : {A B C : Type 0} (r : Result A ControlFault) (g : A → B) (s : Result C ControlFault) → fault_of r ≡ fault_of s → fault_of (r >>= (λ x. Ok (g x))) ≡ fault_of s
end_faults (Ok x) g s e = e
end_faults (Err f) g s e = e

-- ---- reading by the layout

abbrev ends : ℕ → List ℕ → Result (List ℕ) ControlFault
ends at [] = Ok []
ends at (x ∷ rest) = Err (Trailing at)

abbrev read_rest : Bool → List ControlField → List ℕ → Result (List ℕ) ControlFault
read_rest body fields rest = if body then Ok rest else ends (1 + widths fields) rest

-- what follows the fields
abbrev read_layout : ℕ → Option (List ControlField) → Bool → List ℕ → Result (List ℕ) ControlFault
read_layout flag None body bytes = Err (NotHere flag)
read_layout flag (Some fields) body bytes = read_fields 1 fields bytes >>= read_rest body fields

abbrev sizes_fields : List ControlField
sizes_fields = OneByte ∷ OneByte ∷ TwoBytes ∷ []

sizes_fault : (bytes : List ℕ) → fault_of (read_sizes bytes) ≡ fault_of (read_fields 5 sizes_fields bytes)
unfolding read_sizes
sizes_fault bytes =
    both_faults (read_control_byte 5 bytes) _ _ (λ a. both_faults (read_control_byte 6 a.1) _ _ (λ b. both_faults (read_control_word 7 b.1) _ _ (λ c. refl)))

body_fault : (fields : List ControlField) (r : Result (List ℕ) ControlFault) → fault_of (r >>= read_rest true fields) ≡ fault_of r
body_fault fields (Ok x) = refl
body_fault fields (Err f) = refl

connect_fault : (again : Bool) (bytes : List ℕ) → fault_of (read_connect again bytes) ≡ fault_of (read_fields 1 connect_fields bytes)
unfolding read_connect
connect_fault again bytes =
    both_faults (read_zero 1 bytes) _ _ (λ z. both_faults (read_address 3 z.1) _ _ (λ s. end_faults (read_sizes s.1) _ (read_fields 5 sizes_fields s.1) (sizes_fault s.1)))

confirm_fault : (bytes : List ℕ) → fault_of (read_confirm bytes) ≡ fault_of (read_fields 1 confirm_fields bytes)
unfolding read_confirm
confirm_fault bytes =
    both_faults (read_address 1 bytes) _ _ (λ z. both_faults (read_address 3 z.1) _ _ (λ s. end_faults (read_sizes s.1) _ (read_fields 5 sizes_fields s.1) (sizes_fault s.1)))

disconnect_fault : (bytes : List ℕ) → fault_of (read_disconnect bytes) ≡ fault_of (read_fields 1 disconnect_fields bytes)
unfolding read_disconnect read_reason
disconnect_fault [] = refl
disconnect_fault (a ∷ []) = refl
disconnect_fault (a ∷ b ∷ []) = refl
disconnect_fault (a ∷ b ∷ c ∷ []) = refl
disconnect_fault (a ∷ b ∷ c ∷ d ∷ []) = refl
disconnect_fault (a ∷ b ∷ c ∷ d ∷ e ∷ []) = refl
disconnect_fault (a ∷ b ∷ c ∷ d ∷ e ∷ f ∷ rest) = refl

disconnect_confirm_fault : (bytes : List ℕ) → fault_of (read_disconnect_confirm bytes) ≡ fault_of (read_fields 1 disconnect_fields bytes >>= read_rest false disconnect_fields)
unfolding read_disconnect_confirm read_reason
disconnect_confirm_fault [] = refl
disconnect_confirm_fault (a ∷ []) = refl
disconnect_confirm_fault (a ∷ b ∷ []) = refl
disconnect_confirm_fault (a ∷ b ∷ c ∷ []) = refl
disconnect_confirm_fault (a ∷ b ∷ c ∷ d ∷ []) = refl
disconnect_confirm_fault (a ∷ b ∷ c ∷ d ∷ e ∷ []) = refl
disconnect_confirm_fault (a ∷ b ∷ c ∷ d ∷ e ∷ f ∷ []) = refl
disconnect_confirm_fault (a ∷ b ∷ c ∷ d ∷ e ∷ f ∷ g ∷ rest) = refl

connect_ack_fault : (bytes : List ℕ) → fault_of (read_connect_ack bytes) ≡ fault_of (read_fields 1 (TwoBytes ∷ []) bytes >>= read_rest false (TwoBytes ∷ []))
unfolding read_connect_ack
connect_ack_fault [] = refl
connect_ack_fault (a ∷ []) = refl
connect_ack_fault (a ∷ b ∷ []) = refl
connect_ack_fault (a ∷ b ∷ c ∷ rest) = refl

abbrev by_layout : ℕ → List ℕ → Result (List ℕ) ControlFault
by_layout flag bytes = read_layout flag (fields_of flag) (has_body flag) bytes

-- the first byte, told apart from each that is used
abbrev IsOther : ℕ → Type 0
IsOther flag = (flag ≡ 0x18 → ⊥) × (flag ≡ 0x68 → ⊥) × (flag ≡ 0x28 → ⊥) × (flag ≡ 0x38 → ⊥) × (flag ≡ 0x48 → ⊥) × (flag ≡ 0x24 → ⊥)

other_fault : (flag : ℕ) (bytes : List ℕ) → IsOther flag → fault_of (read_control (flag ∷ bytes)) ≡ fault_of (by_layout flag bytes)
unfolding read_control fields_of has_body
other_fault flag bytes o =
    rw (ne_eqb flag 0x18 o.0, ne_eqb flag 0x68 o.1, ne_eqb flag 0x28 o.2, ne_eqb flag 0x38 o.3, ne_eqb flag 0x48 o.4, ne_eqb flag 0x24 o.5) refl

first_fault : (bytes : List ℕ) → fault_of (read_control (0x18 ∷ bytes)) ≡ fault_of (by_layout 0x18 bytes)
unfolding read_control fields_of has_body
first_fault bytes = connect_fault false bytes ∙ sym (body_fault connect_fields (read_fields 1 connect_fields bytes))

again_fault : (bytes : List ℕ) → fault_of (read_control (0x68 ∷ bytes)) ≡ fault_of (by_layout 0x68 bytes)
unfolding read_control fields_of has_body
again_fault bytes = connect_fault true bytes ∙ sym (body_fault connect_fields (read_fields 1 connect_fields bytes))

accepted_fault : (bytes : List ℕ) → fault_of (read_control (0x28 ∷ bytes)) ≡ fault_of (by_layout 0x28 bytes)
unfolding read_control fields_of has_body
accepted_fault bytes = confirm_fault bytes ∙ sym (body_fault confirm_fields (read_fields 1 confirm_fields bytes))

closing_fault : (bytes : List ℕ) → fault_of (read_control (0x38 ∷ bytes)) ≡ fault_of (by_layout 0x38 bytes)
unfolding read_control fields_of has_body
closing_fault bytes = disconnect_fault bytes ∙ sym (body_fault disconnect_fields (read_fields 1 disconnect_fields bytes))

closed_fault : (bytes : List ℕ) → fault_of (read_control (0x48 ∷ bytes)) ≡ fault_of (by_layout 0x48 bytes)
unfolding read_control fields_of has_body
closed_fault bytes = disconnect_confirm_fault bytes

ack_fault : (bytes : List ℕ) → fault_of (read_control (0x24 ∷ bytes)) ≡ fault_of (by_layout 0x24 bytes)
unfolding read_control fields_of has_body
ack_fault bytes = connect_ack_fault bytes

abbrev Agree : ℕ → List ℕ → Type 0
Agree flag bytes = fault_of (read_control (flag ∷ bytes)) ≡ fault_of (by_layout flag bytes)

-- both ways of reading meet the same fault
layout_fault : (flag : ℕ) (bytes : List ℕ) → Agree flag bytes
layout_fault flag bytes =
    elim (cases_eq flag 0x18) [
      | inl a ↦ rw a (first_fault bytes)
      | inr a ↦ elim (cases_eq flag 0x68) [
        | inl b ↦ rw b (again_fault bytes)
        | inr b ↦ elim (cases_eq flag 0x28) [
          | inl c ↦ rw c (accepted_fault bytes)
          | inr c ↦ elim (cases_eq flag 0x38) [
            | inl d ↦ rw d (closing_fault bytes)
            | inr d ↦ elim (cases_eq flag 0x48) [
              | inl g ↦ rw g (closed_fault bytes)
              | inr g ↦ elim (cases_eq flag 0x24) [
                | inl h ↦ rw h (ack_fault bytes)
                | inr h ↦ other_fault flag bytes (a, b, c, d, g, h)
              ]
            ]
          ]
        ]
      ]
    ]

-- ---- the fault of the bytes

abbrev err : ControlFault → Result (List ℕ) ControlFault
err f = Err f

err_same : (f g : ControlFault) → err f ≡ err g → f ≡ g
err_same f g e = cc

field_fault : (flag : ℕ) (fields : List ControlField) (bytes : List ℕ) (f : ControlFault) → fields_of flag ≡ Some fields → FieldsFault 1 fields bytes f → HasControlFault f (flag ∷ bytes)
field_fault flag fields bytes (Truncated k) e h =
    inr (
      h.next,
      h.rest,
      record {
        flag = flag;
        before = h.before;
        after = h.after;
        front = h.front;
        fields = e ∙ ap (λ l. Some l) h.order;
        split = ap (λ b. flag ∷ b) h.split;
        allowed = h.allowed;
        offset = h.fault.0;
      },
      h.fault.1,
    )
field_fault flag fields bytes (BadAddress k) e h = (
  h.next,
  h.fault.1,
  h.fault.2,
  record {
    flag = flag;
    before = h.before;
    after = h.after;
    front = h.front;
    fields = e ∙ ap (λ l. Some l) h.order;
    split = ap (λ b. flag ∷ b) (h.split ∙ ap (λ r. h.front ++ r) h.fault.3);
    allowed = h.allowed;
    offset = h.fault.0;
  },
  h.fault.4,
  h.fault.5,
)
field_fault flag fields bytes (Trailing k) e h = absurd h.fault
field_fault flag fields bytes (NotHere k) e h = absurd h.fault
field_fault flag fields bytes NoMemory e h = absurd h.fault

rest_fault : (flag : ℕ) (fields : List ControlField) (body : Bool) (bytes : List ℕ) (f : ControlFault) (r : Result (List ℕ) ControlFault) → fields_of flag ≡ Some fields → has_body flag ≡ body
    → FieldsRead 1 fields bytes r → (r >>= read_rest body fields) ≡ err f → HasControlFault f (flag ∷ bytes)
rest_fault flag fields body bytes f (Err g) e b h same = let k = err_same g f same in rw (← k) (field_fault flag fields bytes g e h)
rest_fault flag fields true bytes f (Ok rest) e b h same = absurd cc
rest_fault flag fields false bytes f (Ok []) e b h same = absurd cc
rest_fault flag fields false bytes f (Ok (x ∷ rest)) e b h same =
    let k = err_same (Trailing (1 + widths fields)) f same in
    let long = all_wide fields h.0 h.2 in
    rw (← k) (
      x ∷ rest,
      record {
        flag = flag;
        fields = fields;
        front = h.0;
        all = e;
        no_body = b;
        split = ap (λ k. flag ∷ k) h.1;
        allowed = h.2;
        offset = omega (arith, long);
      },
      λ n. cc,
    )

some_layout : (flag : ℕ) (o : Option (List ControlField)) (body : Bool) (bytes : List ℕ) (f : ControlFault) → fields_of flag ≡ o → has_body flag ≡ body
    → read_layout flag o body bytes ≡ err f → HasControlFault f (flag ∷ bytes)
some_layout flag None body bytes f e b same = let k = err_same (NotHere flag) f same in rw (← k) (bytes, refl, e)
some_layout flag (Some fields) body bytes f e b same = rest_fault flag fields body bytes f (read_fields 1 fields bytes) e b (fields_read 1 fields bytes) same

pub read_fault : (bytes : List ℕ) (f : ControlFault) → read_control bytes ≡ Err f → HasControlFault f bytes
unfolding read_control
read_fault [] f e = let same : Truncated 0 ≡ f = cc in rw (← same) (inl (refl, refl))
read_fault (flag ∷ bytes) f e =
    let met : fault_of (by_layout flag bytes) ≡ Some f = sym (layout_fault flag bytes) ∙ ap fault_of e in
    some_layout flag (fields_of flag) (has_body flag) bytes f refl refl (fault_is (by_layout flag bytes) f met)

-- ---- the fault of the bytes is met

by_field : (bytes rest : List ℕ) (at : ℕ) (next : ControlField) (f : ControlFault) → ReachesField bytes at next rest → FieldFault at next rest f → read_control bytes ≡ Err f
by_field bytes rest at next f r h =
    let same = r.split in
    let offset = r.offset in
    let here : FieldFault (1 + length r.front) next rest f = rw offset at h in
    let met : read_fields 1 (r.before ++ next ∷ r.after) (r.front ++ rest) ≡ Err f =
    fields_faulty 1 (r.before ++ next ∷ r.after) (r.front ++ rest) f (record {
      next = next;
      before = r.before;
      after = r.after;
      front = r.front;
      rest = rest;
      order = refl;
      split = refl;
      allowed = r.allowed;
      fault = here;
    }) in
    let fields = r.fields in
    let faulty : fault_of (by_layout r.flag (r.front ++ rest)) ≡ Some f = rw (fields, met) refl in
    rw same (fault_is (read_control (r.flag ∷ (r.front ++ rest))) f (layout_fault r.flag (r.front ++ rest) ∙ faulty))

some_rest : (at : ℕ) (rest : List ℕ) → (rest ≢ []) → ends at rest ≡ Err (Trailing at)
some_rest at [] ne = absurd (ne refl)
some_rest at (x ∷ rest) ne = refl

by_end : (bytes rest : List ℕ) (at : ℕ) → EndsAt bytes at rest → (rest ≢ []) → read_control bytes ≡ Err (Trailing at)
by_end bytes rest at r ne =
    let same = r.split in
    let fields = r.all in
    let no_body = r.no_body in
    let long = all_wide r.fields r.front r.allowed in
    let off = r.offset in
    let offset : at ≡ 1 + widths r.fields = omega (arith, long, off) in
    let met = fields_back 1 r.fields r.front rest r.allowed in
    let faulty : fault_of (by_layout r.flag (r.front ++ rest)) ≡ Some (Trailing at) = rw (fields, no_body, met, some_rest (1 + widths r.fields) rest ne, offset) refl in
    rw same (fault_is (read_control (r.flag ∷ (r.front ++ rest))) (Trailing at) (layout_fault r.flag (r.front ++ rest) ∙ faulty))

by_flag : (flag : ℕ) (rest : List ℕ) → fields_of flag ≡ None → read_control (flag ∷ rest) ≡ Err (NotHere flag)
by_flag flag rest e =
    let faulty : fault_of (by_layout flag rest) ≡ Some (NotHere flag) = rw e refl in
    fault_is (read_control (flag ∷ rest)) (NotHere flag) (layout_fault flag rest ∙ faulty)

pub read-fault : (f : ControlFault) (bytes : List ℕ) → HasControlFault f bytes → read_control bytes ≡ Err f
unfolding read_control
read-fault (Truncated at) bytes (inl h) = let none = h.0 in let start = h.1 in rw (none, start) refl
read-fault (Truncated at) bytes (inr h) = by_field bytes h.1 at h.0 (Truncated at) h.2 (refl, h.3)
read-fault (BadAddress at) bytes h = by_field bytes (h.1 ++ h.2) at h.0 (BadAddress at) h.3 (refl, h.1, h.2, refl, h.4, h.5)
read-fault (Trailing at) bytes h = by_end bytes h.0 at h.1 h.2
read-fault (NotHere flag) bytes h = let same = h.1 in rw same (by_flag flag h.0 h.2)
read-fault NoMemory bytes h = absurd h

-- ---- for the contracts

pub given-fault : (r : Result Control ControlFault) (bytes : List ℕ) → r ≡ read_control bytes → IfErr r (λ f. HasControlFault f bytes)
given-fault (Ok p) bytes g = tt
given-fault (Err f) bytes g = read_fault bytes f (sym g)

pub given-faulty : (r : Result Control ControlFault) (f : ControlFault) (bytes : List ℕ) → r ≡ read_control bytes → HasControlFault f bytes → r ≡ Err f
given-faulty r f bytes g h = g ∙ read-fault f bytes h

either : (bytes : List ℕ) (r : Result Control ControlFault) → IsBytes bytes → read_control bytes ≡ r → ((p : Control) × SpellsControl p bytes) ⊎ ((f : ControlFault) × HasControlFault f bytes)
either bytes (Ok p) fits e = inl (p, read_found bytes p fits e)
either bytes (Err f) fits e = inr (f, read_fault bytes f e)

pub spells_or_fault : (bytes : List ℕ) → ((i : ℕ) → get_or bytes i 0 < 256) → ((p : Control) × SpellsControl p bytes) ⊎ ((f : ControlFault) × HasControlFault f bytes)
spells_or_fault bytes fits = either bytes (read_control bytes) fits refl

pub fault-one : (f g : ControlFault) (bytes : List ℕ) → HasControlFault f bytes → HasControlFault g bytes → f ≡ g
fault-one f g bytes a b =
    let x = read-fault f bytes a in
    let y = read-fault g bytes b in
    (cc)

pub spells-apart : (p : Control) (f : ControlFault) (bytes : List ℕ) → SpellsControl p bytes → HasControlFault f bytes → ⊥
spells-apart p f bytes a b =
    let x = read-spelled p bytes a in
    let y = read-fault f bytes b in
    absurd cc
