-- The fault that reading meets is the fault of the bytes, and the other way round.
use Rattle.std.proofs.Common.{◌≡◌, ◌⊎◌, ℕ, ◌/◌, ◌%◌, ◌<◌, ◌≤◌, Bool, true, false, List, [], ◌∷◌, ◌++◌, length, append_assoc, take, drop, get_or, Result, Ok, Err, refl, sym, ◌∙◌, ap, arith, inl, inr}
use Rattle.std.specs.Prelude.{IfErr, nat_lt, if◌then◌else◌, ◌==◌}
use Rattle.std.proofs.lemmas.Bool.{cases_eq, cases_lt, eq-eqb, ne_eqb, lt-ltb, le-ltb}
use Rattle.nsp_session.specs.declared.session.EndName.{EndName}
use Rattle.nsp_session.specs.declared.session.EndName.TheVariants.{Number}
use Rattle.nsp_session.specs.declared.session.Session.{Session}
use Rattle.nsp_session.specs.declared.session.SessionFault.{SessionFault}
use Rattle.nsp_session.specs.declared.session.SessionFault.TheVariants.{Truncated, BadForm, TooLong}
use Rattle.nsp_session.specs.Sessions.{max_name, max_grouped, max_access, max_data, SpellsSession}
use Rattle.nsp_session.specs.Faults.{SessionField, AnyByte, AnyWord, Format, Menu, Count, Content, session_width, IsSessionField, fields_of_format, fields_of_access, fields_of_data, brought_by, Leaves, no_field_read, one_field_read, session_fields, IsFaultOf, HasSessionFault}
use Rattle.nsp_session.specs.Reading.{◌>>=◌, read_session_byte, read_session_word, read_image, read_named, read_grouped, read_name, read_access, read_access_if, read_data_if, read_session}
use Rattle.nsp_session.proofs.Fields.{IsBytes, cut}
use Rattle.nsp_session.proofs.Found.{session_found}
use Rattle.nsp_session.proofs.Spelled.{read-spelled}

-- ---- fields in a row

nothing_behind : (bytes : List ℕ) → bytes ++ [] ≡ bytes
nothing_behind [] = refl
nothing_behind (x ∷ bytes) = ap (λ b. x ∷ b) (nothing_behind bytes)

one_field : (field : SessionField) (after : List SessionField) (first : List ℕ) → IsSessionField field first → Leaves (field ∷ after) first (brought_by field first ++ after)
one_field field after first allowed =
    let whole : Leaves (field ∷ after) (first ++ []) (brought_by field first ++ after) = one_field_read first allowed no_field_read in
    rw (nothing_behind first) at whole

in_a_row : (fields mid left : List SessionField) (a b : List ℕ) → Leaves fields a mid → Leaves mid b left → Leaves fields (a ++ b) left
in_a_row fields mid left a b no_field_read k = k
in_a_row fields mid left a b (one_field_read {rest = rest} first allowed h) k =
    rw (append_assoc first rest b) (one_field_read first allowed (in_a_row _ mid left rest b h k))

-- the first fault of bytes where these fields are to come
record FaultIn (fields : List SessionField) (bytes : List ℕ) (f : SessionFault) : Type 0 where
  front : List ℕ
  rest : List ℕ
  next : SessionField
  after : List SessionField
  split : bytes ≡ front ++ rest
  reached : Leaves fields front (next ∷ after)
  fault_is : IsFaultOf f next rest

here : (next : SessionField) (after : List SessionField) (bytes : List ℕ) (f : SessionFault) → IsFaultOf f next bytes → FaultIn (next ∷ after) bytes f
here next after bytes f h = record { front = []; rest = bytes; next = next; after = after; split = refl; reached = no_field_read; fault_is = h }

behind : (fields mid : List SessionField) (a bytes more : List ℕ) (f : SessionFault) → Leaves fields a mid → bytes ≡ a ++ more → FaultIn mid more f → FaultIn fields bytes f
behind fields mid a bytes more f h same k = record {
  front = a ++ k.front;
  rest = k.rest;
  next = k.next;
  after = k.after;
  split = same ∙ ap (λ b. a ++ b) k.split ∙ sym (append_assoc a k.front k.rest);
  reached = in_a_row fields mid (k.next ∷ k.after) a k.front h k.reached;
  fault_is = k.fault_is;
}

-- What reading gives of bytes where these fields are to come: some are read, and others left, or the first fault is met.
abbrev Passes : {A : Type 0} → (A → List ℕ) → List SessionField → List SessionField → List ℕ → Result A SessionFault → Type 0
Passes rest_of fields left bytes (Ok x) = (front : List ℕ) × (bytes ≡ front ++ rest_of x) × Leaves fields front left
Passes rest_of fields left bytes (Err f) = FaultIn fields bytes f

abbrev behind_it : {A : Type 0} → A × List ℕ → List ℕ
behind_it x = x.1

passes_behind : {A : Type 0} (rest_of : A → List ℕ) (fields mid left : List SessionField) (a bytes more : List ℕ) (r : Result A SessionFault)
    → Leaves fields a mid → bytes ≡ a ++ more → Passes rest_of mid left more r → Passes rest_of fields left bytes r
passes_behind rest_of fields mid left a bytes more (Ok x) h same k =
    (a ++ k.0, same ∙ ap (λ b. a ++ b) k.1 ∙ sym (append_assoc a k.0 (rest_of x)), in_a_row fields mid left a k.0 h k.2)
passes_behind rest_of fields mid left a bytes more (Err f) h same k = behind fields mid a bytes more f h same k

passes_on : {A B : Type 0} (rest_of : B → List ℕ) (fields mid left : List SessionField) (bytes : List ℕ) (r : Result (A × List ℕ) SessionFault) (g : A × List ℕ → Result B SessionFault)
    → Passes behind_it fields mid bytes r → ((x : A × List ℕ) → Passes rest_of mid left x.1 (g x)) → Passes rest_of fields left bytes (r >>= g)
passes_on rest_of fields mid left bytes (Ok x) g h more = passes_behind rest_of fields mid left h.0 bytes x.1 (g x) h.2 h.1 (more x)
passes_on rest_of fields mid left bytes (Err f) g h more = h

byte_passes : (left : List SessionField) (bytes : List ℕ) → Passes behind_it (AnyByte ∷ left) left bytes (read_session_byte bytes)
byte_passes left [] = here AnyByte left [] (Truncated 0) (omega arith, refl)
byte_passes left (a ∷ rest) = (a ∷ [], refl, one_field AnyByte left (a ∷ []) refl)

word_passes : (left : List SessionField) (bytes : List ℕ) → Passes behind_it (AnyWord ∷ left) left bytes (read_session_word bytes)
word_passes left [] = here AnyWord left [] (Truncated 0) (omega arith, refl)
word_passes left (a ∷ []) = here AnyWord left (a ∷ []) (Truncated 1) (omega arith, refl)
word_passes left (a ∷ b ∷ rest) = (a ∷ b ∷ [], refl, one_field AnyWord left (a ∷ b ∷ []) refl)

content_passes : (count : ℕ) (left : List SessionField) (rest : List ℕ)
    → Passes behind_it (Content count ∷ left) left rest (if nat_lt (length rest) count then Err (Truncated (length rest)) else Ok (take count rest, drop count rest))
content_passes count left rest =
    elim (cases_lt (length rest) count) [
      | inl lt ↦ rw (lt-ltb (length rest) count lt) (here (Content count) left rest (Truncated (length rest)) (lt, refl))
      | inr le ↦ let c = cut count rest le in
          rw (le-ltb (length rest) count le) (take count rest, sym c.1, one_field (Content count) left (take count rest) c.0)
    ]

image_passes : (most : ℕ) (left : List SessionField) (bytes : List ℕ) → Passes behind_it (Count most ∷ left) left bytes (read_image most bytes)
unfolding read_image
image_passes most left [] = here (Count most) left [] (Truncated 0) (omega arith, refl)
image_passes most left (count ∷ rest) =
    elim (cases_lt most count) [
      | inl lt ↦ rw (lt-ltb most count lt) (here (Count most) left (count ∷ rest) (TooLong (length (count ∷ rest))) (lt, omega arith))
      | inr le ↦ rw (le-ltb most count le) (passes_behind behind_it (Count most ∷ left) (Content count ∷ left) left (count ∷ []) (count ∷ rest) rest _
          (one_field (Count most) left (count ∷ []) (count, refl, le)) refl (content_passes count left rest))
    ]

-- ---- names

named_passes : (object : ℕ) (left : List SessionField) (bytes : List ℕ) → Passes behind_it (Count max_name ∷ left) left bytes (read_named object bytes)
unfolding read_named
named_passes object left bytes =
    passes_on behind_it (Count max_name ∷ left) left left bytes (read_image max_name bytes) _ (image_passes max_name left bytes) (λ x. ([], refl, no_field_read))

grouped_passes : (object : ℕ) (left : List SessionField) (bytes : List ℕ) → Passes behind_it (AnyWord ∷ AnyWord ∷ Count max_grouped ∷ left) left bytes (read_grouped object bytes)
unfolding read_grouped
grouped_passes object left bytes =
    let name : List SessionField = Count max_grouped ∷ left in
    passes_on behind_it (AnyWord ∷ AnyWord ∷ name) (AnyWord ∷ name) left bytes (read_session_word bytes) _ (word_passes (AnyWord ∷ name) bytes) (λ g.
    passes_on behind_it (AnyWord ∷ name) name left g.1 (read_session_word g.1) _ (word_passes name g.1) (λ u.
    passes_on behind_it name left left u.1 (read_image max_grouped u.1) _ (image_passes max_grouped left u.1) (λ x. ([], refl, no_field_read))))

form_passes : (form : ℕ) (left : List SessionField) (bytes : List ℕ)
    → Passes behind_it (fields_of_format form ++ left) left bytes
    (read_session_byte bytes >>= (λ object. if form == 0 then Ok (Number object.0, object.1) else (if form == 1 then read_named object.0 object.1 else read_grouped object.0 object.1)))
form_passes form left bytes =
    elim (cases_eq form 0) [
      | inl none ↦ rw (eq-eqb form 0 none)
          (passes_on behind_it (AnyByte ∷ left) left left bytes (read_session_byte bytes) _ (byte_passes left bytes) (λ o. ([], refl, no_field_read)))
      | inr more ↦ elim (cases_eq form 1) [
        | inl one ↦ rw (ne_eqb form 0 more, eq-eqb form 1 one)
            (passes_on behind_it (AnyByte ∷ Count max_name ∷ left) (Count max_name ∷ left) left bytes (read_session_byte bytes) _ (byte_passes (Count max_name ∷ left) bytes)
            (λ o. named_passes o.0 left o.1))
        | inr other ↦ rw (ne_eqb form 0 more, ne_eqb form 1 other)
            (passes_on behind_it (AnyByte ∷ AnyWord ∷ AnyWord ∷ Count max_grouped ∷ left) (AnyWord ∷ AnyWord ∷ Count max_grouped ∷ left) left bytes (read_session_byte bytes) _
            (byte_passes (AnyWord ∷ AnyWord ∷ Count max_grouped ∷ left) bytes) (λ o. grouped_passes o.0 left o.1))
      ]
    ]

name_passes : (left : List SessionField) (bytes : List ℕ) → Passes behind_it (Format ∷ left) left bytes (read_name bytes)
unfolding read_name
name_passes left [] = here Format left [] (Truncated 0) (omega arith, refl)
name_passes left (form ∷ rest) =
    elim (cases_lt 2 form) [
      | inl lt ↦ rw (lt-ltb 2 form lt) (here Format left (form ∷ rest) (BadForm (length (form ∷ rest))) (lt, omega arith))
      | inr le ↦ rw (le-ltb 2 form le) (passes_behind behind_it (Format ∷ left) (fields_of_format form ++ left) left (form ∷ []) (form ∷ rest) rest _
          (one_field Format left (form ∷ []) (form, refl, le)) refl (form_passes form left rest))
    ]

-- ---- what MENUVER brings

access_passes : (has : Bool) (left : List SessionField) (bytes : List ℕ)
    → Passes behind_it ((if has then Count max_access ∷ Count max_access ∷ Count max_access ∷ [] else []) ++ left) left bytes (read_access_if has bytes)
unfolding read_access_if read_access
access_passes false left bytes = ([], refl, no_field_read)
access_passes true left bytes =
    let one : List SessionField = Count max_access ∷ left in
    let two : List SessionField = Count max_access ∷ one in
    passes_on behind_it (Count max_access ∷ two) left left bytes (read_access bytes) _
    (passes_on behind_it (Count max_access ∷ two) two left bytes (read_image max_access bytes) _ (image_passes max_access two bytes) (λ u.
    passes_on behind_it two one left u.1 (read_image max_access u.1) _ (image_passes max_access one u.1) (λ p.
    passes_on behind_it one left left p.1 (read_image max_access p.1) _ (image_passes max_access left p.1) (λ a. ([], refl, no_field_read)))))
    (λ x. ([], refl, no_field_read))

data_passes : (has : Bool) (left : List SessionField) (bytes : List ℕ)
    → Passes behind_it ((if has then Count max_data ∷ [] else []) ++ left) left bytes (read_data_if has bytes)
unfolding read_data_if
data_passes false left bytes = ([], refl, no_field_read)
data_passes true left bytes =
    passes_on behind_it (Count max_data ∷ left) left left bytes (read_image max_data bytes) _ (image_passes max_data left bytes) (λ x. ([], refl, no_field_read))

abbrev rest_of_session : Session → List ℕ
rest_of_session s = s.rest

menu_passes : (menu : ℕ) (dst src : EndName) (bytes : List ℕ)
    → Passes rest_of_session ((fields_of_access menu ++ fields_of_data menu) ++ []) [] bytes (read_access_if (menu % 2 == 1) bytes >>= (λ access. read_data_if (menu / 2 % 2 == 1) access.1
    >>= (λ userdata. Ok (record { dst = dst; src = src; version = menu / 4; access = access.0; user_data = userdata.0; rest = userdata.1 }))))
menu_passes menu dst src bytes =
    rw (append_assoc (fields_of_access menu) (fields_of_data menu) [])
    (passes_on rest_of_session (fields_of_access menu ++ (fields_of_data menu ++ [])) (fields_of_data menu ++ []) [] bytes (read_access_if (menu % 2 == 1) bytes) _
    (access_passes (menu % 2 == 1) (fields_of_data menu ++ []) bytes) (λ access.
    passes_on rest_of_session (fields_of_data menu ++ []) [] [] access.1 (read_data_if (menu / 2 % 2 == 1) access.1) _
    (data_passes (menu / 2 % 2 == 1) [] access.1) (λ d. ([], refl, no_field_read))))

after_names : (dst src : EndName) (bytes : List ℕ)
    → Passes rest_of_session (Menu ∷ []) [] bytes (read_session_byte bytes >>= (λ menu. read_access_if (menu.0 % 2 == 1) menu.1 >>= (λ access. read_data_if (menu.0 / 2 % 2 == 1) access.1
    >>= (λ userdata. Ok (record { dst = dst; src = src; version = menu.0 / 4; access = access.0; user_data = userdata.0; rest = userdata.1 })))))
after_names dst src [] = here Menu [] [] (Truncated 0) (omega arith, refl)
after_names dst src (menu ∷ rest) =
    passes_behind rest_of_session (Menu ∷ []) ((fields_of_access menu ++ fields_of_data menu) ++ []) [] (menu ∷ []) (menu ∷ rest) rest _
    (one_field Menu [] (menu ∷ []) refl) refl (menu_passes menu dst src rest)

session_passes : (bytes : List ℕ) → Passes rest_of_session session_fields [] bytes (read_session bytes)
unfolding read_session
session_passes bytes =
    passes_on rest_of_session session_fields (Format ∷ Menu ∷ []) [] bytes (read_name bytes) _ (name_passes (Format ∷ Menu ∷ []) bytes) (λ dst.
    passes_on rest_of_session (Format ∷ Menu ∷ []) (Menu ∷ []) [] dst.1 (read_name dst.1) _ (name_passes (Menu ∷ []) dst.1) (λ src.
    after_names dst.0 src.0 src.1))

-- ---- bytes have one fault at most

same_fields : {A : Type 0} (x y : A) (xs ys : List A) → x ∷ xs ≡ y ∷ ys → (x ≡ y) × (xs ≡ ys)
same_fields x y xs ys e = (cc, cc)

same_front : (a b x y : List ℕ) → length a ≡ length b → a ++ x ≡ b ++ y → (a ≡ b) × (x ≡ y)
same_front [] [] x y len e = (refl, e)
same_front [] (k ∷ b) x y len e = absurd (omega (arith, len))
same_front (k ∷ a) [] x y len e = absurd (omega (arith, len))
same_front (k ∷ a) (j ∷ b) x y len e =
    let h = same_fields k j (a ++ x) (b ++ y) e in
    let short : length a ≡ length b = omega (arith, len) in
    let r = same_front a b x y short h.1 in
    let head = h.0 in
    let tail = r.0 in
    (rw (head, tail) refl, r.1)

wide : (field : SessionField) (first : List ℕ) → IsSessionField field first → length first ≡ session_width field
wide AnyByte first h = h
wide AnyWord first h = h
wide Format first h = let same = h.1 in rw same refl
wide Menu first h = h
wide (Count most) first h = let same = h.1 in rw same refl
wide (Content count) first h = h

long : (first rest : List ℕ) → length first ≤ length (first ++ rest)
long [] rest = omega arith
long (x ∷ first) rest = let r = long first rest in omega (arith, r)

too_short : (field : SessionField) (first rest : List ℕ) → IsSessionField field first → length (first ++ rest) < session_width field → ⊥
too_short field first rest h lt = let len = wide field first h in let le = long first rest in absurd (omega (arith, len, lt, le))

-- a field that is allowed has no fault
no_fault : (f : SessionFault) (field : SessionField) (first rest : List ℕ) → IsSessionField field first → IsFaultOf f field (first ++ rest) → ⊥
no_fault (Truncated n) field first rest h k = too_short field first rest h k.0
no_fault (BadForm n) AnyByte first rest h k = absurd k
no_fault (BadForm n) AnyWord first rest h k = absurd k
no_fault (BadForm n) Format first rest h k =
    let same = h.1 in
    let le = h.2 in
    let x : IsFaultOf (BadForm n) Format (h.0 ∷ rest) = rw same at k in
    let lt = x.0 in
    absurd (omega (arith, le, lt))
no_fault (BadForm n) Menu first rest h k = absurd k
no_fault (BadForm n) (Count most) first rest h k = absurd k
no_fault (BadForm n) (Content count) first rest h k = absurd k
no_fault (TooLong n) AnyByte first rest h k = absurd k
no_fault (TooLong n) AnyWord first rest h k = absurd k
no_fault (TooLong n) Format first rest h k = absurd k
no_fault (TooLong n) Menu first rest h k = absurd k
no_fault (TooLong n) (Count most) first rest h k =
    let same = h.1 in
    let le = h.2 in
    let x : IsFaultOf (TooLong n) (Count most) (h.0 ∷ rest) = rw same at k in
    let lt = x.0 in
    absurd (omega (arith, le, lt))
no_fault (TooLong n) (Content count) first rest h k = absurd k

truncated_same : (m n k : ℕ) → m ≡ k → n ≡ k → Truncated m ≡ Truncated n
truncated_same m n k a b = ap (λ x. Truncated x) (a ∙ sym b)

-- a field has one fault at most
one_of_field : (f g : SessionFault) (field : SessionField) (bytes : List ℕ) → IsFaultOf f field bytes → IsFaultOf g field bytes → f ≡ g
one_of_field (Truncated m) (Truncated n) field bytes a b = truncated_same m n (length bytes) a.1 b.1
one_of_field (Truncated m) (BadForm n) Format [] a b = absurd b
one_of_field (Truncated m) (BadForm n) Format (x ∷ rest) a b = let lt = a.0 in absurd (omega (arith, lt))
one_of_field (Truncated m) (TooLong n) (Count most) [] a b = absurd b
one_of_field (Truncated m) (TooLong n) (Count most) (x ∷ rest) a b = let lt = a.0 in absurd (omega (arith, lt))
one_of_field (BadForm m) (Truncated n) Format [] a b = absurd a
one_of_field (BadForm m) (Truncated n) Format (x ∷ rest) a b = let lt = b.0 in absurd (omega (arith, lt))
one_of_field (BadForm m) (BadForm n) Format [] a b = absurd a
one_of_field (BadForm m) (BadForm n) Format (x ∷ rest) a b = ap (λ k. BadForm k) (a.1 ∙ sym b.1)
one_of_field (BadForm m) (TooLong n) Format [] a b = absurd a
one_of_field (BadForm m) (TooLong n) Format (x ∷ rest) a b = absurd b
one_of_field (TooLong m) (Truncated n) (Count most) [] a b = absurd a
one_of_field (TooLong m) (Truncated n) (Count most) (x ∷ rest) a b = let lt = b.0 in absurd (omega (arith, lt))
one_of_field (TooLong m) (BadForm n) (Count most) [] a b = absurd a
one_of_field (TooLong m) (BadForm n) (Count most) (x ∷ rest) a b = absurd b
one_of_field (TooLong m) (TooLong n) (Count most) [] a b = absurd a
one_of_field (TooLong m) (TooLong n) (Count most) (x ∷ rest) a b = ap (λ k. TooLong k) (a.1 ∙ sym b.1)
one_of_field (Truncated m) (BadForm n) AnyByte bytes a b = absurd b
one_of_field (Truncated m) (BadForm n) AnyWord bytes a b = absurd b
one_of_field (Truncated m) (BadForm n) Menu bytes a b = absurd b
one_of_field (Truncated m) (BadForm n) (Count most) bytes a b = absurd b
one_of_field (Truncated m) (BadForm n) (Content count) bytes a b = absurd b
one_of_field (Truncated m) (TooLong n) AnyByte bytes a b = absurd b
one_of_field (Truncated m) (TooLong n) AnyWord bytes a b = absurd b
one_of_field (Truncated m) (TooLong n) Format bytes a b = absurd b
one_of_field (Truncated m) (TooLong n) Menu bytes a b = absurd b
one_of_field (Truncated m) (TooLong n) (Content count) bytes a b = absurd b
one_of_field (BadForm m) (Truncated n) AnyByte bytes a b = absurd a
one_of_field (BadForm m) (Truncated n) AnyWord bytes a b = absurd a
one_of_field (BadForm m) (Truncated n) Menu bytes a b = absurd a
one_of_field (BadForm m) (Truncated n) (Count most) bytes a b = absurd a
one_of_field (BadForm m) (Truncated n) (Content count) bytes a b = absurd a
one_of_field (BadForm m) (BadForm n) AnyByte bytes a b = absurd a
one_of_field (BadForm m) (BadForm n) AnyWord bytes a b = absurd a
one_of_field (BadForm m) (BadForm n) Menu bytes a b = absurd a
one_of_field (BadForm m) (BadForm n) (Count most) bytes a b = absurd a
one_of_field (BadForm m) (BadForm n) (Content count) bytes a b = absurd a
one_of_field (BadForm m) (TooLong n) AnyByte bytes a b = absurd a
one_of_field (BadForm m) (TooLong n) AnyWord bytes a b = absurd a
one_of_field (BadForm m) (TooLong n) Menu bytes a b = absurd a
one_of_field (BadForm m) (TooLong n) (Count most) bytes a b = absurd a
one_of_field (BadForm m) (TooLong n) (Content count) bytes a b = absurd a
one_of_field (TooLong m) (Truncated n) AnyByte bytes a b = absurd a
one_of_field (TooLong m) (Truncated n) AnyWord bytes a b = absurd a
one_of_field (TooLong m) (Truncated n) Format bytes a b = absurd a
one_of_field (TooLong m) (Truncated n) Menu bytes a b = absurd a
one_of_field (TooLong m) (Truncated n) (Content count) bytes a b = absurd a
one_of_field (TooLong m) (BadForm n) AnyByte bytes a b = absurd a
one_of_field (TooLong m) (BadForm n) AnyWord bytes a b = absurd a
one_of_field (TooLong m) (BadForm n) Format bytes a b = absurd a
one_of_field (TooLong m) (BadForm n) Menu bytes a b = absurd a
one_of_field (TooLong m) (BadForm n) (Content count) bytes a b = absurd a
one_of_field (TooLong m) (TooLong n) AnyByte bytes a b = absurd a
one_of_field (TooLong m) (TooLong n) AnyWord bytes a b = absurd a
one_of_field (TooLong m) (TooLong n) Format bytes a b = absurd a
one_of_field (TooLong m) (TooLong n) Menu bytes a b = absurd a
one_of_field (TooLong m) (TooLong n) (Content count) bytes a b = absurd a

-- two rows of allowed fields in the same bytes that end at a field with a fault end at the same one
one_reached : (fields l m : List SessionField) (a b x y : List ℕ) (next other : SessionField) (f g : SessionFault) → Leaves fields a (next ∷ l) → Leaves fields b (other ∷ m) → a ++ x ≡ b ++ y
    → IsFaultOf f next x → IsFaultOf g other y → f ≡ g
one_reached fields l m a b x y next other f g no_field_read no_field_read e p q = one_of_field f g next x p (rw (← e) at q)
one_reached fields l m a b x y next other f g no_field_read (one_field_read {rest = rest} first allowed k) e p q =
    let here : IsFaultOf f next (first ++ (rest ++ y)) = rw (e, append_assoc first rest y) at p in
    absurd (no_fault f next first (rest ++ y) allowed here)
one_reached fields l m a b x y next other f g (one_field_read {rest = rest} first allowed h) no_field_read e p q =
    let here : IsFaultOf g other (first ++ (rest ++ x)) = rw (← e, append_assoc first rest x) at q in
    absurd (no_fault g other first (rest ++ x) allowed here)
one_reached fields l m a b x y next other f g (one_field_read {field = field} {fields = others} {rest = rest} first allowed h) (one_field_read {rest = rest2} first2 allowed2 k) e p q =
    let len : length first ≡ length first2 = wide field first allowed ∙ sym (wide field first2 allowed2) in
    let both = same_front first first2 (rest ++ x) (rest2 ++ y) len (sym (append_assoc first rest x) ∙ e ∙ append_assoc first2 rest2 y) in
    let firsts = both.0 in
    let k2 = rw (← firsts) at k in
    one_reached (brought_by field first ++ others) l m rest rest2 x y next other f g h k2 both.1 p q

-- bytes that are all the fields have no fault among them
all_reached : (fields m : List SessionField) (a b x y : List ℕ) (other : SessionField) (g : SessionFault) → Leaves fields a [] → Leaves fields b (other ∷ m) → a ++ x ≡ b ++ y
    → IsFaultOf g other y → ⊥
all_reached fields m a b x y other g no_field_read k e q = elim k [ ]
all_reached fields m a b x y other g (one_field_read {rest = rest} first allowed h) no_field_read e q =
    let here : IsFaultOf g other (first ++ (rest ++ x)) = rw (← e, append_assoc first rest x) at q in
    absurd (no_fault g other first (rest ++ x) allowed here)
all_reached fields m a b x y other g (one_field_read {field = field} {fields = others} {rest = rest} first allowed h) (one_field_read {rest = rest2} first2 allowed2 k) e q =
    let len : length first ≡ length first2 = wide field first allowed ∙ sym (wide field first2 allowed2) in
    let both = same_front first first2 (rest ++ x) (rest2 ++ y) len (sym (append_assoc first rest x) ∙ e ∙ append_assoc first2 rest2 y) in
    let firsts = both.0 in
    let k2 = rw (← firsts) at k in
    all_reached (brought_by field first ++ others) m rest rest2 x y other g h k2 both.1 q

pub fault-one : (f g : SessionFault) (bytes : List ℕ) → HasSessionFault f bytes → HasSessionFault g bytes → f ≡ g
fault-one f g bytes a b =
    one_reached session_fields a.after b.after a.front b.front a.rest b.rest a.next b.next f g a.reached b.reached (sym a.split ∙ b.split) a.fault_is b.fault_is

-- ---- reading meets it

met : (bytes : List ℕ) (f : SessionFault) (r : Result Session SessionFault) → Passes rest_of_session session_fields [] bytes r → r ≡ Err f → HasSessionFault f bytes
met bytes f (Ok s) h e = absurd cc
met bytes f (Err g) h e =
    let same : g ≡ f = cc in
    rw (← same) (record { front = h.front; rest = h.rest; next = h.next; after = h.after; split = h.split; reached = h.reached; fault_is = h.fault_is })

pub read_fault : (bytes : List ℕ) (f : SessionFault) → read_session bytes ≡ Err f → HasSessionFault f bytes
read_fault bytes f e = met bytes f (read_session bytes) (session_passes bytes) e

not_read : (bytes : List ℕ) (f : SessionFault) (r : Result Session SessionFault) → Passes rest_of_session session_fields [] bytes r → read_session bytes ≡ r → HasSessionFault f bytes → r ≡ Err f
not_read bytes f (Ok s) h e k =
    absurd (all_reached session_fields k.after h.0 k.front (rest_of_session s) k.rest k.next f h.2 k.reached (sym h.1 ∙ k.split) k.fault_is)
not_read bytes f (Err g) h e k = let same = fault-one g f bytes (read_fault bytes g e) k in rw same refl

pub read-fault : (f : SessionFault) (bytes : List ℕ) → HasSessionFault f bytes → read_session bytes ≡ Err f
read-fault f bytes k = not_read bytes f (read_session bytes) (session_passes bytes) refl k

-- ---- for the contracts

pub given-fault : (r : Result Session SessionFault) (bytes : List ℕ) → r ≡ read_session bytes → IfErr r (λ f. HasSessionFault f bytes)
given-fault (Ok s) bytes g = tt
given-fault (Err f) bytes g = read_fault bytes f (sym g)

pub given-faulty : (r : Result Session SessionFault) (f : SessionFault) (bytes : List ℕ) → r ≡ read_session bytes → HasSessionFault f bytes → r ≡ Err f
given-faulty r f bytes g h = g ∙ read-fault f bytes h

either : (bytes : List ℕ) (r : Result Session SessionFault) → IsBytes bytes → read_session bytes ≡ r → ((s : Session) × SpellsSession s bytes) ⊎ ((f : SessionFault) × HasSessionFault f bytes)
either bytes (Ok s) fits e = inl (s, session_found bytes s fits e)
either bytes (Err f) fits e = inr (f, read_fault bytes f e)

pub spells_or_fault : (bytes : List ℕ) → ((i : ℕ) → get_or bytes i 0 < 256) → ((s : Session) × SpellsSession s bytes) ⊎ ((f : SessionFault) × HasSessionFault f bytes)
spells_or_fault bytes fits = either bytes (read_session bytes) fits refl

pub spells-apart : (s : Session) (f : SessionFault) (bytes : List ℕ) → SpellsSession s bytes → HasSessionFault f bytes → ⊥
spells-apart s f bytes a b =
    let x = read-spelled s bytes a in
    let y = read-fault f bytes b in
    absurd cc
