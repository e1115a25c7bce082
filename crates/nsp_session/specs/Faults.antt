-- Faults of bytes that are no connect data: which one, and how many bytes before their end, by the fields that the
-- bytes before it bring.
use Rattle.std.specs.Prelude.{◌≡◌, ℕ, ◌+◌, ◌/◌, ◌%◌, ◌<◌, ◌≤◌, List, [], ◌∷◌, ◌++◌, length, ◌==◌, if◌then◌else◌}
use Rattle.nsp_session.specs.declared.session.SessionFault.{SessionFault}
use Rattle.nsp_session.specs.declared.session.SessionFault.TheVariants.{Truncated, BadForm, TooLong}
use Rattle.nsp_session.specs.Sessions.{max_name, max_grouped, max_access, max_data}

-- ---- fields

-- A field: a byte or two bytes of any value; FORMAT; MENUVER; the count byte of an image, with the most that it may be;
-- and the bytes of an image, with their number.
pub data SessionField : Type 0 where
  AnyByte : SessionField
  AnyWord : SessionField
  Format : SessionField
  Menu : SessionField
  Count : ℕ → SessionField
  Content : ℕ → SessionField

-- how many bytes a field has
abbrev pub session_width : SessionField → ℕ
session_width AnyByte = 1
session_width AnyWord = 2
session_width Format = 1
session_width Menu = 1
session_width (Count most) = 1
session_width (Content count) = count

-- the bytes, all of them, are this field, whole and with a value that it may have
abbrev pub IsSessionField : SessionField → List ℕ → Type 0
IsSessionField AnyByte bytes = length bytes ≡ 1
IsSessionField AnyWord bytes = length bytes ≡ 2
IsSessionField Format bytes = (form : ℕ) × (bytes ≡ form ∷ []) × (form ≤ 2)
IsSessionField Menu bytes = length bytes ≡ 1
IsSessionField (Count most) bytes = (count : ℕ) × (bytes ≡ count ∷ []) × (count ≤ most)
IsSessionField (Content count) bytes = length bytes ≡ count

-- What FORMAT brings: a byte, which is an object's number where FORMAT is 0, then a name where it is 1, or a group, a
-- user and a name where it is 2.
abbrev pub fields_of_format : ℕ → List SessionField
fields_of_format form =
    if form == 0 then AnyByte ∷ [] else
    (if form == 1 then AnyByte ∷ Count max_name ∷ [] else AnyByte ∷ AnyWord ∷ AnyWord ∷ Count max_grouped ∷ [])

-- what bit 0 of MENUVER brings: RQSTRID, PASSWRD and ACCOUNT
abbrev pub fields_of_access : ℕ → List SessionField
fields_of_access menu = if menu % 2 == 1 then Count max_access ∷ Count max_access ∷ Count max_access ∷ [] else []

-- what bit 1 of MENUVER brings: USRDATA
abbrev pub fields_of_data : ℕ → List SessionField
fields_of_data menu = if menu / 2 % 2 == 1 then Count max_data ∷ [] else []

-- the fields that a field with these bytes brings, which follow it
abbrev pub brought_by : SessionField → List ℕ → List SessionField
brought_by Format (form ∷ _) = fields_of_format form
brought_by Menu (menu ∷ _) = fields_of_access menu ++ fields_of_data menu
brought_by (Count most) (count ∷ _) = Content count ∷ []
brought_by _ _ = []

-- The bytes are allowed fields, of these that are to come and of those that they bring, and these others are still to
-- come.
pub data Leaves : List SessionField → (bytes : List ℕ) → List SessionField → Type 0 where
  no_field_read : {fields : List SessionField} → Leaves fields [] fields
  one_field_read : {field : SessionField} {fields left : List SessionField} {rest : List ℕ} (first : List ℕ)
      → IsSessionField field first
      → Leaves (brought_by field first ++ fields) rest left
      → Leaves (field ∷ fields) (first ++ rest) left

-- FORMAT of DSTNAME, FORMAT of SRCNAME, and MENUVER (Session Control 1.0.0, connect data; from memory)
abbrev pub session_fields : List SessionField
session_fields = Format ∷ Format ∷ Menu ∷ []

-- ---- faults

-- This fault is that of a field with which these bytes begin: it is not whole, a FORMAT above 2, or a count byte above
-- the most that its image may have. The fault's number is that of the bytes from the field to the end.
abbrev pub IsFaultOf : SessionFault → SessionField → List ℕ → Type 0
IsFaultOf (Truncated n) field bytes = (length bytes < session_width field) × (n ≡ length bytes)
IsFaultOf (BadForm n) Format (form ∷ rest) = (2 < form) × (n ≡ 1 + length rest)
IsFaultOf (TooLong n) (Count most) (count ∷ rest) = (most < count) × (n ≡ 1 + length rest)
IsFaultOf _ _ _ = ⊥

-- The fault of bytes that are no connect data: that of the field `next`, with which `rest` begins, and what is before it
-- is whole and allowed.
pub record HasSessionFault (fault : SessionFault) (bytes : List ℕ) : Type 0 where
  pub front : List ℕ
  pub rest : List ℕ
  pub next : SessionField
  pub after : List SessionField
  pub split : bytes ≡ front ++ rest
  pub reached : Leaves session_fields front (next ∷ after)
  pub fault_is : IsFaultOf fault next rest
