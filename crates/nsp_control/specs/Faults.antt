-- Faults of bytes that are no packet that sets up or closes a link: which one, and where, by the fields of the packet
-- that MSGFLG names.
use Rattle.std.specs.Prelude.{◌≡◌, ◌≢◌, ℕ, ◌+◌, ◌<◌, Bool, ◌⊎◌, List, [], ◌∷◌, ◌++◌, length, Option, Some, None, ◌==◌, ◌||◌, if◌then◌else◌}
use Rattle.nsp_control.specs.declared.packet.ControlFault.{ControlFault}
use Rattle.nsp_control.specs.declared.packet.ControlFault.TheVariants.{Truncated, Trailing, NotHere, BadAddress, NoMemory}

-- ---- fields

-- A field after MSGFLG: a byte or two bytes of any value, an address that has to be 0, and an address that may not be.
pub data ControlField : Type 0 where
  OneByte : ControlField
  TwoBytes : ControlField
  ZeroAddress : ControlField
  LinkAddress : ControlField

-- how many bytes a field has
abbrev pub control_width : ControlField → ℕ
control_width OneByte = 1
control_width TwoBytes = 2
control_width ZeroAddress = 2
control_width LinkAddress = 2

-- the bytes, all of them, are this field, whole and with a value that it may have
abbrev pub IsControlField : ControlField → List ℕ → Type 0
IsControlField OneByte bytes = length bytes ≡ 1
IsControlField TwoBytes bytes = length bytes ≡ 2
IsControlField ZeroAddress bytes = bytes ≡ 0 ∷ 0 ∷ []
IsControlField LinkAddress bytes = (length bytes ≡ 2) × (bytes ≢ 0 ∷ 0 ∷ [])

-- the bytes, all of them, are these fields in a row, each whole and with a value that it may have
abbrev pub AreControlFields : List ControlField → List ℕ → Type 0
AreControlFields [] bytes = bytes ≡ []
AreControlFields (field ∷ fields) bytes =
    (first rest : List ℕ) × (bytes ≡ first ++ rest) × IsControlField field first × AreControlFields fields rest

-- ---- packets

-- DSTADDR, SRCADDR, SERVICES, INFO and SEGSIZE of a connect initiate
abbrev pub connect_fields : List ControlField
connect_fields = ZeroAddress ∷ LinkAddress ∷ OneByte ∷ OneByte ∷ TwoBytes ∷ []

-- the same of a connect confirm
abbrev pub confirm_fields : List ControlField
confirm_fields = LinkAddress ∷ LinkAddress ∷ OneByte ∷ OneByte ∷ TwoBytes ∷ []

-- DSTADDR, SRCADDR and REASON of a disconnect initiate and of a disconnect confirm
abbrev pub disconnect_fields : List ControlField
disconnect_fields = TwoBytes ∷ TwoBytes ∷ TwoBytes ∷ []

-- The fields after this MSGFLG (NSP 4.0.0, control messages; from memory). `None`: it is that of no packet that sets up
-- or closes a link.
unfoldable pub fields_of : ℕ → Option (List ControlField)
fields_of flag =
    if flag == 0x18 || flag == 0x68 then Some connect_fields else
    (if flag == 0x28 then Some confirm_fields else
    (if flag == 0x38 || flag == 0x48 then Some disconnect_fields else
    (if flag == 0x24 then Some (TwoBytes ∷ []) else None)))

-- any bytes may follow these fields: a connect initiate, a connect confirm and a disconnect initiate have a body
unfoldable pub has_body : ℕ → Bool
has_body flag = flag == 0x18 || flag == 0x68 || flag == 0x28 || flag == 0x38

-- ---- faults

-- The bytes are a MSGFLG, then allowed fields, and from the offset `at` on `rest`, where the packet has the field `next`.
pub record ReachesField (bytes : List ℕ) (at : ℕ) (next : ControlField) (rest : List ℕ) : Type 0 where
  pub flag : ℕ
  pub before : List ControlField
  pub after : List ControlField
  pub front : List ℕ
  pub fields : fields_of flag ≡ Some (before ++ next ∷ after)
  pub split : bytes ≡ flag ∷ (front ++ rest)
  pub allowed : AreControlFields before front
  pub offset : at ≡ 1 + length front

-- The bytes are a MSGFLG and all its fields, allowed, and from the offset `at` on `rest`, which no packet of this
-- MSGFLG has.
pub record EndsAt (bytes : List ℕ) (at : ℕ) (rest : List ℕ) : Type 0 where
  pub flag : ℕ
  pub fields : List ControlField
  pub front : List ℕ
  pub all : fields_of flag ≡ Some fields
  pub no_body : has_body flag ≡ Bool.false
  pub split : bytes ≡ flag ∷ (front ++ rest)
  pub allowed : AreControlFields fields front
  pub offset : at ≡ 1 + length front

-- The fault of bytes that are no packet. What is before the offset is whole and allowed. Bytes are never out of memory.
abbrev pub HasControlFault : ControlFault → List ℕ → Type 0
HasControlFault (Truncated at) bytes =
    ((bytes ≡ []) × (at ≡ 0))
    ⊎ ((next : ControlField) × (rest : List ℕ) × ReachesField bytes at next rest × (length rest < control_width next))
HasControlFault (BadAddress at) bytes =
    (next : ControlField) × (field rest : List ℕ) × ReachesField bytes at next (field ++ rest)
    × (length field ≡ control_width next) × (IsControlField next field → ⊥)
HasControlFault (Trailing at) bytes = (rest : List ℕ) × EndsAt bytes at rest × (rest ≢ [])
HasControlFault (NotHere flag) bytes = (rest : List ℕ) × (bytes ≡ flag ∷ rest) × (fields_of flag ≡ None)
HasControlFault NoMemory bytes = ⊥
