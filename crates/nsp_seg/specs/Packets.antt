-- The packets that are decoded: data segments and data acknowledgements (NSP 4.0.0, data segment message and data
-- acknowledgement message). A `Packet` is the type `PacketValue` of the program, with the payload as a list of
-- numbers.
use Rattle.std.specs.Prelude.{◌≡◌, ℕ, ◌+◌, ◌*◌, ◌<◌, ◌≤◌, ◌^◌, Bool, ◌⊎◌, List, [], ◌∷◌, ◌++◌, length, slice_index, Option, Some, None, IfSome, if◌then◌else◌}
use Rattle.std.specs.Option.{option_map_or}
use Rattle.byteorder.specs.Endian.{little_bytes}
use Rattle.nsp_seg.specs.declared.packet.AckField.{AckField}
pub use Rattle.nsp_seg.specs.declared.packet.SegmentFields.{SegmentFields}
pub use Rattle.nsp_seg.specs.declared.packet.Packet.{Packet}
use Rattle.nsp_seg.specs.declared.packet.Packet.TheVariants.{Segment, DataAck}
use Rattle.nsp_seg.specs.declared.packet.FlagKind.TheVariants as kind
use Rattle.nsp_seg.specs.declared.packet.SegFault.{SegFault}
use Rattle.nsp_seg.specs.declared.packet.SegFault.TheVariants.{Truncated, Trailing, NotHere, BadNumber, NoMemory}
use Rattle.nsp_seg.specs.Flags.{flag_kind_of}

-- ---- spelling

-- the first byte of a segment: 0x20 marks the first of a message, 0x40 the last
abbrev pub marks : Bool → Bool → ℕ
marks first last = (if first then 0x20 else 0) + (if last then 0x40 else 0)

-- An acknowledgement field: a two-byte number, the lowest byte first, with bit 15 set, the qualifier in bits 12 to 14,
-- and the acknowledged number in bits 0 to 11.
abbrev pub ack_bytes : AckField → List ℕ
ack_bytes a = little_bytes 2 (0x8000 + 0x1000 * a.qual + a.number)

-- no bytes where the field is missing
abbrev pub optional_ack : Option AckField → List ℕ
optional_ack a = option_map_or ack_bytes a []

-- The bytes of a packet: the first byte, the address it goes to, the one it comes from, the acknowledgement fields,
-- and of a segment its number and its payload. Bits 12 to 14 of a segment's number are free, and bit 15 is clear.
abbrev pub spelling_with : ℕ → Packet → List ℕ
spelling_with free (Segment p) =
    marks p.first p.last ∷ [] ++ little_bytes 2 p.dst ++ little_bytes 2 p.src ++ optional_ack p.ack1 ++ optional_ack p.ack2
    ++ little_bytes 2 (0x1000 * free + p.number) ++ p.payload
spelling_with free (DataAck p) =
    0x04 ∷ [] ++ little_bytes 2 p.dst ++ little_bytes 2 p.src ++ ack_bytes p.ack1 ++ optional_ack p.ack2

-- the bytes that are written: the free bits are 0
abbrev pub spelling : Packet → List ℕ
spelling p = spelling_with 0 p

-- the values of an acknowledgement field fit it
abbrev pub AckFits : AckField → Type 0
AckFits a = (a.qual < 8) × (a.number < 4096)

-- there is a second acknowledgement field only if there is a first
abbrev pub Beside : Option AckField → Option AckField → Type 0
Beside None None = Unit {0}
Beside None (Some b) = ⊥
Beside (Some a) second = Unit {0}

-- each value fits its field
abbrev pub FitsFields : Packet → Type 0
FitsFields (Segment p) =
    (p.dst < 2 ^ 16) × (p.src < 2 ^ 16) × IfSome p.ack1 AckFits × IfSome p.ack2 AckFits × Beside p.ack1 p.ack2 × (p.number < 4096)
FitsFields (DataAck p) = (p.dst < 2 ^ 16) × (p.src < 2 ^ 16) × AckFits p.ack1 × IfSome p.ack2 AckFits

-- What a caller has to see to before a packet is written: the other values fit by their types.
abbrev pub QualFits : AckField → Type 0
QualFits a = a.qual < 8

-- these values fit, and there is a second acknowledgement field only if there is a first
abbrev pub IsWritable : Packet → Type 0
IsWritable (Segment p) = IfSome p.ack1 QualFits × IfSome p.ack2 QualFits × Beside p.ack1 p.ack2
IsWritable (DataAck p) = QualFits p.ack1 × IfSome p.ack2 QualFits

-- The bytes, all of them, are this packet's: its fields, joined.
pub record Spells (p : Packet) (bytes : List ℕ) : Type 0 where
  pub fits : FitsFields p
  pub free : ℕ
  pub few : free < 8
  pub spelled : bytes ≡ spelling_with free p

-- ---- faults

-- the first byte is that of a data segment or of a data acknowledgement
abbrev pub IsUsedFlag : ℕ → Type 0
IsUsedFlag flag = (flag_kind_of flag ≡ kind.Segment) ⊎ (flag_kind_of flag ≡ kind.DataAck)

-- These bytes are whole fields with allowed values, and another field has to follow them. A number
-- whose high byte is 128 or more is an acknowledgement field.
abbrev pub IsFieldDue : List ℕ → Type 0
IsFieldDue [] = Unit {0}
IsFieldDue (flag ∷ []) = IsUsedFlag flag
IsFieldDue (flag ∷ _ ∷ _ ∷ []) = IsUsedFlag flag
IsFieldDue (flag ∷ _ ∷ _ ∷ _ ∷ _ ∷ []) = IsUsedFlag flag
IsFieldDue (flag ∷ _ ∷ _ ∷ _ ∷ _ ∷ _ ∷ high1 ∷ []) = (flag_kind_of flag ≡ kind.Segment) × (128 ≤ high1)
IsFieldDue (flag ∷ _ ∷ _ ∷ _ ∷ _ ∷ _ ∷ high1 ∷ _ ∷ high2 ∷ []) = (flag_kind_of flag ≡ kind.Segment) × (128 ≤ high1) × (128 ≤ high2)
IsFieldDue _ = ⊥

-- The field isn't whole: there is no first byte, or fewer than two bytes of any other field.
abbrev pub IsCutField : List ℕ → List ℕ → Type 0
IsCutField [] rest = rest ≡ []
IsCutField (_ ∷ _) rest = length rest < 2

-- The bytes are a data acknowledgement, and the others may not follow it (Trailing): after its first field a single
-- byte or a number with bit 15 clear, and after its second field any byte.
abbrev pub MayNotFollow : List ℕ → List ℕ → Type 0
MayNotFollow (flag ∷ _ ∷ _ ∷ _ ∷ _ ∷ _ ∷ high1 ∷ []) (_ ∷ high2 ∷ _) = (flag_kind_of flag ≡ kind.DataAck) × (128 ≤ high1) × (high2 < 128)
MayNotFollow (flag ∷ _ ∷ _ ∷ _ ∷ _ ∷ _ ∷ high1 ∷ []) (_ ∷ []) = (flag_kind_of flag ≡ kind.DataAck) × (128 ≤ high1)
MayNotFollow (flag ∷ _ ∷ _ ∷ _ ∷ _ ∷ _ ∷ high1 ∷ _ ∷ high2 ∷ []) (_ ∷ _) = (flag_kind_of flag ≡ kind.DataAck) × (128 ≤ high1) × (128 ≤ high2)
MayNotFollow _ _ = ⊥

-- A number with this high byte may not follow these bytes: bit 15 is clear where a data acknowledgement has its first
-- field, or set after the two fields of a segment.
abbrev pub MayNotBeNumber : List ℕ → ℕ → Type 0
MayNotBeNumber (flag ∷ _ ∷ _ ∷ _ ∷ _ ∷ []) high = (flag_kind_of flag ≡ kind.DataAck) × (high < 128)
MayNotBeNumber (flag ∷ _ ∷ _ ∷ _ ∷ _ ∷ _ ∷ high1 ∷ _ ∷ high2 ∷ []) high = (flag_kind_of flag ≡ kind.Segment) × (128 ≤ high1) × (128 ≤ high2) × (128 ≤ high)
MayNotBeNumber _ _ = ⊥

-- The fault of bytes that are no packet. What is before the offset is whole and allowed. The first byte is looked at
-- before the addresses. Bytes are never out of memory.
abbrev pub HasFault : SegFault → List ℕ → Type 0
HasFault (Truncated at) bytes =
    (front rest : List ℕ) × (bytes ≡ front ++ rest) × (length front ≡ at) × IsFieldDue front × IsCutField front rest
HasFault (Trailing at) bytes =
    (front rest : List ℕ) × (bytes ≡ front ++ rest) × (length front ≡ at) × MayNotFollow front rest
HasFault (NotHere flag) bytes = (rest : List ℕ) × (bytes ≡ flag ∷ rest) × (IsUsedFlag flag → ⊥)
HasFault (BadNumber at) bytes =
    (front rest : List ℕ) × (low high : ℕ) × (bytes ≡ front ++ low ∷ high ∷ rest) × (length front ≡ at) × MayNotBeNumber front high
HasFault NoMemory bytes = ⊥
