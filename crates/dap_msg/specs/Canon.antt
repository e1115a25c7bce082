-- The one spelling that is written of each message.
use Rattle.std.specs.Prelude.{ℕ, ◌+◌, ◌*◌, Bool, if◌then◌else◌, List, [], ◌∷◌, ◌++◌, length, Option, is_some, ◌≡◌, true}
use Rattle.std.specs.List.{concat}
use Rattle.std.specs.Option.{option_map_or}
use Rattle.dap_msg.specs.Grammar.{Kind, Byte, Word, Extensible, Image, ValueOf, field_bytes, WritesFormat}
use Rattle.dap_msg.specs.Message.{Attributes, ControlFields, Message, Config, Attrib, Access, Control, Contran, Ack, Accomp, Filedata, Status, Other}
use Rattle.dap_msg.specs.Formats.{type_number, header_bytes, operand}
use Rattle.dap_msg.specs.Decoding.{SpellsMessage}

-- the field, if it is there
abbrev pub option_bytes : (k : Kind) → Option (ValueOf k) → List ℕ
option_bytes k v = option_map_or (field_bytes k) v []

-- The number whose bits say which fields are there, bit 0 for the first.
abbrev pub bits_of : List Bool → ℕ
bits_of [] = 0
bits_of (there ∷ rest) = (if there then 1 else 0) + 2 * bits_of rest

-- which fields of Attributes are there, in the order of the bits of ATTMENU
abbrev pub attribute_flags : Attributes → List Bool
attribute_flags a =
    is_some a.datatype ∷ is_some a.org ∷ is_some a.rfm ∷
    is_some a.rat ∷ is_some a.bls ∷ is_some a.mrs ∷
    is_some a.alq ∷ is_some a.bks ∷ is_some a.fsz ∷
    is_some a.mrn ∷ is_some a.runsys ∷ is_some a.deq ∷
    is_some a.fop ∷ is_some a.bsz ∷ is_some a.dev ∷
    is_some a.sdc ∷ is_some a.lrl ∷ is_some a.hbk ∷
    is_some a.ebk ∷ is_some a.ffb ∷ is_some a.sbn ∷ []

-- which fields of Control are there, in the order of the bits of CTLMENU
abbrev pub control_flags : ControlFields → List Bool
control_flags c = is_some c.rac ∷ is_some c.key ∷ is_some c.krf ∷ is_some c.rop ∷ is_some c.hsh ∷ is_some c.display ∷ []

-- the fields of the operand, in order
abbrev pub operand_fields : Message → List (List ℕ)
operand_fields (Config c) =
    field_bytes Word c.bufsiz ∷ field_bytes Byte c.ostype ∷ field_bytes Byte c.filesys ∷ field_bytes Byte c.vernum ∷ field_bytes Byte c.econum
    ∷ field_bytes Byte c.usrnum ∷ field_bytes Byte c.softver ∷ field_bytes Byte c.usrsoft ∷ field_bytes (Extensible 12) c.syscap ∷ []
operand_fields (Attrib a) =
    field_bytes (Extensible 6) (bits_of (attribute_flags a))
    ∷ option_bytes (Extensible 2) a.datatype ∷ option_bytes Byte a.org ∷ option_bytes Byte a.rfm
    ∷ option_bytes (Extensible 3) a.rat ∷ option_bytes Word a.bls ∷ option_bytes Word a.mrs
    ∷ option_bytes (Image 5) a.alq ∷ option_bytes Byte a.bks ∷ option_bytes Byte a.fsz
    ∷ option_bytes (Image 5) a.mrn ∷ option_bytes (Image 40) a.runsys ∷ option_bytes Word a.deq
    ∷ option_bytes (Extensible 6) a.fop ∷ option_bytes Byte a.bsz ∷ option_bytes (Extensible 6) a.dev
    ∷ option_bytes (Extensible 6) a.sdc ∷ option_bytes Word a.lrl ∷ option_bytes (Image 5) a.hbk
    ∷ option_bytes (Image 5) a.ebk ∷ option_bytes Word a.ffb ∷ option_bytes (Image 5) a.sbn
    ∷ []
operand_fields (Access a) =
    field_bytes Byte a.func ∷ field_bytes (Extensible 5) a.opt ∷ field_bytes (Image 255) a.name ∷ field_bytes (Extensible 3) a.fac
    ∷ field_bytes (Extensible 3) a.shr ∷ field_bytes (Extensible 4) a.display ∷ field_bytes (Image 40) a.password ∷ []
operand_fields (Control c) =
    field_bytes Byte c.func ∷ field_bytes (Extensible 4) (bits_of (control_flags c)) ∷ option_bytes Byte c.rac ∷ option_bytes (Image 255) c.key
    ∷ option_bytes Byte c.krf ∷ option_bytes (Extensible 6) c.rop ∷ option_bytes (Image 5) c.hsh ∷ option_bytes (Extensible 4) c.display ∷ []
operand_fields (Contran func) = field_bytes Byte func ∷ []
operand_fields Ack = []
operand_fields (Accomp c) = field_bytes Byte c.func ∷ field_bytes (Extensible 6) c.fop ∷ option_bytes Word c.check ∷ []
operand_fields (Filedata recnum payload) = field_bytes (Image 8) recnum ∷ payload ∷ []
operand_fields (Status s) = field_bytes Word s.code ∷ field_bytes (Image 8) s.rfa ∷ field_bytes (Image 8) s.recnum ∷ field_bytes (Image 8) s.stv ∷ []
operand_fields (Other number body) = body ∷ []

-- the fields of the operand, joined
abbrev pub operand_bytes : Message → List ℕ
operand_bytes m = concat (operand_fields m)

-- What is written of a message: a header with LENGTH, and the fields of the operand. By the law `reads_back` it is
-- read back as this message, whatever follows it.
unfoldable pub canon : Message → List ℕ
canon m = header_bytes (type_number m) (length (operand_bytes m)) ++ operand_bytes m

-- The bytes are what is written of the message: a header, and the operand as its format is written. By the law
-- `writes_canon` that is `canon`, for a message that fits.
abbrev pub IsWritten : Message → List ℕ → Type 0
IsWritten m bytes =
    (body : List ℕ) × (bytes ≡ header_bytes (type_number m) (length body) ++ body)
    × WritesFormat (operand (type_number m)) m body []

-- some bytes with LENGTH are the message
pub record Fits (m : Message) : Type 0 where
  pub bytes : List ℕ
  pub spelled : SpellsMessage m bytes true
