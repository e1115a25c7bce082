-- The fields that the encoder writes, one after another.
use Rattle.std.specs.Prelude.{ℕ, ◌<◌, ◌≤◌, ◌^◌, List, [], ◌∷◌, ◌++◌, length, Bool, true, false}
use Rattle.dap_fields.specs.Writing.{shortest}
use Rattle.dap_msg.specs.declared.encoding.Field.{Field}
use Rattle.dap_msg.specs.declared.encoding.Field.TheVariants.{Absent, Byte, Word, Extensible, Image, Rest}
use Rattle.dap_msg.specs.Grammar as kinds
use Rattle.dap_msg.specs.Grammar.{field_bytes}
use Rattle.dap_msg.specs.Formats.{header_bytes}

abbrev pub bytes_of_field : Field → List ℕ
bytes_of_field Absent = []
bytes_of_field (Byte v) = v ∷ []
bytes_of_field (Word v) = field_bytes kinds.Word v
bytes_of_field (Extensible v) = shortest v
bytes_of_field (Image image) = length image.now ∷ image.now
bytes_of_field (Rest bytes) = bytes.now

abbrev pub is_there : Field → Bool
is_there Absent = false
is_there _ = true

abbrev pub fields_bytes : List Field → List ℕ
fields_bytes [] = []
fields_bytes (field ∷ fields) = bytes_of_field field ++ fields_bytes fields

-- the bytes of a message of these fields
abbrev pub message_bytes : ℕ → List Field → List ℕ
message_bytes number fields = header_bytes number (length (fields_bytes fields)) ++ fields_bytes fields

abbrev pub CanWrite : Field → Type 0
CanWrite Absent = Unit {0}
CanWrite (Byte v) = Unit {0}
CanWrite (Word v) = Unit {0}
CanWrite (Extensible v) = v < 2 ^ 84
CanWrite (Image image) = length image.now ≤ 255
CanWrite (Rest bytes) = Unit {0}

abbrev pub CanWriteAll : List Field → Type 0
CanWriteAll [] = Unit {0}
CanWriteAll (field ∷ fields) = CanWrite field × CanWriteAll fields
