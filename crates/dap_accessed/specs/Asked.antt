-- What an Access gives a new file: its shape, and what is kept of the Attributes besides.
use Rattle.std.specs.Prelude.{ℕ, ◌+◌, Bool, ◌&&◌, ◌||◌, nat_eq, nat_le, nat_lt, true, if◌then◌else◌, Option, Some, None, unwrap_or, option_map, IsTrue}
use Rattle.dap_msg.specs.Codes as codes
use Rattle.dap_msg.specs.BothEnds.{with_defaults}
use Rattle.dap_msg.specs.declared.message.Attributes.{Attributes}
use Rattle.rec_file.specs.declared.look.Look.{Look}
use Rattle.rec_file.specs.Limits.{max_byte, max_word, max_datatype, max_rat}
use Rattle.rec_file.specs.declared.shapes.Shape.{Shape}
use Rattle.rec_file.specs.Shapes.{is_shape, checked_shape}
use Rattle.rec_file.specs.Files.{FileVal, empty_file}
use Rattle.rec_file.specs.Looks.{plain_look, fronted, IsLook}
use Rattle.dap_accessed.specs.declared.asked.Asked.{Asked}

-- the shape alone: nothing is kept besides
abbrev pub plainly : Shape → Asked
plainly shape = record { shape = shape; look = plain_look }

-- a file may be made so
pub record IsAsked (asked : Asked) : Type 0 where
  pub shape : IsTrue (is_shape asked.shape)
  pub look : IsLook asked.shape asked.look

-- the file that is made so, without records
abbrev pub made_file : Asked → FileVal
made_file asked = empty_file asked.shape asked.look

-- ---- By a full server.

-- the greatest RFM
abbrev pub max_format : ℕ
max_format = 6

-- the RFM of the shape: but for fixed ones, records of each RFM may differ in length
abbrev pub shape_format : (rfm : ℕ) → ℕ
shape_format rfm = if nat_eq rfm codes.rfm.fixed || nat_lt max_format rfm then rfm else codes.rfm.variable

-- the length of the fixed part in front, where FSZ doesn't say it
abbrev pub usual_front : ℕ
usual_front = 2

-- the length that FSZ says, if it is there and not 0
abbrev pub said_front : Option ℕ → ℕ
said_front None = usual_front
said_front (Some fsz) = if nat_eq fsz 0 then usual_front else fsz

-- FSZ of records with a fixed part in front, and of no others
abbrev pub kept_front : (rfm : ℕ) → (fsz : Option ℕ) → Option ℕ
kept_front rfm fsz = if nat_eq rfm fronted then Some (said_front fsz) else None

-- MRS doesn't count the fixed part in front, but the limit of a record does; 0 sets none
abbrev pub record_limit : (mrs front : ℕ) → ℕ
record_limit mrs front = if nat_eq mrs 0 then 0 else mrs + front

-- the shape that attributes name, if a file may have it
abbrev pub full_shape : Attributes → Option Shape
full_shape a = with_defaults (λ org rfm mrs mrn. checked_shape org (shape_format rfm) (record_limit mrs (unwrap_or (kept_front rfm a.fsz) 0)) mrn) a

-- RFM where the shape doesn't say it
abbrev pub kept_format : Option ℕ → Option ℕ
kept_format None = None
kept_format (Some rfm) = if nat_eq rfm codes.rfm.fixed || nat_eq rfm codes.rfm.variable then None else Some rfm

-- what is kept of attributes
abbrev pub look_of : Attributes → Look
look_of a = record {
  datatype = a.datatype;
  rfm = kept_format a.rfm;
  rat = a.rat;
  bls = a.bls;
  bks = a.bks;
  fsz = kept_front (unwrap_or a.rfm codes.rfm.variable) a.fsz;
  bsz = a.bsz;
}

-- a field that is missing, or at most this number
abbrev pub is_within : ℕ → Option ℕ → Bool
is_within most None = true
is_within most (Some n) = nat_le n most

-- each field that may be kept is within that of the message, as in each message that was read
abbrev pub are_within : Attributes → Bool
are_within a =
    is_within max_datatype a.datatype && (is_within max_rat a.rat && (is_within max_word a.bls
    && (is_within max_byte a.bks && (is_within max_byte a.fsz && is_within max_byte a.bsz))))

-- what attributes ask of a full server, if a file may be made so
unfoldable pub asked_fully : Attributes → Option Asked
asked_fully a =
    if are_within a then option_map (λ shape. record { shape = shape; look = look_of a }) (full_shape a) else None
