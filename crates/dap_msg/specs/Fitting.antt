-- The limits of a message's values and of its length: those within them have a closed spelling.
use Rattle.std.specs.Prelude.{◌^◌, ◌<◌, ◌≤◌, length, Option, IfSome}
use Rattle.dap_msg.specs.Codes.{types, max_type}
use Rattle.dap_msg.specs.Grammar.{Kind, Byte, Word, Extensible, Image, ValueOf}
use Rattle.dap_msg.specs.Message.{Message, Config, Attrib, Access, Control, Contran, Ack, Accomp, Filedata, Status, Other}
use Rattle.dap_msg.specs.Canon.{operand_bytes}

-- a value within its field
abbrev pub FitsField : (k : Kind) → ValueOf k → Type 0
FitsField Byte v = v < 256
FitsField Word v = v < 256 ^ 2
FitsField (Extensible max) v = v < 128 ^ max
FitsField (Image max) image = length image ≤ max

-- a field that is missing, or a value within it
abbrev pub FitsOption : (k : Kind) → Option (ValueOf k) → Type 0
FitsOption k v = IfSome v (FitsField k)

-- each value is within its field
abbrev pub FieldsFit : Message → Type 0
FieldsFit (Config c) =
    FitsField Word c.bufsiz × FitsField Byte c.ostype × FitsField Byte c.filesys × FitsField Byte c.vernum × FitsField Byte c.econum
    × FitsField Byte c.usrnum × FitsField Byte c.softver × FitsField Byte c.usrsoft × FitsField (Extensible 12) c.syscap
FieldsFit (Attrib a) =
    FitsOption (Extensible 2) a.datatype × FitsOption Byte a.org × FitsOption Byte a.rfm ×
    FitsOption (Extensible 3) a.rat × FitsOption Word a.bls × FitsOption Word a.mrs ×
    FitsOption (Image 5) a.alq × FitsOption Byte a.bks × FitsOption Byte a.fsz ×
    FitsOption (Image 5) a.mrn × FitsOption (Image 40) a.runsys × FitsOption Word a.deq ×
    FitsOption (Extensible 6) a.fop × FitsOption Byte a.bsz × FitsOption (Extensible 6) a.dev ×
    FitsOption (Extensible 6) a.sdc × FitsOption Word a.lrl × FitsOption (Image 5) a.hbk ×
    FitsOption (Image 5) a.ebk × FitsOption Word a.ffb × FitsOption (Image 5) a.sbn
FieldsFit (Access a) =
    FitsField Byte a.func × FitsField (Extensible 5) a.opt × FitsField (Image 255) a.name × FitsField (Extensible 3) a.fac
    × FitsField (Extensible 3) a.shr × FitsField (Extensible 4) a.display × FitsField (Image 40) a.password
FieldsFit (Control c) =
    FitsField Byte c.func × FitsOption Byte c.rac × FitsOption (Image 255) c.key × FitsOption Byte c.krf
    × FitsOption (Extensible 6) c.rop × FitsOption (Image 5) c.hsh × FitsOption (Extensible 4) c.display
FieldsFit (Contran func) = FitsField Byte func
FieldsFit Ack = Unit {0}
FieldsFit (Accomp c) = FitsField Byte c.func × FitsField (Extensible 6) c.fop × FitsOption Word c.check
FieldsFit (Filedata recnum payload) = FitsField (Image 8) recnum
FieldsFit (Status s) = FitsField Word s.code × FitsField (Image 8) s.rfa × FitsField (Image 8) s.recnum × FitsField (Image 8) s.stv
FieldsFit (Other number body) = (types.status < number) × (number ≤ max_type)

-- each value is within its field, and the operand is below 65,536 bytes
pub record KeepsLimits (m : Message) : Type 0 where
  pub fields : FieldsFit m
  pub length : length (operand_bytes m) < 2 ^ 16
