-- The formats of the messages' operands and of the header (DAP 5.6.0, message formats). Which bits are
-- refused, and with which fault, is a choice of this implementation.
use Rattle.std.specs.Prelude.{ℕ, ◌/◌, ◌%◌, ◌^◌, ◌==◌, nat_lt, nat_le, if◌then◌else◌, Bool, true, false, ◌&&◌, ◌||◌, not, List, [], ◌∷◌, Option, Some, None}
use Rattle.dap_msg.specs.Codes.{types, max_type}
use Rattle.dap_msg.specs.declared.fault.FaultKind.{FaultKind}
use Rattle.dap_msg.specs.declared.fault.FaultKind.TheVariants.{BadFlags, BadStream, UnknownType, BadMenu}
use Rattle.dap_msg.specs.Grammar.{Kind, Byte, Word, Extensible, Image, Part, Must, When, OrElse, UnlessEnd, Remainder, Grammar, Done, Next, ◌>>=◌}
use Rattle.dap_msg.specs.Message.{Header, Message, Config, Attrib, Access, Control, Contran, Ack, Accomp, Filedata, Status, Other}

-- a test that refuses no value
abbrev pub any : {V : Type 0} → V → Option FaultKind
any v = None

-- a field that has to be there, with any value
abbrev pub must : Kind → Part
must k = Must k any

-- a number, or 0 where the operand ends before it
abbrev pub or_zero : ℕ → Part
or_zero max = OrElse (Extensible max) 0 any

-- an image, or the empty one where the operand ends before it
abbrev pub or_empty : ℕ → Part
or_empty max = OrElse (Image max) [] any

-- a value that isn't good is refused as this fault
abbrev pub refuses_as : {V : Type 0} → FaultKind → (V → Bool) → V → Option FaultKind
refuses_as fault good v = if good v then None else Some fault

-- An extensible field whose bits say which of the next fields are there. It is 0 where the operand ends before it. A
-- bit without a field is refused as BadMenu.
abbrev pub menu : ℕ → ℕ → Part
menu max fields = OrElse (Extensible max) 0 (refuses_as BadMenu (λ bits. nat_lt bits (2 ^ fields)))

-- bit i is set
abbrev pub has : ℕ → ℕ → Bool
has bits i = bits / 2 ^ i % 2 == 1

-- a field that is there exactly where its bit of the menu is set
abbrev pub optional_part : ℕ → ℕ → Kind → Part
optional_part bits i k = When (has bits i) k any

-- Bytes after the last known field are ignored, and none are written.
abbrev pub ending : {A : Type 0} → A → Grammar A
ending x = Next (Remainder false) (λ ignored. Done x)

-- Configuration, type 1
unfoldable pub configuration_format : Grammar Message
configuration_format = do
  ending (Config (record {
    bufsiz = (← must Word);
    ostype = (← must Byte);
    filesys = (← must Byte);
    vernum = (← must Byte);
    econum = (← must Byte);
    usrnum = (← must Byte);
    softver = (← must Byte);
    usrsoft = (← must Byte);
    syscap = (← must (Extensible 12));
  }))

-- Attributes, type 2
unfoldable pub attributes_format : Grammar Message
attributes_format = do
  bits ← menu 6 21
  ending (Attrib (record {
    datatype = (← optional_part bits 0 (Extensible 2));
    org = (← optional_part bits 1 Byte);
    rfm = (← optional_part bits 2 Byte);
    rat = (← optional_part bits 3 (Extensible 3));
    bls = (← optional_part bits 4 Word);
    mrs = (← optional_part bits 5 Word);
    alq = (← optional_part bits 6 (Image 5));
    bks = (← optional_part bits 7 Byte);
    fsz = (← optional_part bits 8 Byte);
    mrn = (← optional_part bits 9 (Image 5));
    runsys = (← optional_part bits 10 (Image 40));
    deq = (← optional_part bits 11 Word);
    fop = (← optional_part bits 12 (Extensible 6));
    bsz = (← optional_part bits 13 Byte);
    dev = (← optional_part bits 14 (Extensible 6));
    sdc = (← optional_part bits 15 (Extensible 6));
    lrl = (← optional_part bits 16 Word);
    hbk = (← optional_part bits 17 (Image 5));
    ebk = (← optional_part bits 18 (Image 5));
    ffb = (← optional_part bits 19 Word);
    sbn = (← optional_part bits 20 (Image 5));
  }))

-- Access, type 3
unfoldable pub access_format : Grammar Message
access_format = do
  func ← must Byte
  opt ← must (Extensible 5)
  name ← must (Image 255)
  fac ← or_zero 3
  shr ← or_zero 3
  display ← or_zero 4
  password ← or_empty 40
  ending (Access (record { func = func; opt = opt; name = name; fac = fac; shr = shr; display = display; password = password }))

-- Control, type 4
unfoldable pub control_format : Grammar Message
control_format = do
  func ← must Byte
  bits ← menu 4 6
  rac ← optional_part bits 0 Byte
  key ← optional_part bits 1 (Image 255)
  krf ← optional_part bits 2 Byte
  rop ← optional_part bits 3 (Extensible 6)
  hsh ← optional_part bits 4 (Image 5)
  display ← optional_part bits 5 (Extensible 4)
  ending (Control (record { func = func; rac = rac; key = key; krf = krf; rop = rop; hsh = hsh; display = display }))

-- Continue Transfer, type 5
unfoldable pub continuation_format : Grammar Message
continuation_format = do
  func ← must Byte
  ending (Contran func)

-- Acknowledge, type 6
unfoldable pub acknowledge_format : Grammar Message
acknowledge_format = ending Ack

-- Access Complete, type 7
unfoldable pub completion_format : Grammar Message
completion_format = do
  func ← must Byte
  fop ← or_zero 6
  check ← UnlessEnd Word any
  ending (Accomp (record { func = func; fop = fop; check = check }))

-- Data, type 8: the record number, and the record up to the end
unfoldable pub file_data_format : Grammar Message
file_data_format = do
  recnum ← must (Image 8)
  payload ← Remainder true
  Done (Filedata recnum payload)

-- Status, type 9
unfoldable pub status_format : Grammar Message
status_format = do
  code ← must Word
  rfa ← or_empty 8
  recnum ← or_empty 8
  stv ← or_empty 8
  ending (Status (record { code = code; rfa = rfa; recnum = recnum; stv = stv }))

-- any other type: all bytes are kept
unfoldable pub other_format : ℕ → Grammar Message
other_format number = do
  body ← Remainder true
  Done (Other number body)

-- The operand's format by the type of the message.
abbrev pub operand : ℕ → Grammar Message
operand number =
    if number == types.config then configuration_format else
    if number == types.attrib then attributes_format else
    if number == types.access then access_format else
    if number == types.control then control_format else
    if number == types.contran then continuation_format else
    if number == types.ack then acknowledge_format else
    if number == types.accomp then completion_format else
    if number == types.filedata then file_data_format else
    if number == types.status then status_format else other_format number

-- the type of the message
abbrev pub type_number : Message → ℕ
type_number (Config c) = types.config
type_number (Attrib a) = types.attrib
type_number (Access a) = types.access
type_number (Control c) = types.control
type_number (Contran func) = types.contran
type_number Ack = types.ack
type_number (Accomp c) = types.accomp
type_number (Filedata recnum payload) = types.filedata
type_number (Status s) = types.status
type_number (Other number body) = number

-- ---- The header.

-- Flags: bit 0 STREAMID, bit 1 LENGTH, bit 2 LEN256, which needs LENGTH.
abbrev pub flags_are_known : ℕ → Bool
flags_are_known flags = nat_lt flags 8 && (has flags 1 || not (has flags 2))

-- The header: the type, 1 to 16, or UnknownType; FLAGS, or BadFlags; STREAMID, which is 0, or BadStream; LENGTH and
-- LEN256 where their bits are set.
unfoldable pub header : Grammar Header
header = do
  number ← Must Byte (refuses_as UnknownType (λ number. nat_lt 0 number && nat_le number max_type))
  flags ← Must (Extensible 5) (refuses_as BadFlags flags_are_known)
  stream ← When (has flags 0) Byte (refuses_as BadStream (λ stream. stream == 0))
  low ← optional_part flags 1 Byte
  high ← optional_part flags 2 Byte
  Done (record { number = number; flags = flags; low = low; high = high })

-- The header that is written: LENGTH always, LEN256 exactly where the operand has 256 bytes or more.
abbrev pub header_bytes : ℕ → ℕ → List ℕ
header_bytes number len = if nat_lt len 256 then number ∷ 2 ∷ len ∷ [] else number ∷ 6 ∷ len % 256 ∷ len / 256 ∷ []
