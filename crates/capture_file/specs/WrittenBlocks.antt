-- What a writer of pcapng writes: sections, which are blocks.
use Rattle.std.specs.Prelude.{◌≡◌, ◌≢◌, ℕ, ◌+◌, ◌/◌, ◌%◌, ◌^◌, ◌<◌, ◌≤◌, ◌==◌, Bool, false, List, [], ◌∷◌, ◌++◌, take, length, slice_get, map, if◌then◌else◌, Option, Some, None}
use Rattle.std.specs.List.{AllByRecursion, flat_map}
use Rattle.capture_file.specs.Units.{max_unit}
use Rattle.capture_file.specs.Meanings.{Record}
use Rattle.capture_file.specs.Written.{number_bytes}
use Rattle.capture_file.specs.declared.units.Order.{Order}

-- a block: its type, its length, what it says, and its length again (pcapng, 3.1)
abbrev pub bytes_of_block : Order → (kind : ℕ) → (body : List ℕ) → List ℕ
bytes_of_block order kind body =
    number_bytes order 4 kind ++ (number_bytes order 4 (12 + length body) ++ (body ++ number_bytes order 4 (12 + length body)))

-- at most three bytes, with which bytes are a multiple of four
pub record FillsUp (bytes filler : List ℕ) : Type 0 where
  pub few : length filler < 4
  pub whole : (length bytes + length filler) % 4 ≡ 0

-- ---- options (pcapng, 3.5)

-- a code, a value, and what fills it up
pub record BlockOption : Type 0 where
  pub code : ℕ
  pub value : List ℕ
  pub filler : List ℕ

-- the code isn't 0, which ends options; code and length have two bytes
pub record FitsBlockOption (o : BlockOption) : Type 0 where
  pub some : 0 < o.code
  pub code : o.code < 2 ^ 16
  pub long : length o.value < 2 ^ 16
  pub filled : FillsUp o.value o.filler

-- the code, the length of the value, and the value
abbrev pub bytes_of_option : Order → BlockOption → List ℕ
bytes_of_option order o = number_bytes order 2 o.code ++ (number_bytes order 2 (length o.value) ++ (o.value ++ o.filler))

-- options, and, if they are ended, code 0 and length 0
abbrev pub bytes_of_options : Order → (is_ended : Bool) → List BlockOption → List ℕ
bytes_of_options order is_ended [] = if is_ended then 0 ∷ 0 ∷ 0 ∷ 0 ∷ [] else []
bytes_of_options order is_ended (o ∷ others) = bytes_of_option order o ++ bytes_of_options order is_ended others

-- ---- interfaces (pcapng, 4.2)

-- an option of an interface: the resolution of its times (`if_tsresol`), the seconds that are added to them
-- (`if_tsoffset`), or another one
pub data InterfaceOption : Type 0 where
  Resolution : ℕ → InterfaceOption
  AddedSeconds : ℕ → InterfaceOption
  OtherOption : BlockOption → InterfaceOption

-- a resolution of one byte, seconds of eight; another option has another code
abbrev pub FitsInterfaceOption : InterfaceOption → Type 0
FitsInterfaceOption (Resolution n) = n < 256
FitsInterfaceOption (AddedSeconds n) = n < 2 ^ 64
FitsInterfaceOption (OtherOption o) = FitsBlockOption o × (o.code ≢ 9) × (o.code ≢ 14)

-- as an option of a block: code 9 has the resolution, and code 14 the seconds
abbrev pub option_of_interface : Order → InterfaceOption → BlockOption
option_of_interface order (Resolution n) = record { code = 9; value = n ∷ []; filler = 0 ∷ 0 ∷ 0 ∷ [] }
option_of_interface order (AddedSeconds n) = record { code = 14; value = number_bytes order 8 n; filler = [] }
option_of_interface order (OtherOption o) = o

-- the resolution that is given first; without one, times are in millionths of a second
abbrev pub resolution_by : List InterfaceOption → ℕ
resolution_by [] = 6
resolution_by (Resolution n ∷ others) = n
resolution_by (AddedSeconds n ∷ others) = resolution_by others
resolution_by (OtherOption o ∷ others) = resolution_by others

-- the seconds that are given first; without any, none are added
abbrev pub seconds_by : List InterfaceOption → ℕ
seconds_by [] = 0
seconds_by (Resolution n ∷ others) = seconds_by others
seconds_by (AddedSeconds n ∷ others) = n
seconds_by (OtherOption o ∷ others) = seconds_by others

-- an interface: its link type, the maximum of a captured frame, where 0 sets none, its options, and whether they are
-- ended
pub record DescribedInterface : Type 0 where
  pub link : ℕ
  pub limit : ℕ
  pub options : List InterfaceOption
  pub is_ended : Bool

-- its numbers have two and four bytes
pub record FitsInterface (i : DescribedInterface) : Type 0 where
  pub link : i.link < 2 ^ 16
  pub limit : i.limit < 2 ^ 32
  pub options : AllByRecursion FitsInterfaceOption i.options

-- the link type, two bytes that are 0, the limit, and the options
abbrev pub bytes_of_interface : Order → DescribedInterface → List ℕ
bytes_of_interface order i =
    number_bytes order 2 i.link ++ (number_bytes order 2 0 ++ (number_bytes order 4 i.limit
    ++ bytes_of_options order i.is_ended (map (option_of_interface order) i.options)))

-- ---- packets (pcapng, 4.3 and 4.4)

-- a packet of an interface, which is named by its index: the time, what was captured of a frame, what fills that up, how
-- many bytes the frame had, and options, which may be ended
pub record EnhancedPacket : Type 0 where
  pub interface : ℕ
  pub time : ℕ
  pub bytes : List ℕ
  pub filler : List ℕ
  pub long : ℕ
  pub options : List BlockOption
  pub is_ended : Bool

-- its time has eight bytes, and the index has four
pub record FitsPacket (p : EnhancedPacket) : Type 0 where
  pub interface : p.interface < 2 ^ 32
  pub time : p.time < 2 ^ 64
  pub filled : FillsUp p.bytes p.filler
  pub options : AllByRecursion FitsBlockOption p.options

-- the index, the higher and the lower four bytes of the time, both lengths, what was captured, and options
abbrev pub bytes_of_packet : Order → EnhancedPacket → List ℕ
bytes_of_packet order p =
    number_bytes order 4 p.interface ++ (number_bytes order 4 (p.time / 2 ^ 32) ++ (number_bytes order 4 (p.time % 2 ^ 32)
    ++ (number_bytes order 4 (length p.bytes) ++ (number_bytes order 4 p.long
    ++ (p.bytes ++ (p.filler ++ bytes_of_options order p.is_ended p.options))))))

-- a simple packet: a frame, and what fills up what was captured of it
pub record SimplePacket : Type 0 where
  pub frame : List ℕ
  pub filler : List ℕ

-- what the first interface of a section captures of a frame
abbrev pub captured_bytes : List DescribedInterface → (frame : List ℕ) → List ℕ
captured_bytes [] frame = frame
captured_bytes (first ∷ others) frame = if first.limit == 0 then frame else take first.limit frame

-- the length of the frame, and what was captured of it
abbrev pub bytes_of_simple : Order → List DescribedInterface → SimplePacket → List ℕ
bytes_of_simple order described p = number_bytes order 4 (length p.frame) ++ (captured_bytes described p.frame ++ p.filler)

-- ---- blocks

-- a block: it describes an interface, has a packet or a simple one, or is of another type, with any body
pub data WrittenBlock : Type 0 where
  InterfaceBlock : DescribedInterface → WrittenBlock
  PacketBlock : EnhancedPacket → WrittenBlock
  SimpleBlock : SimplePacket → WrittenBlock
  OtherBlock : (kind : ℕ) → (body : List ℕ) → WrittenBlock

-- its type
abbrev pub kind_of_block : WrittenBlock → ℕ
kind_of_block (InterfaceBlock i) = 1
kind_of_block (PacketBlock p) = 6
kind_of_block (SimpleBlock p) = 3
kind_of_block (OtherBlock kind body) = kind

-- what it says, after the interfaces that are described already
abbrev pub body_of_block : Order → List DescribedInterface → WrittenBlock → List ℕ
body_of_block order described (InterfaceBlock i) = bytes_of_interface order i
body_of_block order described (PacketBlock p) = bytes_of_packet order p
body_of_block order described (SimpleBlock p) = bytes_of_simple order described p
body_of_block order described (OtherBlock kind body) = body

-- a type of four bytes that none of the others has, nor a section
pub record IsOtherKind (kind : ℕ) : Type 0 where
  pub small : kind < 2 ^ 32
  pub no_interface : kind ≢ 1
  pub no_simple : kind ≢ 3
  pub no_packet : kind ≢ 6
  pub no_section : kind ≢ 0x0A0D0D0A

-- it can be written: a section has at most 1,024 interfaces, and what is read has at most as many bytes as are read
abbrev pub FitsBlock : Order → List DescribedInterface → WrittenBlock → Type 0
FitsBlock order described (InterfaceBlock i) =
    FitsInterface i × (length described < 1024) × (12 + length (bytes_of_interface order i) ≤ max_unit)
FitsBlock order described (PacketBlock p) = FitsPacket p × (12 + length (bytes_of_packet order p) ≤ max_unit)
FitsBlock order described (SimpleBlock p) =
    (length p.frame < 2 ^ 32) × FillsUp (captured_bytes described p.frame) p.filler × (12 + length (bytes_of_simple order described p) ≤ max_unit)
FitsBlock order described (OtherBlock kind body) = IsOtherKind kind × (length body % 4 ≡ 0) × (12 + length body < 2 ^ 32)

-- the interfaces that are described after it
abbrev pub described_after : List DescribedInterface → WrittenBlock → List DescribedInterface
described_after described (InterfaceBlock i) = described ++ i ∷ []
described_after described _ = described

-- a frame of an interface is one of Ethernet if that has link type 1; its time counts what the interface says; without
-- such an interface it is neither
abbrev pub record_on : Option DescribedInterface → (time : ℕ) → (bytes : List ℕ) → Record
record_on None time bytes = record { time = None; is_ethernet = false; bytes = bytes }
record_on (Some i) time bytes =
    record { time = Some (record { parts = time; resolution = resolution_by i.options; offset = seconds_by i.options }); is_ethernet = i.link == 1; bytes = bytes }

-- a simple packet is one of the first interface, and has no time
abbrev pub is_of_ethernet : List DescribedInterface → Bool
is_of_ethernet [] = false
is_of_ethernet (first ∷ others) = first.link == 1

-- the frames of a block: one, or none
abbrev pub records_of_block : List DescribedInterface → WrittenBlock → List Record
records_of_block described (PacketBlock p) = record_on (slice_get described p.interface) p.time p.bytes ∷ []
records_of_block described (SimpleBlock p) =
    record { time = None; is_ethernet = is_of_ethernet described; bytes = captured_bytes described p.frame } ∷ []
records_of_block described _ = []

-- blocks, one after the other
abbrev pub bytes_of_blocks : Order → List DescribedInterface → List WrittenBlock → List ℕ
bytes_of_blocks order described [] = []
bytes_of_blocks order described (block ∷ others) =
    bytes_of_block order (kind_of_block block) (body_of_block order described block) ++ bytes_of_blocks order (described_after described block) others

-- each of them can be written
abbrev pub FitBlocks : Order → List DescribedInterface → List WrittenBlock → Type 0
FitBlocks order described [] = Unit {0}
FitBlocks order described (block ∷ others) = FitsBlock order described block × FitBlocks order (described_after described block) others

-- and their frames
abbrev pub records_of_blocks : List DescribedInterface → List WrittenBlock → List Record
records_of_blocks described [] = []
records_of_blocks described (block ∷ others) = records_of_block described block ++ records_of_blocks (described_after described block) others

-- ---- sections (pcapng, 4.1)

-- a section: its byte order, its version, how long it says that it is, options, which may be ended, and its blocks
pub record WrittenSection : Type 0 where
  pub order : Order
  pub major : ℕ
  pub minor : ℕ
  pub long : ℕ
  pub options : List BlockOption
  pub is_ended : Bool
  pub blocks : List WrittenBlock

-- the number that tells the byte order, the version, the length of the section, and options
abbrev pub head_of_section : WrittenSection → List ℕ
head_of_section s =
    number_bytes s.order 4 0x1A2B3C4D ++ (number_bytes s.order 2 s.major ++ (number_bytes s.order 2 s.minor ++ (number_bytes s.order 8 s.long
    ++ bytes_of_options s.order s.is_ended s.options)))

-- it can be written
pub record FitsSection (s : WrittenSection) : Type 0 where
  pub options : AllByRecursion FitsBlockOption s.options
  pub long : 12 + length (head_of_section s) < 2 ^ 32
  pub blocks : FitBlocks s.order [] s.blocks

-- a block whose type reads alike in both orders, and the others
abbrev pub bytes_of_section : WrittenSection → List ℕ
bytes_of_section s = bytes_of_block s.order 0x0A0D0D0A (head_of_section s) ++ bytes_of_blocks s.order [] s.blocks

-- and its frames
abbrev pub records_of_section : WrittenSection → List Record
records_of_section s = records_of_blocks [] s.blocks

-- a file of sections
abbrev pub pcapng_bytes : List WrittenSection → List ℕ
pcapng_bytes sections = flat_map bytes_of_section sections
