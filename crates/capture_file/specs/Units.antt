-- The units of a file: the header and the records of pcap, the blocks of pcapng. The head of each tells how long it is.
use Rattle.std.specs.Prelude.{◌≡◌, ℕ, ◌+◌, ◌-◌, ◌%◌, ◌≤◌, ◌==◌, ◌||◌, not, nat_lt, Bool, true, List, ◌++◌, take, drop, length, if◌then◌else◌, Option, Some, None, Result, Ok, Err, bytes_eq, [], ◌∷◌}
use Rattle.std.specs.Int.{to_be_bytes, w32}
use Rattle.std.specs.List.{list_any}
use Rattle.capture_file.specs.Numbers.{u32_at}
use Rattle.capture_file.specs.declared.fault.FaultKind.{FaultKind}
use Rattle.capture_file.specs.declared.fault.FaultKind.TheVariants.{UnknownMagic, UnknownOrder, BadLength, TooLong}
use Rattle.capture_file.specs.declared.kinds.FileKind.{FileKind}
use Rattle.capture_file.specs.declared.kinds.FileKind.TheVariants as file
use Rattle.capture_file.specs.declared.units.Order.{Order}
use Rattle.capture_file.specs.declared.units.Order.TheVariants.{Big, Little}
use Rattle.capture_file.specs.declared.units.Format.{Format}
use Rattle.capture_file.specs.declared.units.Format.TheVariants.{Start, Pcap, Section}
use Rattle.capture_file.specs.declared.units.Extent.{Extent}

-- how many bytes tell how long a unit is
abbrev pub head_len : Format → ℕ
head_len (Pcap order digits) = 16
head_len Start = 12
head_len (Section order) = 12

-- the maximum of a frame in a record, and of a block that is kept, in bytes: that of tcpdump
abbrev pub max_unit : ℕ
max_unit = 262144

-- ---- pcap: a magic number, which tells the byte order and the digits of a second

-- the magic number of a file whose times have microseconds
abbrev pub micro_magic : ℕ
micro_magic = 0xA1B2C3D4

-- and of one whose times have nanoseconds
abbrev pub nano_magic : ℕ
nano_magic = 0xA1B23C4D

-- that of microseconds with its bytes turned
abbrev pub turned_micro_magic : ℕ
turned_micro_magic = 0xD4C3B2A1

-- and that of nanoseconds
abbrev pub turned_nano_magic : ℕ
turned_nano_magic = 0x4D3CB2A1

-- what the magic number tells
abbrev pub pcap_by : ℕ → Option Format
pcap_by magic =
    if magic == micro_magic then Some (Pcap Big 6)
    else if magic == nano_magic then Some (Pcap Big 9)
    else if magic == turned_micro_magic then Some (Pcap Little 6)
    else if magic == turned_nano_magic then Some (Pcap Little 9)
    else None

-- the format of a file by its first bytes, the magic number of pcap; none where they aren't one
abbrev pub pcap_of : List ℕ → Option Format
pcap_of head = pcap_by (u32_at Big 0 head)

-- a header of 24 bytes
abbrev pub file_extent : Option Format → Result Extent FaultKind
file_extent None = Err UnknownMagic
file_extent (Some format) = Ok (record { long = 24; whole = true })

-- a record: 16 bytes, of which the third number says how many of a frame follow
abbrev pub record_extent : ℕ → Result Extent FaultKind
record_extent count = if nat_lt max_unit count then Err TooLong else Ok (record { long = 16 + count; whole = true })

-- ---- pcapng: a type, a length, what the block says, and the length again

-- the type of a section header reads alike from both ends
abbrev pub section_type : ℕ
section_type = 0x0A0D0D0A

-- whether a head is that of a section
abbrev pub is_section : List ℕ → Bool
is_section head = u32_at Big 0 head == section_type

-- ---- what a file begins with

-- the magic numbers of pcap
abbrev pub pcap_magics : List ℕ
pcap_magics = micro_magic ∷ nano_magic ∷ turned_micro_magic ∷ turned_nano_magic ∷ []

-- whether bytes begin with this number, its high byte first
abbrev pub begins_with_number : List ℕ → ℕ → Bool
begins_with_number bytes number = bytes_eq (take 4 bytes) (to_be_bytes w32 number)

-- which file of captured frames begins with these bytes: the first four tell it
abbrev pub file_kind_of : List ℕ → Option FileKind
file_kind_of front =
    if begins_with_number front section_type then Some file.Pcapng
    else if list_any (begins_with_number front) pcap_magics then Some file.Pcap
    else None

-- its third number tells the byte order
abbrev pub byte_order_of : List ℕ → Option Order
byte_order_of head =
    if u32_at Big 8 head == 0x1A2B3C4D then Some Big
    else if u32_at Little 8 head == 0x1A2B3C4D then Some Little
    else None

-- an interface, a packet and a simple packet are kept whole, and of other blocks the head and the length at the end
abbrev pub is_passed : ℕ → Bool
is_passed kind = not (kind == 1 || kind == 3 || kind == 6)

-- a block of this type and length, which has at least this many bytes
abbrev pub block_extent : ℕ → ℕ → ℕ → Result Extent FaultKind
block_extent least kind long =
    if nat_lt long least || not (long % 4 == 0) then Err BadLength
    else if is_passed kind then Ok (record { long = long; whole = nat_lt long 16 })
    else if nat_lt max_unit long then Err TooLong
    else Ok (record { long = long; whole = true })

-- the header of a section of this byte order
abbrev pub ordered_extent : Option Order → List ℕ → Result Extent FaultKind
ordered_extent None head = Err UnknownOrder
ordered_extent (Some order) head = block_extent 28 section_type (u32_at order 4 head)

-- how long the header of a section is
abbrev pub section_extent : List ℕ → Result Extent FaultKind
section_extent head = ordered_extent (byte_order_of head) head

-- ---- a unit

-- how long a unit with this head is, and whether all of it is kept
abbrev pub extent_of : Format → List ℕ → Result Extent FaultKind
extent_of (Pcap order digits) head = record_extent (u32_at order 8 head)
extent_of Start head = if is_section head then section_extent head else file_extent (pcap_of head)
extent_of (Section order) head =
    if is_section head then section_extent head else block_extent 12 (u32_at order 0 head) (u32_at order 4 head)

-- as long as its head says
pub record IsUnit (format : Format) (extent : Extent) (unit : List ℕ) : Type 0 where
  pub has_head : head_len format ≤ length unit
  pub extent_is : extent_of format (take (head_len format) unit) ≡ Ok extent
  pub long : length unit ≡ extent.long

-- what is kept of a unit, or of a prefix of one
abbrev pub kept_prefix : Extent → List ℕ → List ℕ
kept_prefix extent unit = if extent.whole then unit else take 12 unit ++ drop (extent.long - 4) unit
