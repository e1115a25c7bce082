-- What a unit says, by what is kept of it, and how the file continues after it.
use Rattle.std.specs.Prelude.{ℕ, zero, suc, ◌+◌, ◌-◌, ◌*◌, ◌/◌, ◌%◌, ◌==◌, nat_lt, nat_le, min, Bool, true, false, List, [], ◌∷◌, ◌++◌, take, drop, length, slice_get, slice_range, if◌then◌else◌, Option, Some, None, Result, Ok, Err}
use Rattle.capture_file.specs.Numbers.{u16_at, u32_at, u64_at}
use Rattle.capture_file.specs.Units.{is_section, byte_order_of, pcap_of}
use Rattle.capture_file.specs.declared.fault.FaultKind.{FaultKind}
use Rattle.capture_file.specs.declared.fault.FaultKind.TheVariants.{UnknownMagic, UnknownOrder, OtherLink, BadLength, TooManyInterfaces}
use Rattle.capture_file.specs.declared.units.Order.{Order}
use Rattle.capture_file.specs.declared.units.Format.{Format}
use Rattle.capture_file.specs.declared.units.Format.TheVariants.{Start, Pcap, Section}
use Rattle.capture_file.specs.declared.meaning.Time.{Time}
use Rattle.capture_file.specs.declared.meaning.Interface.{Interface}
use Rattle.capture_file.specs.declared.meaning.Given.{Given}
use Rattle.capture_file.specs.declared.meaning.Meaning.{Meaning}
use Rattle.capture_file.specs.declared.meaning.Meaning.TheVariants.{Begins, Describes, Gives, Nothing}

-- ---- pcap

-- the header's last number has the link type in its lower 16 bits: 1 is Ethernet
abbrev pub file_header_of : Option Format → List ℕ → Result Meaning FaultKind
file_header_of (Some (Pcap order digits)) kept =
    if u32_at order 20 kept % 65536 == 1 then Ok (Begins (Pcap order digits)) else Err OtherLink
file_header_of _ kept = Err UnknownMagic

-- what a header says
abbrev pub file_meaning : List ℕ → Result Meaning FaultKind
file_meaning kept =
    if nat_lt (length kept) 24 then Err BadLength else file_header_of (pcap_of kept) kept

-- a record has seconds, and parts of a second
abbrev pub record_meaning : Order → ℕ → List ℕ → Result Meaning FaultKind
record_meaning order digits kept =
    if nat_lt (length kept) 16 then Err BadLength
    else Ok (Gives (record {
      time = Some (record { parts = u32_at order 0 kept * (if digits == 9 then 1000000000 else 1000000) + u32_at order 4 kept; resolution = digits; offset = 0 });
      is_ethernet = true;
      from = 16;
      count = length kept - 16;
    }))

-- ---- pcapng

-- the length at a block's end is that in its head
abbrev pub ends_well : Order → List ℕ → Bool
ends_well order kept = u32_at order (length kept - 4) kept == u32_at order 4 kept

-- a section has a byte order
abbrev pub section_of : Option Order → List ℕ → Result Meaning FaultKind
section_of None kept = Err UnknownOrder
section_of (Some order) kept = if ends_well order kept then Ok (Begins (Section order)) else Err BadLength

-- what the header of a section says
abbrev pub section_meaning : List ℕ → Result Meaning FaultKind
section_meaning kept = section_of (byte_order_of kept) kept

-- The value of the first option of a code, among at most this many. An option has a code, a length and that many
-- bytes, which are padded to a multiple of four; code 0 ends them.
abbrev pub value_from : (most : ℕ) → Order → (code : ℕ) → List ℕ → Option (List ℕ)
value_from zero order code options = None
value_from (suc n) order code options =
    if nat_lt (length options) 4 then None
    else if u16_at order 0 options == 0 then None
    else (let value = drop 4 options in
    if u16_at order 0 options == code then Some (take (min (u16_at order 2 options) (length value)) value)
    else value_from n order code (drop (min ((u16_at order 2 options + 3) / 4 * 4) (length value)) value))

-- the resolution of times is option 9, of one byte; without it, times are in millionths of a second
abbrev pub resolution_in : Option (List ℕ) → ℕ
resolution_in (Some (resolution ∷ others)) = resolution
resolution_in _ = 6

-- the resolution by the options of an interface
abbrev pub resolution_of : Order → List ℕ → ℕ
resolution_of order options = resolution_in (value_from (length options) order 9 options)

-- the seconds that are added to times are option 14, of eight bytes; without it, none are
abbrev pub offset_in : Order → Option (List ℕ) → ℕ
offset_in order None = 0
offset_in order (Some value) = if length value == 8 then u64_at order 0 value else 0

-- the seconds that are added, by the options of an interface
abbrev pub offset_of : Order → List ℕ → ℕ
offset_of order options = offset_in order (value_from (length options) order 14 options)

-- an interface has a link type, a limit of captured bytes and options
abbrev pub interface_meaning : Order → ℕ → List ℕ → Result Meaning FaultKind
interface_meaning order count kept =
    if nat_lt (length kept) 20 then Err BadLength
    else if nat_le 1024 count then Err TooManyInterfaces
    else (let options = slice_range kept 16 (length kept - 4) in
    Ok (Describes (record {
      is_ethernet = u16_at order 8 kept == 1;
      limit = u32_at order 12 kept;
      resolution = resolution_of order options;
      offset = offset_of order options;
    })))

-- a packet of an interface, with a time, and how many bytes of its frame are there; without a declared interface it is
-- passed over
abbrev pub given_of : Option Interface → (parts count : ℕ) → Given
given_of None parts count = record { time = None; is_ethernet = false; from = 28; count = count }
given_of (Some i) parts count =
    record { time = Some (record { parts = parts; resolution = i.resolution; offset = i.offset }); is_ethernet = i.is_ethernet; from = 28; count = count }

-- what the block of a packet says
abbrev pub enhanced_meaning : Order → List Interface → List ℕ → Result Meaning FaultKind
enhanced_meaning order interfaces kept =
    if nat_lt (length kept) 32 then Err BadLength
    else if nat_lt (length kept) (32 + u32_at order 20 kept) then Err BadLength
    else Ok (Gives (given_of (slice_get interfaces (u32_at order 8 kept)) (u32_at order 12 kept * 4294967296 + u32_at order 16 kept) (u32_at order 20 kept)))

-- a simple packet is one of the first interface, which is one of Ethernet or not
abbrev pub is_first_ethernet : List Interface → Bool
is_first_ethernet [] = false
is_first_ethernet (first ∷ others) = first.is_ethernet

-- how many bytes of a frame of that length the first interface captures: a limit of 0 is none
abbrev pub captured_count : List Interface → ℕ → ℕ
captured_count [] count = count
captured_count (first ∷ others) count = if first.limit == 0 then count else min count first.limit

-- a simple packet has the length of its frame, and what was captured of it
abbrev pub simple_meaning : Order → List Interface → List ℕ → Result Meaning FaultKind
simple_meaning order interfaces kept =
    if nat_lt (length kept) 16 then Err BadLength
    else Ok (Gives (record { time = None; is_ethernet = is_first_ethernet interfaces; from = 12; count = min (captured_count interfaces (u32_at order 8 kept)) (length kept - 16) }))

-- other blocks are passed over
abbrev pub kind_meaning : Order → List Interface → List ℕ → ℕ → Result Meaning FaultKind
kind_meaning order interfaces kept kind =
    if kind == 1 then interface_meaning order (length interfaces) kept
    else if kind == 3 then simple_meaning order interfaces kept
    else if kind == 6 then enhanced_meaning order interfaces kept
    else Ok Nothing

-- what a block says that begins no section
abbrev pub block_meaning : Order → List Interface → List ℕ → Result Meaning FaultKind
block_meaning order interfaces kept =
    if ends_well order kept then kind_meaning order interfaces kept (u32_at order 0 kept) else Err BadLength

-- ---- a unit

-- what a unit says, in a file of this format and with these interfaces
abbrev pub meaning_of : Format → List Interface → List ℕ → Result Meaning FaultKind
meaning_of (Pcap order digits) interfaces kept = record_meaning order digits kept
meaning_of Start interfaces kept = if is_section kept then section_meaning kept else file_meaning kept
meaning_of (Section order) interfaces kept = if is_section kept then section_meaning kept else block_meaning order interfaces kept

-- the format after it
abbrev pub format_after : Format → Meaning → Format
format_after format (Begins next) = next
format_after format _ = format

-- the interfaces of the section after it: a new section has none
abbrev pub interfaces_after : List Interface → Meaning → List Interface
interfaces_after interfaces (Begins next) = []
interfaces_after interfaces (Describes interface) = interfaces ++ interface ∷ []
interfaces_after interfaces _ = interfaces

-- a captured frame: its time, whether it is one of Ethernet, and its bytes
pub record Record : Type 0 where
  pub time : Option Time
  pub is_ethernet : Bool
  pub bytes : List ℕ

-- the frame that was found in what is kept
abbrev pub frame_record : List ℕ → Given → Record
frame_record kept given = record { time = given.time; is_ethernet = given.is_ethernet; bytes = take given.count (drop given.from kept) }

-- the frames of a unit: one, or none
abbrev pub records_of : List ℕ → Meaning → List Record
records_of kept (Gives given) = frame_record kept given ∷ []
records_of kept _ = []
