-- What a writer of pcap writes (pcap, 4 and 5).
use Rattle.std.specs.Prelude.{ℕ, ◌+◌, ◌*◌, ◌^◌, ◌<◌, ◌≤◌, true, List, ◌++◌, length, Some}
use Rattle.std.specs.List.{flat_map}
use Rattle.byteorder.specs.Endian.{big_bytes, little_bytes}
use Rattle.capture_file.specs.Units.{max_unit}
use Rattle.capture_file.specs.Meanings.{Record}
use Rattle.capture_file.specs.declared.units.Order.{Order}
use Rattle.capture_file.specs.declared.units.Order.TheVariants.{Big, Little}

-- a number of this many bytes
abbrev pub number_bytes : Order → ℕ → ℕ → List ℕ
number_bytes Big n number = big_bytes n number
number_bytes Little n number = little_bytes n number

-- ---- the header

-- which parts of a second a file counts
pub data SecondParts : Type 0 where
  Millionths : SecondParts
  Billionths : SecondParts

-- the magic number tells them
abbrev pub magic_of : SecondParts → ℕ
magic_of Millionths = 0xA1B2C3D4
magic_of Billionths = 0xA1B23C4D

-- how many a second has
abbrev pub parts_of_second : SecondParts → ℕ
parts_of_second Millionths = 1000000
parts_of_second Billionths = 1000000000

-- and of how many digits they are
abbrev pub digits_of : SecondParts → ℕ
digits_of Millionths = 6
digits_of Billionths = 9

-- what else a header says: the version, two numbers of no meaning, the maximum of a frame, and the 16 bits above the
-- link type
pub record PcapHeader : Type 0 where
  pub major : ℕ
  pub minor : ℕ
  pub reserved : ℕ
  pub other : ℕ
  pub limit : ℕ
  pub above : ℕ

-- the magic number, these, and the link type of Ethernet, which is 1
abbrev pub file_header_bytes : Order → SecondParts → PcapHeader → List ℕ
file_header_bytes order parts h =
    number_bytes order 4 (magic_of parts) ++ (number_bytes order 2 h.major ++ (number_bytes order 2 h.minor ++ (number_bytes order 4 h.reserved
    ++ (number_bytes order 4 h.other ++ (number_bytes order 4 h.limit ++ number_bytes order 4 (h.above * 65536 + 1))))))

-- ---- a record

-- a captured frame: seconds, parts of one, its bytes, and how many it had before it was captured
pub record Frame : Type 0 where
  pub seconds : ℕ
  pub parts : ℕ
  pub bytes : List ℕ
  pub long : ℕ

-- its numbers have at most four bytes, and it has at most as many bytes as are read
pub record FitsFrame (frame : Frame) : Type 0 where
  pub seconds : frame.seconds < 2 ^ 32
  pub parts : frame.parts < 2 ^ 32
  pub bytes : length frame.bytes ≤ max_unit

-- the time, how many bytes are there, how many there were, and the bytes
abbrev pub record_bytes : Order → Frame → List ℕ
record_bytes order frame =
    number_bytes order 4 frame.seconds ++ (number_bytes order 4 frame.parts
    ++ (number_bytes order 4 (length frame.bytes) ++ (number_bytes order 4 frame.long ++ frame.bytes)))

-- ---- a file

-- a header, and a record for each frame
abbrev pub pcap_bytes : Order → SecondParts → PcapHeader → List Frame → List ℕ
pcap_bytes order parts header frames = file_header_bytes order parts header ++ flat_map (record_bytes order) frames

-- and what is read of it
abbrev pub record_of_frame : SecondParts → Frame → Record
record_of_frame parts frame =
    record { time = Some (record { parts = frame.seconds * parts_of_second parts + frame.parts; resolution = digits_of parts; offset = 0 }); is_ethernet = true; bytes = frame.bytes }
