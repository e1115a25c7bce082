-- Ethernet frames that are made of a routing message, and messages of DECnet Phase IV that are made of an NSP packet.
use Rattle.std.specs.Prelude.{◌≡◌, ◌≢◌, ℕ, ◌+◌, ◌*◌, ◌%◌, ◌^◌, ◌<◌, List, [], ◌∷◌, ◌++◌, length, Option, Some, None}
use Rattle.std.specs.List.{flat_map}
use Rattle.byteorder.specs.Endian.{big_bytes, little_bytes}
use Rattle.decnet_frames.specs.Frames.{Packet}

-- ---- the frame

-- a tag, with two bytes of its own: that of 802.1Q, that of 802.1ad, or that which came before it
pub data FrameTag : Type 0 where
  CustomerTag : (first second : ℕ) → FrameTag
  ServiceTag : (first second : ℕ) → FrameTag
  EarlierTag : (first second : ℕ) → FrameTag

-- its type, and these two bytes
abbrev pub bytes_of_tag : FrameTag → List ℕ
bytes_of_tag (CustomerTag first second) = 0x81 ∷ 0x00 ∷ first ∷ second ∷ []
bytes_of_tag (ServiceTag first second) = 0x88 ∷ 0xA8 ∷ first ∷ second ∷ []
bytes_of_tag (EarlierTag first second) = 0x91 ∷ 0x00 ∷ first ∷ second ∷ []

-- the stations that receive and send a frame, its tags, and what fills it up at its end
pub record Envelope : Type 0 where
  pub receiver : List ℕ
  pub sender : List ℕ
  pub tags : List FrameTag
  pub filler : List ℕ

-- a station has six bytes
pub record IsEnvelope (e : Envelope) : Type 0 where
  pub receiver : length e.receiver ≡ 6
  pub sender : length e.sender ≡ 6

-- a frame as far as its type, which has two bytes
abbrev pub bytes_to_type : Envelope → (kind : ℕ) → List ℕ
bytes_to_type e kind = e.receiver ++ (e.sender ++ (flat_map bytes_of_tag e.tags ++ big_bytes 2 kind))

-- the type of DECnet Phase IV
abbrev pub routing_type : ℕ
routing_type = 0x6003

-- a frame of a routing message: after the type its length, the lowest byte first, the message, and what fills up
abbrev pub bytes_of_frame : Envelope → (message : List ℕ) → List ℕ
bytes_of_frame e message = bytes_to_type e routing_type ++ (little_bytes 2 (length message) ++ (message ++ e.filler))

-- a type of two bytes that is neither this nor that of a tag
pub record IsOtherType (kind : ℕ) : Type 0 where
  pub small : kind < 2 ^ 16
  pub no_routing : kind ≢ routing_type
  pub no_customer : kind ≢ 0x8100
  pub no_service : kind ≢ 0x88A8
  pub no_earlier : kind ≢ 0x9100

-- ---- the message

-- padding: a byte with bit 7 and the count of bytes, with this one, and the others; or none
abbrev pub bytes_of_padding : Option (List ℕ) → List ℕ
bytes_of_padding None = []
bytes_of_padding (Some others) = (0x80 + (1 + length others)) ∷ others

-- at most 127 bytes
abbrev pub IsPadding : Option (List ℕ) → Type 0
IsPadding None = Unit {0}
IsPadding (Some others) = 1 + length others < 128

-- a node: its area, and its number there
pub record NodeAddress : Type 0 where
  pub area : ℕ
  pub number : ℕ

-- six bits and ten
pub record IsNodeAddress (a : NodeAddress) : Type 0 where
  pub area : a.area < 64
  pub number : a.number < 1024

-- both in two bytes
abbrev pub node_of_address : NodeAddress → ℕ
node_of_address a = a.area * 1024 + a.number

-- the two bytes of a node, the lowest first
abbrev pub bytes_of_node : NodeAddress → List ℕ
bytes_of_node a = little_bytes 2 (node_of_address a)

-- the address of a node's station
abbrev pub bytes_of_station : NodeAddress → List ℕ
bytes_of_station a = 0xAA ∷ 0x00 ∷ 0x04 ∷ 0x00 ∷ bytes_of_node a

-- what else a long header has, each one byte: flags, area and subarea of the destination and of the source, a second
-- hop, the count of visits, the class of service and the type of protocol
pub record LongParts : Type 0 where
  pub flags : ℕ
  pub to_area : ℕ
  pub to_subarea : ℕ
  pub from_area : ℕ
  pub from_subarea : ℕ
  pub next_hop : ℕ
  pub visits : ℕ
  pub service : ℕ
  pub protocol : ℕ

-- the header of data: a long one, or a short one, with flags and a count of visits
pub data RoutingHeader : Type 0 where
  LongHeader : LongParts → RoutingHeader
  ShortHeader : (flags visits : ℕ) → RoutingHeader

-- the lower three bits of the flags are 6 in a long header, and 2 in a short one; bit 7 is for padding alone
abbrev pub IsHeader : RoutingHeader → Type 0
IsHeader (LongHeader p) = (p.flags < 128) × (p.flags % 8 ≡ 6)
IsHeader (ShortHeader flags visits) = (flags < 128) × (flags % 8 ≡ 2)

-- its bytes, for data of one node to another
abbrev pub bytes_of_header : RoutingHeader → (source destination : NodeAddress) → List ℕ
bytes_of_header (LongHeader p) source destination =
    (p.flags ∷ p.to_area ∷ p.to_subarea ∷ []) ++ (bytes_of_station destination
    ++ ((p.from_area ∷ p.from_subarea ∷ []) ++ (bytes_of_station source
    ++ (p.next_hop ∷ p.visits ∷ p.service ∷ p.protocol ∷ []))))
bytes_of_header (ShortHeader flags visits) source destination =
    flags ∷ (bytes_of_node destination ++ (bytes_of_node source ++ visits ∷ []))

-- data of one node to another: padding, or none, a header, the nodes, and an NSP packet
pub record MadeData : Type 0 where
  pub padding : Option (List ℕ)
  pub header : RoutingHeader
  pub source : NodeAddress
  pub destination : NodeAddress
  pub packet : List ℕ

-- it can be written, and has some packet
pub record FitsData (d : MadeData) : Type 0 where
  pub padding : IsPadding d.padding
  pub header : IsHeader d.header
  pub source : IsNodeAddress d.source
  pub destination : IsNodeAddress d.destination
  pub some : 0 < length d.packet

-- its message
abbrev pub message_of_data : MadeData → List ℕ
message_of_data d = bytes_of_padding d.padding ++ (bytes_of_header d.header d.source d.destination ++ d.packet)

-- what is read of it
abbrev pub packet_of_data : MadeData → Packet
packet_of_data d = record { source = node_of_address d.source; destination = node_of_address d.destination; packet = d.packet }

-- a message of control, as hello: padding, or none, and flags of which bit 0 is set and bit 7 isn't
abbrev pub message_of_control : Option (List ℕ) → (flags : ℕ) → (rest : List ℕ) → List ℕ
message_of_control padding flags rest = bytes_of_padding padding ++ flags ∷ rest

-- such flags
abbrev pub IsControl : ℕ → Type 0
IsControl flags = (flags < 128) × (flags % 2 ≡ 1)
