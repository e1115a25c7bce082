-- The NSP packet of an Ethernet frame, by DECnet Phase IV.
use Rattle.std.specs.Prelude.{◌≡◌, ℕ, ◌+◌, ◌-◌, ◌*◌, ◌%◌, ◌==◌, ◌&&◌, ◌||◌, nat_lt, nat_le, Bool, List, [], ◌∷◌, take, drop, length, slice_index, if◌then◌else◌, Result, Ok, Err}
use Rattle.byteorder.specs.Endian.{little_number}
use Rattle.dap_listing.specs.Listing.{packet_limit}
use Rattle.decnet_frames.specs.declared.packet.Carried.{Carried}
use Rattle.decnet_frames.specs.declared.packet.Passed.{Passed}
use Rattle.decnet_frames.specs.declared.packet.Passed.TheVariants.{OtherFrame, CutShort, OtherMessage, TooLong, ToItself}

-- ---- the frame: two stations of six bytes, tags, a type, and what is carried

-- the type of a tag of 802.1Q, of 802.1ad, and that which came before it
abbrev pub is_tag : ℕ → ℕ → Bool
is_tag high low = (high == 0x81 && low == 0x00) || (high == 0x88 && low == 0xA8) || (high == 0x91 && low == 0x00)

-- without the tags, of four bytes each
abbrev pub bytes_after_tags : List ℕ → List ℕ
bytes_after_tags (high ∷ low ∷ one ∷ other ∷ rest) = if is_tag high low then bytes_after_tags rest else high ∷ low ∷ one ∷ other ∷ rest
bytes_after_tags bytes = bytes

-- two bytes of length, the lowest first, and that many bytes; what follows fills the frame
abbrev pub bytes_by_length : List ℕ → Result (List ℕ) Passed
bytes_by_length (low ∷ high ∷ rest) =
    if (low + 256 * high == 0) || nat_lt (length rest) (low + 256 * high) then Err CutShort else Ok (take (low + 256 * high) rest)
bytes_by_length bytes = Err CutShort

-- the type of DECnet Phase IV is 60-03
abbrev pub payload_by_type : List ℕ → Result (List ℕ) Passed
payload_by_type (high ∷ low ∷ rest) = if high == 0x60 && low == 0x03 then bytes_by_length rest else Err OtherFrame
payload_by_type bytes = Err OtherFrame

-- the routing message of a frame
abbrev pub routing_message : List ℕ → Result (List ℕ) Passed
routing_message frame = if nat_lt (length frame) 12 then Err OtherFrame else payload_by_type (bytes_after_tags (drop 12 frame))

-- ---- the message: padding, a routing header, and an NSP packet

-- A byte with bit 7 begins padding: the other bits count its bytes, with this one.
abbrev pub packet_after_padding : List ℕ → Result (List ℕ) Passed
packet_after_padding [] = Err CutShort
packet_after_padding (first ∷ rest) =
    if nat_lt first 0x80 then Ok (first ∷ rest)
    else if nat_le (length (first ∷ rest)) (first - 0x80) then Err CutShort
    else Ok (drop (first - 0x80) (first ∷ rest))

-- an NSP packet, and the nodes that sent and receive it
pub record Packet : Type 0 where
  pub source : ℕ
  pub destination : ℕ
  pub packet : List ℕ

-- the address of a node at an offset: AA-00-04-00, and the two bytes of its number
abbrev pub is_node : ℕ → List ℕ → Bool
is_node at m = slice_index m at == 0xAA && slice_index m (at + 1) == 0 && slice_index m (at + 2) == 4 && slice_index m (at + 3) == 0

-- the number of two bytes at an offset
abbrev pub number_at : ℕ → List ℕ → ℕ
number_at at m = little_number 2 (drop at m)

-- long: flags, area and subarea of the destination, its address, which ends with its number, the same of the source,
-- and four bytes
abbrev pub long_of : List ℕ → Result Packet Passed
long_of m =
    if nat_lt (length m) 22 then Err CutShort
    else if is_node 3 m && is_node 11 m then Ok (record { source = number_at 15 m; destination = number_at 7 m; packet = drop 21 m })
    else Err OtherMessage

-- short: flags, the numbers of destination and source, and one byte
abbrev pub short_of : List ℕ → Result Packet Passed
short_of m =
    if nat_lt (length m) 7 then Err CutShort
    else Ok (record { source = number_at 3 m; destination = number_at 1 m; packet = drop 6 m })

-- the lower three bits of the flags tell the header of data; bit 7 is for padding alone
abbrev pub packet_by_flags : List ℕ → Result Packet Passed
packet_by_flags [] = Err CutShort
packet_by_flags (flags ∷ rest) =
    if nat_le 0x80 flags then Err OtherMessage
    else if flags % 8 == 6 then long_of (flags ∷ rest)
    else if flags % 8 == 2 then short_of (flags ∷ rest)
    else Err OtherMessage

-- what is read is read on
abbrev pub and_then : {A B : Type 0} → Result A Passed → (A → Result B Passed) → Result B Passed
and_then (Ok x) f = f x
and_then (Err e) f = Err e

-- what a frame has after the padding and the routing header
abbrev pub data_of : List ℕ → Result Packet Passed
data_of frame = and_then (routing_message frame) (λ message. and_then (packet_after_padding message) packet_by_flags)

-- a packet that a line may have, between two nodes
abbrev pub fitting : Packet → Result Packet Passed
fitting p =
    if nat_lt packet_limit (length p.packet) then Err TooLong
    else if p.source == p.destination then Err ToItself
    else Ok p

-- the NSP packet in a frame
abbrev pub nsp_packet_of : List ℕ → Result Packet Passed
nsp_packet_of frame = and_then (data_of frame) fitting

-- a packet of the program
abbrev pub carried_of : Carried → Packet
carried_of c = record { source = c.source; destination = c.destination; packet = c.packet.now }

-- what a function returned, seen as the definitions see it, is what is read
abbrev pub FindsAs : {X Y : Type 0} → (X → Y) → Result X Passed → Result Y Passed → Type 0
FindsAs view (Ok x) read = read ≡ Ok (view x)
FindsAs view (Err e) read = read ≡ Err e
