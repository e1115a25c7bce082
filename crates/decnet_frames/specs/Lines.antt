-- The packets of the lines of a capture.
use Rattle.std.specs.Prelude.{◌≡◌, ℕ, ◌||◌, nat_le, nat_lt, Bool, true, false, is_err, is_some, List, [], ◌∷◌, ◌++◌, length, filter, if◌then◌else◌, Option, Some, None, option_map}
use Rattle.std.specs.Option.{option_map_or}
use Rattle.std.specs.Result.{result_unwrap_or}
use Rattle.std.specs.Io.KnownBytes.{Appends}
use Rattle.std.specs.Str.Lines.{lines}
use Rattle.hex.specs.Hex.{decode_of}
use Rattle.linewise.specs.Output.{WritesFront}
use Rattle.linewise.specs.Talks.{ReadsPart, max_line}
use Rattle.linewise.specs.declared.fault.CaptureFault.{CaptureFault}
use Rattle.linewise.specs.declared.fault.CaptureFault.TheVariants.{NoMemory, ReadFailed, WriteFailed}
use Rattle.dap_listing.specs.Lines.{Capture, line_of}
use Rattle.dap_listing.specs.Listing.{packet_limit}
use Rattle.dap_listing.specs.declared.lines.Direction.{Direction}
use Rattle.decnet_frames.specs.Found.{FoundPacket, TakesAll, Taking}
use Rattle.decnet_frames.specs.Founds.{counts_by}
use Rattle.decnet_frames.specs.Origins.{PacketOrigin, origin_of}
use Rattle.decnet_frames.specs.Ways.{way_of}
use Rattle.decnet_frames.specs.declared.tally.Counts.{Counts}
use Rattle.decnet_frames.specs.declared.ways.Between.{Between}
use Rattle.decnet_frames.specs.declared.ways.Between.TheVariants.{All, Two}

-- ---- a line

-- what a line tells of the packet directly after it, unless it is too long
abbrev pub comment_origin : List ℕ → Option PacketOrigin
comment_origin line = if nat_le (length line) max_line then origin_of line else None

-- what is captured in a line, if something is
abbrev pub capture_in : List ℕ → Option Capture
capture_in line = result_unwrap_or (line_of packet_limit line) None

-- a packet with this sign and these bytes, of which the line directly before it tells this
abbrev pub found_by : Option PacketOrigin → Direction → List ℕ → FoundPacket
found_by origin way bytes =
    record { way = way; frame = option_map_or (λ o. o.frame) origin []; nodes = option_map (λ o. o.nodes) origin; bytes = bytes }

-- the packet that is captured, with the bytes that its digits spell
abbrev pub found_in : Option PacketOrigin → Capture → FoundPacket
found_in origin (way, digits) = found_by origin way (result_unwrap_or (decode_of digits) [])

-- a line that is none of a capture, or that is too long: it is reported, and has no packet
abbrev pub is_refused : List ℕ → Bool
is_refused line = nat_lt max_line (length line) || is_err (line_of packet_limit line)

-- ---- lines

-- their packets, where the line before the first one tells this
abbrev pub packets_after : Option PacketOrigin → List (List ℕ) → List FoundPacket
packets_after origin [] = []
packets_after origin (line ∷ others) =
    option_map_or (λ capture. found_in origin capture ∷ []) (capture_in line) [] ++ packets_after (comment_origin line) others

-- the packets of an input
abbrev pub packets_of_lines : List ℕ → List FoundPacket
packets_of_lines input = packets_after None (lines input)

-- whether a packet is taken: between two nodes those that are known to go between them, either way
abbrev pub takes_packet : Between → FoundPacket → Bool
takes_packet All found = true
takes_packet (Two ends) found = option_map_or (λ nodes. is_some (way_of ends nodes)) found.nodes false

-- the packets of an input that are taken
abbrev pub founds_of_lines : Between → List ℕ → List FoundPacket
founds_of_lines between input = filter (takes_packet between) (packets_of_lines input)

-- how many these are, and how many packets are passed over
abbrev pub counts_of_lines : Between → List ℕ → Counts
counts_of_lines between input = counts_by (length (packets_of_lines input)) (founds_of_lines between input)

-- ---- what is written

-- the taker took the packets of an input, their text is written, and these are the counts
abbrev pub LinesListed : {T : Type 0} → Taking T → Between → T → (input : List ℕ) → T → (written holds : Option (List ℕ)) → Counts → Type 0
LinesListed taken between old input new written holds counts =
    (text : List ℕ) × TakesAll taken old (founds_of_lines between input) new text × Appends written holds text × (counts ≡ counts_of_lines between input)

-- these packets are taken of the lines before a rest of the input
pub record HasFounds (between : Between) (input rest : List ℕ) (founds : List FoundPacket) : Type 0 where
  pub front : List ℕ
  pub joined : input ≡ front ++ rest
  pub origin : Option PacketOrigin
  pub are : founds_of_lines between input ≡ founds ++ filter (takes_packet between) (packets_after origin (lines rest))

-- Where the reader fails: the taker took the packets of all lines that were read whole, and their text is written. Where
-- memory is refused: those of some lines from the first on. Where the writer fails: a prefix of such a text is written.
-- A line at fault ends nothing.
abbrev pub LinesFail : {T : Type 0} → Taking T → Between → T → (input : List ℕ) → T → (left written holds : Option (List ℕ)) → CaptureFault → Type 0
LinesFail taken between old input new left written holds ReadFailed =
    (rest : List ℕ) × (founds : List FoundPacket) × (text : List ℕ) × HasFounds between input rest founds × ReadsPart (Some rest) left
    × TakesAll taken old founds new text × Appends written holds text
LinesFail {T} taken between old input new left written holds NoMemory =
    (rest : List ℕ) × (founds : List FoundPacket) × (now : T) × (text : List ℕ) × HasFounds between input rest founds
    × TakesAll taken old founds now text × Appends written holds text
LinesFail {T} taken between old input new left written holds WriteFailed =
    (rest : List ℕ) × (founds : List FoundPacket) × (now : T) × (text : List ℕ) × HasFounds between input rest founds
    × TakesAll taken old founds now text × WritesFront written holds text
LinesFail taken between old input new left written holds _ = ⊥
