-- The packets that are found in the frames of a capture file, and how many.
use Rattle.std.specs.Prelude.{ℕ, ◌+◌, ◌-◌, List, [], ◌∷◌, ◌++◌, length, if◌then◌else◌, Option, Some, None, Result, Ok, Err}
use Rattle.dap_listing.specs.declared.lines.Direction.{Direction}
use Rattle.capture_file.specs.Files.{bounded_count}
use Rattle.capture_file.specs.Meanings.{Record}
use Rattle.capture_file.specs.declared.meaning.Time.{Time}
use Rattle.decnet_frames.specs.Found.{FoundPacket}
use Rattle.decnet_frames.specs.Frames.{Packet, nsp_packet_of}
use Rattle.decnet_frames.specs.Times.{frame_text}
use Rattle.decnet_frames.specs.Ways.{nodes_of, pairs_after, way_in}
use Rattle.decnet_frames.specs.declared.packet.Passed.{Passed}
use Rattle.decnet_frames.specs.declared.packet.Passed.TheVariants.{OtherFrame}
use Rattle.decnet_frames.specs.declared.tally.Counts.{Counts}
use Rattle.decnet_frames.specs.declared.ways.Between.{Between}
use Rattle.decnet_frames.specs.declared.ways.Ends.{Ends}

-- ---- a captured frame

-- the NSP packet of a captured frame
abbrev pub packet_in : Record → Result Packet Passed
packet_in r = if r.is_ethernet then nsp_packet_of r.bytes else Err OtherFrame

-- a packet with its sign, if it has one
abbrev pub found_as : Option Direction → ℕ → Option Time → Packet → List FoundPacket
found_as None number time p = []
found_as (Some way) number time p =
    record { way = way; frame = frame_text number time; nodes = Some (nodes_of p); bytes = p.packet } ∷ []

-- the packet that is taken of what was read of a frame, by the pairs of nodes before it
abbrev pub seen_founds : Between → List Ends → ℕ → Option Time → Result Packet Passed → List FoundPacket
seen_founds between pairs number time (Ok p) = found_as (way_in between pairs (nodes_of p)) number time p
seen_founds between pairs number time (Err passed) = []

-- the packet that is taken of a captured frame, which has this number
abbrev pub record_founds : Between → List Ends → ℕ → Record → List FoundPacket
record_founds between pairs number r = seen_founds between pairs number r.time (packet_in r)

-- the pairs of nodes after what was read of a frame
abbrev pub seen_pairs : Between → List Ends → Result Packet Passed → List Ends
seen_pairs between pairs (Ok p) = pairs_after between pairs (nodes_of p)
seen_pairs between pairs (Err passed) = pairs

-- and after a captured frame
abbrev pub record_pairs : Between → List Ends → Record → List Ends
record_pairs between pairs r = seen_pairs between pairs (packet_in r)

-- ---- captured frames

-- the packets that are taken of them, after this many frames with these pairs of nodes
abbrev pub founds_from : Between → List Ends → ℕ → List Record → List FoundPacket
founds_from between pairs count [] = []
founds_from between pairs count (r ∷ records) =
    record_founds between pairs (bounded_count (count + 1)) r ++ founds_from between (record_pairs between pairs r) (bounded_count (count + 1)) records

-- the packets that are taken of a file with these captured frames
abbrev pub founds_of_file : Between → List Record → List FoundPacket
founds_of_file between records = founds_from between [] 0 records

-- how many packets are taken of this many frames, and how many frames are passed over
abbrev pub counts_by : ℕ → List FoundPacket → Counts
counts_by count founds =
    let taken = bounded_count (length founds) in
    record { taken = taken; passed = bounded_count count - taken }

-- those of a file
abbrev pub counts_of_file : Between → List Record → Counts
counts_of_file between records = counts_by (length records) (founds_of_file between records)
