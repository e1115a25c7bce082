-- A packet as lines of hex: a comment, where its frame and nodes are known, and its sign and bytes.
use Rattle.std.specs.Prelude.{◌≡◌, ℕ, List, [], ◌∷◌, ◌++◌, codes, Option, Some, None}
use Rattle.std.specs.List.{concat, flat_map}
use Rattle.hex.specs.Hex.{encode_lower}
use Rattle.texts.specs.Text.{line_feed}
use Rattle.dap_listing.specs.Listing.{arrow_text}
use Rattle.dap_listing.specs.declared.lines.Direction.{Direction}
use Rattle.decnet_frames.specs.Found.{FoundPacket}
use Rattle.decnet_frames.specs.Origins.{comment_text}
use Rattle.decnet_frames.specs.declared.addresses.Nodes.{Nodes}
use Rattle.decnet_frames.specs.declared.hex_lines.HexLines.{HexLines}
use Rattle.decnet_frames.specs.declared.hex_lines.Nothing.{Nothing}

-- the comment, if there is one
abbrev pub comment_line : (frame : List ℕ) → Option Nodes → List ℕ
comment_line [] nodes = []
comment_line (first ∷ others) None = []
comment_line (first ∷ others) (Some nodes) = comment_text (first ∷ others) nodes ++ line_feed

-- the line of a packet
abbrev pub data_line : Direction → List ℕ → List ℕ
data_line way packet = concat (arrow_text way ∷ codes " " ∷ encode_lower packet ∷ line_feed ∷ [])

-- both
abbrev pub hex_lines : FoundPacket → List ℕ
hex_lines found = comment_line found.frame found.nodes ++ data_line found.way found.bytes

-- those of packets
abbrev pub all_hex_lines : List FoundPacket → List ℕ
all_hex_lines founds = flat_map hex_lines founds

-- what `HexLines` makes of a packet
abbrev pub hex_taken : HexLines → FoundPacket → HexLines → List ℕ → Type 0
hex_taken old found new text = text ≡ hex_lines found

-- what `Nothing` makes of one
abbrev pub nothing_taken : Nothing → FoundPacket → Nothing → List ℕ → Type 0
nothing_taken old found new text = text ≡ []
