-- What the taker of lines of hex makes of packets.
use Rattle.std.proofs.Common.{◌≡◌, ◌∙◌, ap, ℕ, List, [], ◌∷◌, ◌++◌}
use Rattle.decnet_frames.specs.Found.{FoundPacket, TakesAll}
use Rattle.decnet_frames.specs.HexLines.{all_hex_lines, hex_lines, hex_taken}
use Rattle.decnet_frames.specs.declared.hex_lines.HexLines.{HexLines}

-- their lines
pub are_hex_lines : (first last : HexLines) (founds : List FoundPacket) (text : List ℕ) → TakesAll hex_taken first founds last text → text ≡ all_hex_lines founds
are_hex_lines first last [] text (same, none) = none
are_hex_lines first last (found ∷ founds) text (now, one, others, is, more, joined) =
    let rest = are_hex_lines now last founds others more in
    joined ∙ ap (λ (l : List ℕ). l ++ others) is ∙ ap (λ (l : List ℕ). hex_lines found ++ l) rest
