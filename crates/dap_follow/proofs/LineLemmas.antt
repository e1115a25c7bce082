-- The line of a packet, and its words.
use Rattle.std.proofs.Common.{◌≡◌, ℕ, ◌+◌, ◌-◌, ◌<◌, List, [], ◌∷◌, ◌++◌, codes, length, length-append, take, arith, ap, ◌∙◌, append_assoc}
use Rattle.std.specs.Fmt.{decimal}
use Rattle.std.proofs.Math.Seq.{take-append-add}
use Rattle.texts.specs.Text.{line_feed}
use Rattle.dap_meanings.specs.Meanings.{with_words, words_text}
use Rattle.dap_listing.specs.Listing.{arrow_text, heading}
use Rattle.dap_listing.specs.Packets.{DecodedPacket, seen_line}
use Rattle.decnet_frames.specs.Found.{FoundPacket}
use Rattle.decnet_frames.specs.Nodes.{nodes_text}
use Rattle.dap_follow.specs.Lines.{plain_line}

-- words in the last line of a text
pub words_appended : (words : List (List ℕ)) (old line : List ℕ) → 0 < length line → with_words words (old ++ line) ≡ old ++ with_words words line
words_appended words old line some =
    let count : length (old ++ line) - 1 ≡ length old + (length line - 1) = omega (arith, length-append old line, some) in
    ap (λ (n : ℕ). take n (old ++ line) ++ (words_text words ++ line_feed)) count
    ∙ ap (λ (t : List ℕ). t ++ (words_text words ++ line_feed)) (take-append-add old line (length line - 1))
    ∙ append_assoc old (take (length line - 1) line) (words_text words ++ line_feed)

pub some_line : (number : ℕ) (packet : FoundPacket) (seen : DecodedPacket) → 0 < length (plain_line number packet seen)
some_line number packet seen =
    let rest : List ℕ = arrow_text packet.way ++ (codes " " ++ []) in
    let front = length-append (decimal number) (32 ∷ rest) in
    let all = length-append (heading number packet.way) (nodes_text packet.nodes ++ seen_line seen) in
    omega (arith, front, all)
