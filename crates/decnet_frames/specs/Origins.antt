-- The comment before a packet, and what it says: the frame of the packet, and its nodes.
use Rattle.std.specs.Prelude.{ℕ, ◌+◌, ◌==◌, ◌&&◌, ◌||◌, nat_lt, nat_le, Bool, false, List, [], ◌∷◌, take, drop, length, codes, bytes_eq, if◌then◌else◌, Option, Some, None, option_and_then, option_map}
use Rattle.std.specs.List.{concat, list_all, position}
use Rattle.std.specs.Option.{option_map_or}
use Rattle.std.specs.Char.{is_ascii_digit}
use Rattle.texts.specs.Words.{Words, ends, field, word, words_of}
use Rattle.decnet_frames.specs.Nodes.{node_address_of, pair_text}
use Rattle.decnet_frames.specs.declared.addresses.Nodes.{Nodes}
use Rattle.decnet_frames.specs.declared.origins.Origin.{Origin}

-- where a packet came from: `frame N TIME`, and the nodes that sent and receive it
pub record PacketOrigin : Type 0 where
  pub frame : List ℕ
  pub nodes : Nodes

-- what the program returns
abbrev pub origin_seen : Origin → PacketOrigin
origin_seen o = record { frame = o.frame.now; nodes = o.nodes }

-- ---- as text

-- `# FRAME A.N -> A.N`, without the end of the line
abbrev pub comment_text : (frame : List ℕ) → Nodes → List ℕ
comment_text frame nodes = concat (codes "# " ∷ frame ∷ codes " " ∷ pair_text nodes ∷ [])

-- ---- read

-- at least one digit, and no other byte
abbrev pub is_digits : List ℕ → Bool
is_digits text = nat_lt 0 (length text) && list_all is_ascii_digit text

-- the number of a frame: as many digits as one of 64 bits has
abbrev pub is_number : List ℕ → Bool
is_number text = nat_le (length text) 20 && is_digits text

-- seconds, a point, and parts of a second; or `-`
abbrev pub is_time : List ℕ → Bool
is_time text =
    bytes_eq text (codes "-")
    || option_map_or (λ point. is_digits (take point text) && is_digits (drop (point + 1) text)) (position (λ byte. byte == 46) text) false

-- a word of this kind
abbrev pub if_so : (List ℕ → Bool) → List ℕ → Option (List ℕ)
if_so holds text = if holds text then Some text else None

-- the words `A.N -> A.N`, and none after them
abbrev pub pair_of : Words → Option Nodes
pair_of =
    field node_address_of (λ source. word (codes "->") (field node_address_of (λ destination. ends (record { source = source; destination = destination }))))

-- the number and the time in the words `# frame N TIME`, and the words after them
abbrev pub frame_in : Words → Option ((List ℕ × List ℕ) × Words)
frame_in =
    word (codes "#") (word (codes "frame") (field (if_so is_number) (λ number. field (if_so is_time) (λ time words. Some ((number, time), words)))))

-- `frame N TIME`
abbrev pub frame_by : (number time : List ℕ) → List ℕ
frame_by number time = concat (codes "frame " ∷ number ∷ codes " " ∷ time ∷ [])

-- what a frame and the words of its nodes tell
abbrev pub origin_by : (List ℕ × List ℕ) × Words → Option PacketOrigin
origin_by ((number, time), words) = option_map (λ nodes. record { frame = frame_by number time; nodes = nodes }) (pair_of words)

-- what a line tells, if it is `# frame N TIME A.N -> A.N`
abbrev pub origin_of : List ℕ → Option PacketOrigin
origin_of line = option_and_then origin_by (frame_in (words_of line))
