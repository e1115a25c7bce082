-- The lines of `daplive serve` are what happens to a node: the law `transcripts_are_served`.
use Rattle.std.specs.Prelude.{◌≡◌, ◌≢◌, ◌⊎◌, ◌==◌, ℕ, Bool, false, if◌then◌else◌, List, [], ◌∷◌, ◌++◌, codes, map, Option, Some}
use Rattle.std.specs.List.{AllByRecursion}
use Rattle.std.specs.Io.BufRead.{drop_through, first_line}
use Rattle.hex.specs.Hex.{encode_lower}
use Rattle.linewise.specs.declared.talking.Became.{Became}
use Rattle.linewise.specs.declared.talking.Became.TheVariants.{NoMemory}
use Rattle.dap_end.specs.Headline.{written_bytes}
use Rattle.dap_end.specs.Node.{NodeValue}
use Rattle.dap_network.specs.Happening.{IsNodeWithoutLinks, NodeEvent, NodeRuns, all_came, all_written}
use Rattle.dap_live.specs.declared.node.Node.{Node}
use Rattle.dap_live.specs.declared.node_orders.NodeOrder.TheVariants as order
use Rattle.dap_live.specs.Node.{is_alone}
use Rattle.dap_live.specs.NodeOrders.{node_order_of}

-- ---- The packets that a text lists.

-- the lines of a text, without their ends, where this was there of the first one
abbrev pub lines_after : (begun : List ℕ) → List ℕ → List (List ℕ)
lines_after begun [] = []
lines_after begun (byte ∷ text) = if byte == 10 then begun ∷ lines_after [] text else lines_after (begun ++ byte ∷ []) text

-- a line begins with `<`
abbrev pub is_packet_line : List ℕ → Bool
is_packet_line [] = false
is_packet_line (byte ∷ line) = byte == 60

-- those lines
abbrev pub those_of : List (List ℕ) → List (List ℕ)
those_of [] = []
those_of (line ∷ lines) = if is_packet_line line then line ∷ those_of lines else those_of lines

-- the lines of a text that begin with `<`, without their ends
abbrev pub packet_lines : List ℕ → List (List ℕ)
packet_lines text = those_of (lines_after [] text)

-- the line `< HEX` of a packet that is written, without its end
abbrev pub written_line : List ℕ → List ℕ
written_line bytes = codes "< " ++ encode_lower bytes

-- ---- A line.

-- these are some of those, in their order
abbrev pub AreSome : {A : Type 0} → List A → List A → Type 0
AreSome [] ys = Unit {0}
AreSome (x ∷ xs) [] = ⊥
AreSome (x ∷ xs) (y ∷ ys) = ((x ≡ y) × AreSome xs ys) ⊎ AreSome (x ∷ xs) ys

-- these are the bytes of one packet, that of a line `> HEX`
abbrev pub IsPacketOfLine : (alone : Bool) → (line : List ℕ) → (came : List (List ℕ)) → Type 0
IsPacketOfLine alone line came = (bytes : List ℕ) × (node_order_of alone line ≡ Some (order.Packet bytes)) × (came ≡ bytes ∷ [])

-- What a line did, by these events, and what was answered to it. No packet came, or that of a line `> HEX`. The lines of
-- the answer that begin with `<` are packets that were written, each once and in order; and where memory wasn't refused
-- to the answer, all of them.
pub record LineHappened (alone : Bool) (line : List ℕ) (old new : NodeValue) (answer : List ℕ) (became : Option Became) (events : List NodeEvent) : Type 0 where
  pub runs : NodeRuns old events new
  pub came : (all_came events ≡ []) ⊎ IsPacketOfLine alone line (all_came events)
  pub packets : List (List ℕ)
  pub said : packet_lines answer ≡ map written_line packets
  pub are_some : AreSome packets (written_bytes (all_written events))
  pub are_all : became ≢ Some NoMemory → packets ≡ written_bytes (all_written events)

-- ---- A transcript.

-- The lines of an input up to this suffix are what happened, line by line: all that a line did, and its answer, was
-- before the next one. The text is the answers, joined.
pub data HappensByLine (alone : Bool) : NodeValue → List ℕ → NodeValue → List ℕ → List ℕ → List (Option Became) → List NodeEvent → Type 0 where
  no_line_happened : {v : NodeValue} {input : List ℕ} → HappensByLine alone v input v input [] [] []
  one_line_happened : {old new : NodeValue} {input : List ℕ} (mid : NodeValue) (rest said more : List ℕ) (lines : List (Option Became)) (became : Option Became) (events told : List NodeEvent)
      → HappensByLine alone old input mid rest said lines events → LineHappened alone (first_line rest) mid new more became told
      → HappensByLine alone old input new (drop_through 10 rest) (said ++ more) (lines ++ became ∷ []) (events ++ told)

-- The lines are what happened to a node that had no files and no link, and on which the only link began first, where
-- there is room for one. The lines of the text that begin with `<` are packets that were written, each once and in
-- order; and where memory was refused to no line, all of them.
pub record LinesHappened (one : Node) (input rest text : List ℕ) (lines : List (Option Became)) (new : Node) : Type 0 where
  pub base : NodeValue
  pub is_new : IsNodeWithoutLinks [] base
  pub begun : List NodeEvent
  pub begins : NodeRuns base begun one.node
  pub none_came : all_came begun ≡ []
  pub none_written : all_written begun ≡ []
  pub events : List NodeEvent
  pub by_line : HappensByLine (is_alone one.node) one.node input new.node rest text lines events
  pub runs : NodeRuns base (begun ++ events) new.node
  pub packets : List (List ℕ)
  pub said : packet_lines text ≡ map written_line packets
  pub are_some : AreSome packets (written_bytes (all_written events))
  pub are_all : AllByRecursion (λ became. became ≢ Some NoMemory) lines → packets ≡ written_bytes (all_written events)
