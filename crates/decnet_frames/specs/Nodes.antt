-- Addresses of nodes.
use Rattle.std.specs.Prelude.{ℕ, ◌+◌, ◌*◌, ◌/◌, ◌%◌, ◌==◌, ◌||◌, List, [], ◌∷◌, ◌++◌, codes, take, drop, if◌then◌else◌, Option, Some, None, option_and_then}
use Rattle.std.specs.List.{concat, position}
use Rattle.std.specs.Fmt.{decimal}
use Rattle.texts.specs.Words.{decimal_of}
use Rattle.decnet_frames.specs.declared.addresses.Nodes.{Nodes}

-- ---- as text

-- a node: its area in the upper six bits, and its number there
abbrev pub node_text : ℕ → List ℕ
node_text node = concat (decimal (node / 1024) ∷ codes "." ∷ decimal (node % 1024) ∷ [])

-- `A.N -> A.N`: from one node to another
abbrev pub pair_text : Nodes → List ℕ
pair_text n = concat (node_text n.source ∷ codes " -> " ∷ node_text n.destination ∷ [])

-- the nodes of a packet, and a space after them; nothing where they aren't known
abbrev pub nodes_text : Option Nodes → List ℕ
nodes_text None = []
nodes_text (Some n) = pair_text n ++ codes " "

-- ---- read

-- a node by its area and its number in it
abbrev pub address_by : Option ℕ → Option ℕ → Option ℕ
address_by (Some area) (Some number) = Some (area * 1024 + number)
address_by _ _ = None

-- the node of an address as 1.10: an area up to 63, a point, and a number up to 1,023
abbrev pub node_address_of : List ℕ → Option ℕ
node_address_of text =
    option_and_then (λ point. address_by (decimal_of 63 (take point text)) (decimal_of 1023 (drop (point + 1) text))) (position (λ byte. byte == 46) text)

-- an address in which neither is 0
abbrev pub node_of : List ℕ → Option ℕ
node_of text = option_and_then (λ node. if (node / 1024 == 0) || (node % 1024 == 0) then None else Some node) (node_address_of text)
