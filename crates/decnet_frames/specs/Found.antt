-- The packets of a capture, and what takes them.
use Rattle.std.specs.Prelude.{◌≡◌, ℕ, List, [], ◌∷◌, ◌++◌, Option}
use Rattle.dap_listing.specs.declared.lines.Direction.{Direction}
use Rattle.decnet_frames.specs.declared.addresses.Nodes.{Nodes}
use Rattle.decnet_frames.specs.declared.taking.Found.{Found}

-- a packet: its way, `frame N TIME` or nothing, its nodes where they are known, and its bytes
pub record FoundPacket : Type 0 where
  pub way : Direction
  pub frame : List ℕ
  pub nodes : Option Nodes
  pub bytes : List ℕ

-- what a taker is given
abbrev pub found_seen : Found → FoundPacket
found_seen f = record { way = f.way; frame = f.frame.now; nodes = f.nodes; bytes = f.packet.now }

-- what a taker may come to by a packet, and the text that it makes of it
abbrev pub Taking : Type 0 → Type 1
Taking T = T → FoundPacket → T → List ℕ → Type 0

-- A taker took these packets, one after the other: the text is what it made of each, joined.
abbrev pub TakesAll : {T : Type 0} → Taking T → T → List FoundPacket → T → List ℕ → Type 0
TakesAll taken old [] new text = (new ≡ old) × (text ≡ [])
TakesAll {T} taken old (found ∷ others) new text =
    (now : T) × (first rest : List ℕ) × taken old found now first × TakesAll taken now others new rest × (text ≡ first ++ rest)
