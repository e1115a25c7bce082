-- Which messages a function of the program lists.
use Rattle.std.specs.Prelude.{◌≡◌, ◌&&◌, MatchBool, ℕ, Bool, false, List, []}
use Rattle.dap_listing.specs.Messages.{IsMessagesText}

-- those of a segment
abbrev pub SegmentMessages : Bool → Bool → List ℕ → List ℕ → Type 0
SegmentMessages first last payload lines = MatchBool (first && last) (IsMessagesText false payload lines) (lines ≡ [])
