-- What a function adds to a text.
use Rattle.std.specs.Prelude.{◌≡◌, ℕ, List, ◌++◌, Ok}
use Rattle.std.specs.Global.{Vec}
use Rattle.hex.specs.Hex.{decode_of}
use Rattle.texts.specs.Adding.{Adds}
use Rattle.dap_listing.specs.Listing.{IsCapturedText, heading}
use Rattle.dap_listing.specs.declared.lines.Direction.{Direction}
use Rattle.dap_listing.specs.declared.listing.Listed.{Listed}

-- the lines of the bytes that the digits spell
abbrev pub AddsCapture : Listed → ℕ → Direction → (digits : List ℕ) → Vec ℕ → Vec ℕ → Type 0
AddsCapture listed number direction digits old new =
    (bytes lines : List ℕ) × (decode_of digits ≡ Ok bytes) × IsCapturedText listed bytes lines × Adds old new (heading number direction ++ lines)
