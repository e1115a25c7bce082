-- The lines of segments that are sent again.
use Rattle.std.specs.Prelude.{ℕ, ◌+◌, List, Some}
use Rattle.std.specs.Global.{Vec}
use Rattle.nsp_link.specs.Link.{LinkValue}
use Rattle.texts.specs.Adding.{Adds}
use Rattle.nsp_link.specs.Sending.{WritesSent}
use Rattle.dap_live.specs.Texts.{packet_text, packets_text}
use Rattle.dap_live.specs.Sending.{AllAgain}

abbrev pub AddsAgain : LinkValue → Vec ℕ → Vec ℕ → Type 0
AddsAgain link old new = (packets : List (List ℕ)) × AllAgain link packets × Adds old new (packets_text packets)

abbrev pub AddsOneAgain : LinkValue → (index : ℕ) → Vec ℕ → Vec ℕ → Type 0
AddsOneAgain link index old new =
    (bytes : List ℕ) × WritesSent link (Some (link.acked + 1 + index)) bytes × Adds old new (packet_text bytes)
