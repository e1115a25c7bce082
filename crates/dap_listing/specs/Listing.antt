-- The listing of a capture: of packets, or of NSP messages.
use Rattle.std.specs.Prelude.{◌≡◌, ℕ, ◌+◌, false, List, [], ◌∷◌, ◌++◌, length, codes, Option, None, option_map, Result, Ok}
use Rattle.std.specs.List.{concat, filter_map, enumerate_from}
use Rattle.std.specs.Fmt.{decimal}
use Rattle.std.specs.Result.{result_err, result_unwrap_or}
use Rattle.std.specs.Str.Lines.{lines}
use Rattle.hex.specs.Hex.{decode_of}
use Rattle.dap_msg.specs.BothEnds.{max_nsp_message}
use Rattle.dap_listing.specs.Lines.{Capture, line_of}
use Rattle.dap_listing.specs.Packets.{IsPacketText}
use Rattle.texts.specs.Text.{line_feed}
use Rattle.dap_listing.specs.Messages.{IsMessagesText}
use Rattle.linewise.specs.Gives.{GivesText}
use Rattle.dap_listing.specs.declared.listing.Listed.{Listed}
use Rattle.dap_listing.specs.declared.listing.Listed.TheVariants.{Packets, Messages}
use Rattle.dap_listing.specs.declared.lines.Direction.{Direction}
use Rattle.dap_listing.specs.declared.lines.Direction.TheVariants.{Right, Left}
use Rattle.linewise.specs.declared.fault.Outcome.{Outcome}
use Rattle.linewise.specs.declared.fault.Outcome.TheVariants.{Good}
use Rattle.linewise.specs.declared.fault.CaptureFault.{CaptureFault}

-- the faults of the lines, in order; the first line has this number
abbrev pub faults_from : ℕ → ℕ → List ℕ → List CaptureFault
faults_from limit number bytes =
    filter_map (λ (index, line). option_map (λ fault. fault index) (result_err (line_of limit line))) (enumerate_from number (lines bytes))

-- what was captured, in order
abbrev pub captures : ℕ → List ℕ → List Capture
captures limit input = filter_map (λ line. result_unwrap_or (line_of limit line) None) (lines input)

-- the direction
abbrev pub arrow_text : Direction → List ℕ
arrow_text Right = codes ">"
arrow_text Left = codes "<"

-- the number of what was captured, and its direction
abbrev pub heading : ℕ → Direction → List ℕ
heading number direction = concat (decimal number ∷ codes " " ∷ arrow_text direction ∷ codes " " ∷ [])

-- What is listed after the number and the direction: the lines of a packet, or of an NSP message its length and its
-- messages.
abbrev pub IsCapturedText : Listed → List ℕ → List ℕ → Type 0
IsCapturedText Packets bytes text = IsPacketText bytes text
IsCapturedText Messages bytes text = (messages : List ℕ) × IsMessagesText false bytes messages
    × (text ≡ concat (codes "message len=" ∷ decimal (length bytes) ∷ line_feed ∷ []) ++ messages)

-- the maximum of a packet in bytes
abbrev pub packet_limit : ℕ
packet_limit = 4096

-- the maximum of the bytes that a line has in hex
abbrev pub line_limit : Listed → ℕ
line_limit Packets = packet_limit
line_limit Messages = max_nsp_message

-- the lines of all that was captured, numbered from this number; by the law `listings_are_one` there is one listing
pub data CaptureLines (listed : Listed) : ℕ → List Capture → List ℕ → Type 0 where
  no_capture_more : {number : ℕ} → CaptureLines listed number [] []
  one_capture_more : {number : ℕ} {direction : Direction} {digits : List ℕ} {others : List Capture} (bytes first rest : List ℕ)
      → decode_of digits ≡ Ok bytes → IsCapturedText listed bytes first → CaptureLines listed (number + 1) others rest
      → CaptureLines listed number ((direction, digits) ∷ others) ((heading number direction ++ first) ++ rest)

-- what `show` and `messages` do with an input
abbrev pub ListingGives : Listed → List ℕ → Option (List ℕ) → Option (List ℕ)
    → Result Outcome CaptureFault → Type 0
ListingGives listed input =
    GivesText (faults_from (line_limit listed) 1 input)
    (λ outcome text. (outcome ≡ Good) × CaptureLines listed 1 (captures (line_limit listed) input) text) input
