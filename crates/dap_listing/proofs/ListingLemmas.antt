-- The lines of what was captured from an offset of the input on.
use Rattle.std.proofs.Common.{◌≡◌, ◌+◌, ◌++◌, ℕ, List, ◌∷◌, ap, ◌∙◌, refl, Ok, Some, None}
use Rattle.std.specs.List.{filter_map, enumerate_from}
use Rattle.std.specs.Str.Lines.{lines}
use Rattle.std.proofs.lemmas.List.{append_assoc}
use Rattle.hex.specs.Hex.{decode_of}
use Rattle.dap_listing.specs.Lines.{Capture, line_of}
use Rattle.dap_listing.specs.Listing.{CaptureLines, IsCapturedText, captures, heading, one_capture_more, faults_from}
use Rattle.dap_listing.specs.Inner.Lines.{fault_of_line}
use Rattle.std.specs.Result.{result_unwrap_or}
use Rattle.dap_listing.specs.declared.lines.Direction.{Direction}
use Rattle.dap_listing.specs.declared.listing.Listed.{Listed}
use Rattle.linewise.specs.declared.fault.CaptureFault.{CaptureFault}

faults_of : ℕ → ℕ → List (List ℕ) → List CaptureFault
faults_of limit number parts = filter_map (λ (index, line). fault_of_line index (line_of limit line)) (enumerate_from number parts)

captures_of : ℕ → List (List ℕ) → List Capture
captures_of limit = filter_map (λ line. result_unwrap_or (line_of limit line) None)

captured_first : (limit : ℕ) (rest line after : List ℕ) (direction : Direction) (digits : List ℕ) → lines rest ≡ line ∷ lines after
    → Ok (Some (direction, digits)) ≡ line_of limit line → captures limit rest ≡ (direction, digits) ∷ captures limit after
unfolding captures_of
captured_first limit rest line after direction digits cut says = ap (captures_of limit) cut ∙ rw (← says) refl

pub captured_more : (listed : Listed) (limit start : ℕ) (all : List Capture) (rest line after text new : List ℕ) (direction : Direction) (digits bytes said : List ℕ) (number : ℕ)
    → lines rest ≡ line ∷ lines after → Ok (Some (direction, digits)) ≡ line_of limit line
    → decode_of digits ≡ Ok bytes → IsCapturedText listed bytes said → new ≡ text ++ (heading number direction ++ said)
    → ((more : List ℕ) → CaptureLines listed number (captures limit rest) more → CaptureLines listed start all (text ++ more))
    → (more : List ℕ) → CaptureLines listed (number + 1) (captures limit after) more → CaptureLines listed start all (new ++ more)
captured_more listed limit start all rest line after text new direction digits bytes said number cut says decoded text_is appended goes_on more others =
    let first = captured_first limit rest line after direction digits cut says in
    let whole = goes_on ((heading number direction ++ said) ++ more) (rw first (one_capture_more bytes said more decoded text_is others)) in
    rw (appended, append_assoc text (heading number direction ++ said) more) whole

pub skipped_more : (listed : Listed) (limit start : ℕ) (all : List Capture) (rest line after text : List ℕ) (number : ℕ)
    → lines rest ≡ line ∷ lines after → line_of limit line ≡ Ok None
    → ((more : List ℕ) → CaptureLines listed number (captures limit rest) more → CaptureLines listed start all (text ++ more))
    → (more : List ℕ) → CaptureLines listed number (captures limit after) more → CaptureLines listed start all (text ++ more)
unfolding captures_of
skipped_more listed limit start all rest line after text number cut says goes_on more others =
    let first : captures limit rest ≡ captures limit after = ap (captures_of limit) cut ∙ rw says refl in
    goes_on more (rw first others)

pub faults_after : (limit number : ℕ) (rest line after : List ℕ) → lines rest ≡ line ∷ lines after → fault_of_line number (line_of limit line) ≡ None
    → faults_from limit number rest ≡ faults_from limit (number + 1) after
unfolding faults_of
faults_after limit number rest line after cut good = ap (faults_of limit number) cut ∙ rw good refl
