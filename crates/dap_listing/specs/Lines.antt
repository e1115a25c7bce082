-- The lines of a capture.
use Rattle.std.specs.Prelude.{ℕ, ◌*◌, ◌==◌, ◌&&◌, nat_le, List, ◌∷◌, if◌then◌else◌, length, Option, Some, None, Result, Ok, Err}
use Rattle.linewise.specs.Talks.{is_skipped}
use Rattle.texts.specs.Words.{is_hex_text}
use Rattle.linewise.specs.declared.fault.CaptureFault.{CaptureFault}
use Rattle.linewise.specs.declared.fault.CaptureFault.TheVariants.{BadLine, TooLarge}
use Rattle.dap_listing.specs.declared.lines.Direction.{Direction}
use Rattle.dap_listing.specs.declared.lines.Direction.TheVariants.{Right, Left}

-- what is captured: its direction, and the hex digits of its bytes
abbrev pub Capture : Type 0
Capture = Direction × List ℕ

-- what a line is: a skipped line, captured bytes, or a fault, which has the number of the line
abbrev pub Line : Type 0
Line = Result (Option Capture) (ℕ → CaptureFault)

-- hex digits of at most limit bytes
abbrev pub digits_line : ℕ → Direction → List ℕ → Line
digits_line limit direction digits =
    if is_hex_text digits then (if nat_le (length digits) (2 * limit) then Ok (Some (direction, digits)) else Err (λ number. TooLarge)) else Err BadLine

-- `> ` or `< ` and hex digits
abbrev pub capture_line : ℕ → List ℕ → Line
capture_line limit (first ∷ second ∷ digits) =
    if first == 62 && second == 32 then digits_line limit Right digits
    else if first == 60 && second == 32 then digits_line limit Left digits
    else Err BadLine
capture_line limit _ = Err BadLine

-- a line of a capture; lines end with LF or CR LF
abbrev pub line_of : ℕ → List ℕ → Line
line_of limit line = if is_skipped line then Ok None else capture_line limit line
