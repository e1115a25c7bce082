-- What a line of the program is.
use Rattle.std.specs.Prelude.{ℕ, Option, None, option_map, Ok, Err}
use Rattle.std.specs.Result.{result_err}
use Rattle.linewise.specs.declared.fault.CaptureFault.{CaptureFault}
use Rattle.linewise.specs.declared.fault.CaptureFault.TheVariants.{BadLine}
use Rattle.dap_listing.specs.declared.lines.Head.{Head}
use Rattle.dap_listing.specs.declared.lines.Head.TheVariants.{Skipped, Digits, Malformed}
use Rattle.dap_listing.specs.Lines.{Line, digits_line}

-- a line that begins so
abbrev pub line_of_head : ℕ → Head → Line
line_of_head limit Skipped = Ok None
line_of_head limit (Digits direction digits) = digits_line limit direction digits.now
line_of_head limit Malformed = Err BadLine

-- what is wrong with the line of a number
abbrev pub fault_of_line : ℕ → Line → Option CaptureFault
fault_of_line number line = option_map (λ fault. fault number) (result_err line)
