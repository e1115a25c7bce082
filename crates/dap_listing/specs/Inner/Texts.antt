-- The text of an input, before it is written.
use Rattle.std.specs.Prelude.{◌<◌, ◌⊎◌, ℕ, List, length, Result, Ok, Err}
use Rattle.std.specs.Global.{Vec}
use Rattle.linewise.specs.Talks.{max_line}
use Rattle.linewise.specs.Gives.{HasLineFault, IsTextOf}
use Rattle.dap_listing.specs.Listing.{CaptureLines, captures, line_limit, faults_from}
use Rattle.linewise.specs.declared.fault.CaptureFault.{CaptureFault}
use Rattle.linewise.specs.declared.fault.CaptureFault.TheVariants.{BadLine, TooLarge, ReadFailed, WriteFailed, NoMemory}
use Rattle.dap_listing.specs.declared.listing.Listed.{Listed}

-- the text is the listing of the input
abbrev pub IsListing : Listed → List ℕ → List ℕ → Type 0
IsListing listed input text = CaptureLines listed 1 (captures (line_limit listed) input) text

-- a fault that is reported of an input
abbrev pub IsInputFault : Listed → List ℕ → CaptureFault → Type 0
IsInputFault listed input (BadLine number) = HasLineFault (faults_from (line_limit listed) 1 input) input (BadLine number)
IsInputFault listed input TooLarge =
    (max_line < length input)
    ⊎ HasLineFault (faults_from (line_limit listed) 1 input) input TooLarge
IsInputFault listed input ReadFailed = Unit {0}
IsInputFault listed input NoMemory = Unit {0}
IsInputFault listed input WriteFailed = ⊥

-- what a listing of the input returns before it is written
abbrev pub TextGives : Listed → List ℕ → Result (Vec ℕ) CaptureFault → Type 0
TextGives listed input (Ok text) = IsTextOf (faults_from (line_limit listed) 1 input) (IsListing listed input) input text.items
TextGives listed input (Err fault) = IsInputFault listed input fault
