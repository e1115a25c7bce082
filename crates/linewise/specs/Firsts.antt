-- The first fault of lines.
use Rattle.std.specs.Prelude.{◌≡◌, List, slice_get, Some}
use Rattle.linewise.specs.declared.fault.CaptureFault.{CaptureFault}
use Rattle.linewise.specs.declared.fault.CaptureFault.TheVariants.{BadLine, TooLarge}

-- a fault that a line can have
abbrev pub IsOfLine : CaptureFault → Type 0
IsOfLine (BadLine number) = Unit {0}
IsOfLine TooLarge = Unit {0}
IsOfLine _ = ⊥

-- the first of the faults
abbrev pub IsFirst : List CaptureFault → CaptureFault → Type 0
IsFirst faults fault = (slice_get faults 0 ≡ Some fault) × IsOfLine fault
