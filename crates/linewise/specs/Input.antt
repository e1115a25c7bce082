-- What the reading of an input takes, and when it fails.
use Rattle.std.specs.Prelude.{ℕ, List, ◌<◌, ◌≤◌, ◌+◌, length, Option, IfSome}
use Rattle.std.specs.Io.KnownBytes.{Consumes}
use Rattle.linewise.specs.Talks.{max_line}
use Rattle.linewise.specs.declared.fault.CaptureFault.{CaptureFault}
use Rattle.linewise.specs.declared.fault.CaptureFault.TheVariants.{TooLarge, ReadFailed}

-- a prefix of the known bytes is taken, after this many that were taken before
unfoldable pub TakesAfter : ℕ → Option (List ℕ) → Option (List ℕ) → Type 0
TakesAfter count old new = (taken : List ℕ) × Consumes old new taken × (count + length taken ≤ max_line + 1)

-- and with these no more than an input may have
unfoldable pub TakesUpTo : ℕ → Option (List ℕ) → Option (List ℕ) → Type 0
TakesUpTo count old new = (taken : List ℕ) × Consumes old new taken × (count + length taken ≤ max_line)

-- why what is after this many bytes can't be read, where no memory is taken
abbrev pub IsFaultAfter : ℕ → Option (List ℕ) → CaptureFault → Type 0
IsFaultAfter count known TooLarge = IfSome known (λ bytes. max_line < count + length bytes)
IsFaultAfter count known ReadFailed = Unit {0}
IsFaultAfter count known _ = ⊥
