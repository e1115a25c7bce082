use Rattle.std.proofs.Common.{◌-◌, ◌<◌, ℕ, length, take}
use Rattle.std.specs.Io.KnownBytes.{Consumes}
use Rattle.cap_cli.specs.Inner.Fronts.{MayTellMore}
use Rattle.cap_cli.proofs.form.read_front.Given as goal

abbrev pub invariant-loop-byte : goal.invariant-loop-byte
invariant-loop-byte g l =
    Consumes (g.R.Read.remaining l.initial.reader) (g.R.Read.remaining l.reader) l.front.items
    × ((k : ℕ) → k < length l.front.items → MayTellMore (take k l.front.items))

abbrev pub decreases-loop-byte : goal.decreases-loop-byte
decreases-loop-byte g l = 4 - length l.front.items
