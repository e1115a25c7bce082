use Rattle.std.proofs.Common.{map, take}
use Rattle.std.specs.Io.KnownBytes.{Appends}
use Rattle.cap_cli.specs.Opening.{shown as shown_as}
use Rattle.cap_cli.proofs.opening.write_shown.Given as goal

abbrev pub invariant-loop-byte : goal.invariant-loop-byte
invariant-loop-byte g l = Appends (g.E.Write.contents l.initial.error_writer) (g.E.Write.contents l.error_writer) (map shown_as (take l.byte-index l.word))
