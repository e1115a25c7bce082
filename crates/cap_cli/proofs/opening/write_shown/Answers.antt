use Rattle.std.proofs.Common.{rules}
use Rattle.cap_cli.specs.Opening.{shown as shown_as}
use Rattle.cap_cli.proofs.WriteLemmas.{front_of_word}
use Rattle.cap_cli.proofs.opening.write_shown.Goals as goal

pub returns-in_err-write_text-clause-front : goal.returns-in_err-write_text-clause-front
returns-in_err-write_text-clause-front g c =
    front_of_word _ _ _ shown_as c.loop-byte.byte-index 0 c.args.word.now (search rules) c.loop-byte.invariant (rw (c.shown.ensures, c.as_bytes-byte-items.ensures.value) at c.write_text.ensures.front)
