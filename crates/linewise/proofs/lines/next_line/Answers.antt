use Rattle.std.proofs.Common.{◌<◌, ◌+◌, length, arith, rules, sym, length-drop}
use Rattle.texts.proofs.ForCallers.{slice_from}
use Rattle.linewise.proofs.LineLemmas.{first_line, last_line}
use Rattle.linewise.proofs.lines.next_line.Goals as goal

pub returns-in-None-clause-first : goal.returns-in-None-clause-first
returns-in-None-clause-first c =
    let some : 0 < length c.args.bytes.now = search rules in
    (last_line c.args.bytes.now (sym c.in-None.ensures) some, some)

pub returns-in-Some-clause-first : goal.returns-in-Some-clause-first
returns-in-Some-clause-first c =
    let first = first_line c.args.bytes.now c.in-Some.end (sym c.in-Some.ensures) in
    rw (slice_from (c.in-Some.end + 1) c.args.bytes.now) (rw c.without_carriage_return.ensures.of_bytes (first.0), omega (arith, first.1, length-drop (c.in-Some.end + 1) c.args.bytes.now))
