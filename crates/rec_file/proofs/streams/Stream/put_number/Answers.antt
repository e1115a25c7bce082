use Rattle.std.proofs.Common.{rules, ap, ◌+◌, ◌∙◌}
use Rattle.rec_file.proofs.RecordsLaws.{next_is_none}
use Rattle.rec_file.proofs.streams.Stream.put_number.Goals.{in-Some, in-None, in-None-2}
use Rattle.rec_file.proofs.streams.Stream.put_number.Goals as goal

-- after the last record of a sequential file the number is free
pub returns-clause-reply : goal.returns-clause-reply
returns-clause-reply g c = elim c.match-key.branch [
  | in-Some w ↦ search rules
  | in-None w ↦ let free = next_is_none _ c.match-key.number (w.number-is ∙ ap (λ n. n + 1) w.highest.ensures.same) in search rules
  | in-None-2 w ↦ search rules
]
