use Rattle.std.proofs.Common.{◌≡◌, ◌++◌, take}
use Rattle.dap_live.specs.Each.{records_text}
use Rattle.dap_live.proofs.answers.push_records.Given as goal

abbrev pub invariant-loop-record : goal.invariant-loop-record
invariant-loop-record l = l.text.items ≡ l.initial.text.items ++ records_text (take l.record-index l.records)
