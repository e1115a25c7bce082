use Rattle.std.proofs.Common.{◌≡◌, ◌++◌, take}
use Rattle.std.specs.List.{flat_map}
use Rattle.dap_live.specs.Each.{each_text}
use Rattle.dap_live.proofs.answers.push_eaches.Given as goal

abbrev pub invariant-loop-report : goal.invariant-loop-report
invariant-loop-report l = l.text.items ≡ l.initial.text.items ++ flat_map (each_text l.told) (take l.report-index l.report-items)
