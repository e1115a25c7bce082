use Rattle.std.proofs.Common.{◌≡◌, ◌++◌, take}
use Rattle.dap_live.specs.Texts.{reports_text}
use Rattle.dap_live.proofs.answers.push_reports.Given as goal

abbrev pub invariant-loop-report : goal.invariant-loop-report
invariant-loop-report l = l.text.items ≡ l.initial.text.items ++ reports_text (take l.report-index l.report-items)
