use Rattle.std.proofs.Common.{◌-◌}
use Rattle.dap_end.specs.Hearing.{ReadOn}
use Rattle.dap_end.specs.Writing.{Extends}
use Rattle.dap_end.proofs.Proceeding.{work}
use Rattle.dap_end.proofs.asking.End+Accessing.read_all.Given as goal

abbrev pub invariant-answers : goal.invariant-answers
invariant-answers l = Extends l.initial.reports.items l.reports.items (ReadOn l.initial.self l.self)

abbrev pub decreases-answers : goal.decreases-answers
decreases-answers l = work l.self.port.link.coming.inbox - l.self.port.offset
