use Rattle.std.proofs.Common.{◌≡◌, ℕ, ◌+◌, List, length}
use Rattle.texts.specs.Adding.{Adds}
use Rattle.dap_live.specs.Texts.{packets_text}
use Rattle.dap_end.specs.Writing.{AreSegments}
use Rattle.dap_live.proofs.sending.push_again.Given as goal

abbrev pub invariant-loop-index : goal.invariant-loop-index
invariant-loop-index l = (packets : List (List ℕ)) × AreSegments l.link (l.link.acked + 1) packets × (length packets ≡ l.index) × Adds l.initial.text l.text (packets_text packets)
