use Rattle.std.proofs.Common.{◌≡◌, ◌++◌, take}
use Rattle.dap_live.specs.Texts.{locked_text}
use Rattle.dap_live.proofs.answers.push_locked.Given as goal

abbrev pub invariant-loop-local : goal.invariant-loop-local
invariant-loop-local l = l.text.items ≡ l.initial.text.items ++ locked_text (take l.local-index l.locked)
