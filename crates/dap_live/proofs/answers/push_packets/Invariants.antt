use Rattle.std.proofs.Common.{◌≡◌, ◌++◌, take}
use Rattle.dap_msg.specs.Blocked.{bodies}
use Rattle.dap_live.specs.Texts.{packets_text}
use Rattle.dap_live.proofs.answers.push_packets.Given as goal

abbrev pub invariant-loop-packet : goal.invariant-loop-packet
invariant-loop-packet l = l.text.items ≡ l.initial.text.items ++ packets_text (bodies (take l.packet-index l.packet-items))
