use Rattle.std.proofs.Common.{◌≡◌, ◌+◌, ◌-◌, length, false}
use Rattle.dap_msg.specs.Blocked.{bodies}
use Rattle.dap_end.specs.Writing.{Extends, WroteMore}
use Rattle.dap_end.specs.Inner.Kept.{IsPort}
use Rattle.dap_end.proofs.port.Port.emit_all.Given as goal

abbrev pub invariant-segments : goal.invariant-segments
invariant-segments l = record {
  wrote : Extends (bodies l.initial.out.items) (bodies l.out.items) (WroteMore l.initial.self l.self);
  kept : IsPort l.self;
  works : l.self.link.failed ≡ false;
}

abbrev pub decreases-segments : goal.decreases-segments
decreases-segments l = l.self.link.acked + length l.self.link.queue - l.self.link.sent
