use Rattle.std.proofs.Common.{◌≡◌, ◌++◌, ◌∷◌, [], ap, rules, ◌∙◌}
use Rattle.std.proofs.lemmas.List.{map-append}
use Rattle.dap_msg.specs.Blocked.{bodies}
use Rattle.dap_end.specs.Ports.{PortValue}
use Rattle.dap_end.proofs.Emitting.{wrote_more}
use Rattle.dap_end.proofs.port.Port.emit_all.Goals as goal

pub segments-preserved : goal.segments-preserved
segments-preserved c =
    let all : c.push_reserved.new.self.items ≡ c.segments.out.items ++ c.in-Ok-write_next.packet ∷ [] = search rules in
    record {
      wrote = wrote_more c.args.self.now c.segments.self c.write_next.new.self (bodies c.args.out.now.items) (bodies c.segments.out.items) (bodies c.push_reserved.new.self.items) c.in-Ok-write_next.packet.items
          c.segments.invariant.wrote c.in-Ok-write_next.ensures.wrote (ap bodies all ∙ map-append _ c.segments.out.items (c.in-Ok-write_next.packet ∷ []));
      kept = c.write_next.ensures.kept c.segments.invariant.kept;
      works = ap (λ (p : PortValue). p.link.failed) c.in-Ok-write_next.ensures.wrote.sent ∙ c.segments.invariant.works;
    }
