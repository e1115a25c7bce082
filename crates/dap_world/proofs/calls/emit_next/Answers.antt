use Rattle.std.proofs.Common.{ℕ, ◌+◌, ◌∙◌, Some, ap}
use Rattle.nsp_link.specs.Link.{LinkValue}
use Rattle.dap_world.proofs.Steps.Put.{may_wrote, wrote_put}
use Rattle.dap_world.proofs.calls.emit_next.Goals as goal

pub returns-in-Ok-clause-ok : goal.returns-in-Ok-clause-ok
returns-in-Ok-clause-ok g c =
    let next = c.in-Ok.ensures.wrote in
    let number = c.in_ok-number.ensures.ok.1 ∙ ap (λ (v : LinkValue). v.sent + 1) c.link.ensures in (
      may_wrote _ _ _ next,
      wrote_put c.args.end.now.port.link c.args.wire.now.items c.next_number.new.wire.items c.put.new.wire.items _ _ c.put.result c.next_number.ensures.same c.put.ensures.wire c.put.ensures.index
          (ap (λ (n : ℕ). Some n) number) (c.received_count-acks.ensures.value ∙ ap (λ (v : LinkValue). v.coming.received) c.link-2.ensures) next.writes.0,
    )
