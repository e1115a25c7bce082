use Rattle.std.proofs.Common.{◌≡◌, rules, ap, sym, ◌∙◌, subst, length, arith}
use Rattle.std.proofs.lemmas.List.{length-map}
use Rattle.dap_msg.specs.Blocked.{bodies}
use Rattle.dap_end.specs.Ports.{PortValue}
use Rattle.dap_end.specs.Inner.Kept.{IsPort}
use Rattle.dap_end.specs.Inner.PortView.{port_view}
use Rattle.dap_end.proofs.ServingOne.{has_first, no_length, gone_is, offset_there, port_goes}
use Rattle.dap_end.proofs.turns.serve_next.Goals as goal

pub returns-clause-ok : goal.returns-clause-ok
returns-clause-ok g c =
    let bytes = c.in-Some.message.now in
    let waits = has_first c.port.inside.link.coming.inbox bytes (sym c.in-Some.ensures) in
    let idle : length c.port.inside.outbox.items ≡ 0 = search rules in
    let answered : c.len-answered.result ≡ length c.in-Ok.served.answers.items = search rules in
    let goes = gone_is (record (port_view c.port.inside) { outbox = bodies c.in-Ok.served.answers.items }) c.advance.new.self bytes waits.0 c.item_at-item.result.1 c.is_end-at_end.result c.is_end-at_end.ensures.end waits.1 (c.advance.ensures.going, c.advance.ensures.ends) in
    rw (← c.port.view_is)
    (record {
      idle = no_length (bodies c.port.inside.outbox.items) (length-map c.port.inside.outbox.items _ ∙ idle);
      one = record {
        bytes = bytes;
        later = waits.0;
        came = waits.1;
        fits = c.is_end-at_end.ensures.bytes;
        item = c.item_at-item.result.0;
        next = c.item_at-item.result.1;
        reads = c.item_at-item.ensures.exact;
        offset = offset_there (port_view c.port.inside) bytes waits.0 waits.1 (subst IsPort (sym c.port.view_is) c.requires.kept);
      };
      served = c.in-Ok.served;
      by = c.in-Ok.ensures.serves bytes c.port.inside.offset c.item_at-item.ensures.exact;
      next = c.in-Ok.ensures.next;
      within = c.item_at-item.ensures.within;
      port = goes;
      count = answered ∙ sym (length-map c.in-Ok.served.answers.items _) ∙ ap length (sym (ap (λ (p : PortValue). p.outbox) goes));
    })

pub returns-clause-kept : goal.returns-clause-kept
returns-clause-kept g c =
    let bytes = c.in-Some.message.now in
    let waits = has_first c.port.inside.link.coming.inbox bytes (sym c.in-Some.ensures) in
    let kept : IsPort (port_view c.port.inside) = subst IsPort (sym c.port.view_is) c.requires.kept in
    let short = c.in-Ok.ensures.short bytes c.port.inside.offset c.item_at-item.ensures.exact in
    let goes = gone_is (record (port_view c.port.inside) { outbox = bodies c.in-Ok.served.answers.items }) c.advance.new.self bytes waits.0 c.item_at-item.result.1 c.is_end-at_end.result c.is_end-at_end.ensures.end waits.1 (c.advance.ensures.going, c.advance.ensures.ends) in
    subst IsPort (sym goes)
    (port_goes (port_view c.port.inside) bytes waits.0 (bodies c.in-Ok.served.answers.items) c.item_at-item.result.1 65535 waits.1 kept c.item_at-item.ensures.within (omega arith) short)
