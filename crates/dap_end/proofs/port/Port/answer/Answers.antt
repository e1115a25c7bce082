use Rattle.std.proofs.Common.{◌≡◌, ◌-◌, arith, rules, length}
use Rattle.std.proofs.lemmas.List.{length-map}
use Rattle.dap_msg.specs.Blocked.{bodies}
use Rattle.dap_end.proofs.Emitting.{written_count, answered, part_ack}
use Rattle.dap_end.proofs.port.Port.answer.Goals as goal

pub returns-clause-ok : goal.returns-clause-ok
returns-clause-ok c =
    let w = c.emit_all.ensures.wrote in
    let before : c.len-before.result ≡ length c.args.out.now.items = search rules in
    let after : c.len.result ≡ length c.emit_all.new.out.items = search rules in
    let long : length w.0 ≡ c.len.result - c.len-before.result =
    omega (arith, written_count c.args.self.now c.emit_all.new.self (bodies c.args.out.now.items) (bodies c.emit_all.new.out.items) w, length-map c.args.out.now.items (λ v. v.items), length-map c.emit_all.new.out.items (λ v. v.items)) in
    answered c.args.self.now c.emit_all.new.self c.args.got (bodies c.args.out.now.items) (bodies c.emit_all.new.out.items) (bodies c.acknowledge.new.out.items) (c.len.result - c.len-before.result) c.acknowledge.result
    w c.in_ok-emit_all.ensures.all long c.acknowledge.ensures.ok

pub returns-clause-err : goal.returns-clause-err
returns-clause-err c =
    let w = c.emit_all.ensures.wrote in
    let before : c.len-before.result ≡ length c.args.out.now.items = search rules in
    let after : c.len.result ≡ length c.emit_all.new.out.items = search rules in
    let long : length w.0 ≡ c.len.result - c.len-before.result =
    omega (arith, written_count c.args.self.now c.emit_all.new.self (bodies c.args.out.now.items) (bodies c.emit_all.new.out.items) w, length-map c.args.out.now.items (λ v. v.items), length-map c.emit_all.new.out.items (λ v. v.items)) in
    part_ack c.args.self.now c.emit_all.new.self c.args.got (bodies c.args.out.now.items) (bodies c.emit_all.new.out.items) (bodies c.acknowledge.new.out.items) (c.len.result - c.len-before.result) c.acknowledge.result
    w long c.acknowledge.ensures.wants c.acknowledge.ensures.memory c.acknowledge.ensures.unchanged
