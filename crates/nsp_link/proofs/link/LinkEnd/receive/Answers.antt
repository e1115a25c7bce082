use Rattle.std.proofs.Common.{◌≡◌, Result, Ok, subst}
use Rattle.nsp_seg.specs.declared.packet.Packet.{Packet}
use Rattle.nsp_link.specs.Link.{LinkValue, IsLink}
use Rattle.nsp_link.specs.Receiving.{ReceivesPacket}
use Rattle.nsp_link.proofs.Writing.{sends_received}
use Rattle.nsp_link.proofs.Delivering.{received_read}
use Rattle.nsp_link.proofs.Came.{due_counted, unrefused}
use Rattle.nsp_link.proofs.link.LinkEnd.receive.Goals as goal

same_ok : {X E : Type 0} {x y : X} → ◌≡◌ {A = Result X E} (Ok x) (Ok y) → x ≡ y
same_ok e = cc

pub returns-in-Ok-clause-any : goal.returns-in-Ok-clause-any
returns-in-Ok-clause-any c = λ running p spelled.
    subst (λ (q : Packet). ReceivesPacket c.args.self.now q c.receive_packet.result c.receive_packet.new.self) (same_ok (c.in-Ok.ensures.only p spelled)) c.receive_packet.ensures

pub returns-in-Err-clause-any : goal.returns-in-Err-clause-any
returns-in-Err-clause-any c = λ running p spelled. let no = c.in-Err.ensures.only p spelled in absurd cc

pub returns-in-Ok-clause-due : goal.returns-in-Ok-clause-due
returns-in-Ok-clause-due c = λ size messages given p k a spelled due.
    let link = subst (λ (v : LinkValue). IsLink v) c.self.view_is c.self.invariant.link in
    let same = same_ok (c.in-Ok.ensures.only p spelled) in
    let rec = subst (λ (q : Packet). ReceivesPacket c.args.self.now q c.receive_packet.result c.receive_packet.new.self) same c.receive_packet.ensures in
    due_counted c.args.self.now c.receive_packet.new.self c.receive_packet.result size messages given p k a link due rec

pub returns-in-Ok-clause-unrefused : goal.returns-in-Ok-clause-unrefused
returns-in-Ok-clause-unrefused c = λ size messages given p k a spelled due before.
    let link = subst (λ (v : LinkValue). IsLink v) c.self.view_is c.self.invariant.link in
    let same = same_ok (c.in-Ok.ensures.only p spelled) in
    let rec = subst (λ (q : Packet). ReceivesPacket c.args.self.now q c.receive_packet.result c.receive_packet.new.self) same c.receive_packet.ensures in
    unrefused c.args.self.now c.receive_packet.new.self c.receive_packet.result size messages given p k a link due rec before

pub returns-in-Ok-clause-sends : goal.returns-in-Ok-clause-sends
returns-in-Ok-clause-sends c = λ messages sends.
    let link = subst (λ (v : LinkValue). IsLink v) c.self.view_is c.self.invariant.link in
    sends_received c.args.self.now c.receive_packet.new.self _ c.receive_packet.result messages link c.receive_packet.ensures sends

pub returns-in-Ok-clause-malformed : goal.returns-in-Ok-clause-malformed
returns-in-Ok-clause-malformed c = λ f e. absurd (received_read c.args.self.now c.receive_packet.new.self _ c.receive_packet.result f c.receive_packet.ensures e)

pub returns-in-Err-clause-due : goal.returns-in-Err-clause-due
returns-in-Err-clause-due c = λ size messages given p k a spelled due. let no = c.in-Err.ensures.only p spelled in absurd cc

pub returns-in-Err-clause-unrefused : goal.returns-in-Err-clause-unrefused
returns-in-Err-clause-unrefused c = λ size messages given p k a spelled due before. let no = c.in-Err.ensures.only p spelled in absurd cc
