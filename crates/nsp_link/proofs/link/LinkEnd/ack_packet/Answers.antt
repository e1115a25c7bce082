use Rattle.std.proofs.Common.{refl, rules}
use Rattle.std.specs.Prelude.{IfOk}
use Rattle.nsp_link.specs.Link.{IsSpelling}
use Rattle.nsp_link.specs.Sending.{ack_packet_of}
use Rattle.nsp_link.proofs.Queued.{if_ok_map}
use Rattle.nsp_link.proofs.link.LinkEnd.ack_packet.Goals as goal

pub returns-clause-carries : goal.returns-clause-carries
returns-clause-carries c =
    let ok : IfOk c.written.result (λ v. IsSpelling (ack_packet_of c.args.self.now) v.items) = search rules in
    if_ok_map c.written.result _ _ ok (λ v spelled messages. (ack_packet_of c.args.self.now, refl, spelled))
