use Rattle.std.proofs.Common.{refl}
use Rattle.std.specs.Prelude.{None}
use Rattle.nsp_link.specs.Sending.{ack_packet_of}
use Rattle.dap_world.proofs.Steps.Put.{wrote_put}
use Rattle.dap_world.proofs.side.acknowledge.Goals as goal

pub returns-clause-ok : goal.returns-clause-ok
returns-clause-ok c =
    let spelled = rw c.in-Ok.is at c.requires in
    wrote_put c.args.link.now c.args.wire.now.items c.reserve.new.self.items c.put.new.wire.items _ None c.put.result c.in_ok-reserve.ensures.items c.put.ensures.wire c.put.ensures.index
    refl c.received_count.ensures.value (λ messages sends. (ack_packet_of c.args.link.now, refl, spelled))
