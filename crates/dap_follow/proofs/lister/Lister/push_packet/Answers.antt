use Rattle.std.proofs.Common.{[], Ok, ap, sym, subst, append-nil}
use Rattle.nsp_seg.specs.declared.packet.Packet.{Packet}
use Rattle.decnet_frames.specs.Found.{found_seen}
use Rattle.dap_follow.specs.Streams.{with_packet}
use Rattle.dap_follow.specs.Keeping.Lister.{HasRoomFor}
use Rattle.dap_follow.specs.Keeping.Room.{AreWithinRoom}
use Rattle.dap_follow.proofs.ListLemmas.{tells_aside}
use Rattle.dap_follow.proofs.lister.Lister.push_packet.Goals as goal

pub returns-in-DataAck-clause-tells : goal.returns-in-DataAck-clause-tells
returns-in-DataAck-clause-tells c =
    let l = c.args.self.now in
    let packet = found_seen c.args.found.now in
    let within : HasRoomFor packet (Ok c.args.packet.now) l.streams.live.entries → AreWithinRoom l.streams.live.entries =
    λ room. subst (λ (p : Packet). HasRoomFor packet (Ok p) l.streams.live.entries) c.in-DataAck.is room in (
      [],
      tells_aside l.chosen.in_words l.packets packet (Ok c.args.packet.now) l.streams.live.entries (λ opens. ap (λ (p : Packet). with_packet l.packets packet (Ok p) opens) c.in-DataAck.is) within,
      sym (append-nil c.args.text.now.items),
    )
