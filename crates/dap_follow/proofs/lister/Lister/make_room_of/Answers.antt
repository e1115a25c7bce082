use Rattle.std.proofs.Common.{[], Ok, refl, sym, subst, append-nil}
use Rattle.nsp_seg.specs.declared.packet.Packet.{Packet}
use Rattle.decnet_frames.specs.Found.{found_seen}
use Rattle.dap_follow.specs.Room.{EndsForRoom}
use Rattle.dap_follow.specs.Keeping.Lister.{HasRoomFor}
use Rattle.dap_follow.proofs.ListLemmas.{crowds_none}
use Rattle.dap_follow.proofs.lister.Lister.make_room_of.Goals as goal

pub returns-in-DataAck-clause-room : goal.returns-in-DataAck-clause-room
returns-in-DataAck-clause-room c =
    let l = c.args.self.now in
    let packet = found_seen c.args.found.now in (
      [],
      crowds_none packet (Ok c.args.packet.now) l.packets l.streams.live.entries
          (λ opens. subst (λ (p : Packet). EndsForRoom l.packets packet (Ok p) opens [] opens) (sym c.in-DataAck.is) (refl, refl))
          (λ within. subst (λ (p : Packet). HasRoomFor packet (Ok p) l.streams.live.entries) (sym c.in-DataAck.is) within),
      sym (append-nil c.args.text.now.items),
    )
