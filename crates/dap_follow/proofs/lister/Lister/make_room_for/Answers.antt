use Rattle.std.proofs.Common.{[], refl, sym, subst, append-nil}
use Rattle.dap_listing.specs.Packets.{DecodedPacket}
use Rattle.decnet_frames.specs.Found.{found_seen}
use Rattle.dap_follow.specs.Room.{EndsForRoom}
use Rattle.dap_follow.specs.Keeping.Lister.{HasRoomFor}
use Rattle.dap_follow.proofs.ListLemmas.{crowds_none}
use Rattle.dap_follow.proofs.lister.Lister.make_room_for.Goals as goal

pub returns-in-Err-clause-room : goal.returns-in-Err-clause-room
returns-in-Err-clause-room c =
    let l = c.args.self.now in
    let packet = found_seen c.args.found.now in (
      [],
      crowds_none packet c.args.seen.now l.packets l.streams.live.entries
          (λ opens. subst (λ (s : DecodedPacket). EndsForRoom l.packets packet s opens [] opens) (sym c.in-Err.is) (refl, refl))
          (λ within. subst (λ (s : DecodedPacket). HasRoomFor packet s l.streams.live.entries) (sym c.in-Err.is) within),
      sym (append-nil c.args.text.now.items),
    )
