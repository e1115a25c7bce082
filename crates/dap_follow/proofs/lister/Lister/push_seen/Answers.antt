use Rattle.std.proofs.Common.{[], ap, sym, subst, append-nil}
use Rattle.dap_listing.specs.Packets.{DecodedPacket}
use Rattle.decnet_frames.specs.Found.{found_seen}
use Rattle.dap_follow.specs.Streams.{with_packet}
use Rattle.dap_follow.specs.Keeping.Lister.{HasRoomFor}
use Rattle.dap_follow.specs.Keeping.Room.{AreWithinRoom}
use Rattle.dap_follow.proofs.ListLemmas.{tells_aside}
use Rattle.dap_follow.proofs.lister.Lister.push_seen.Goals as goal

pub returns-in-Err-clause-tells : goal.returns-in-Err-clause-tells
returns-in-Err-clause-tells c =
    let l = c.args.self.now in
    let packet = found_seen c.args.found.now in
    let within : HasRoomFor packet c.args.seen.now l.streams.live.entries → AreWithinRoom l.streams.live.entries =
    λ room. subst (λ (s : DecodedPacket). HasRoomFor packet s l.streams.live.entries) c.in-Err.is room in (
      [],
      tells_aside l.chosen.in_words l.packets packet c.args.seen.now l.streams.live.entries (λ opens. ap (λ (s : DecodedPacket). with_packet l.packets packet s opens) c.in-Err.is) within,
      sym (append-nil c.args.text.now.items),
    )
