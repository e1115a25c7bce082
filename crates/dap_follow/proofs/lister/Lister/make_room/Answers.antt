use Rattle.std.proofs.Common.{Ok, sym, subst}
use Rattle.nsp_seg.specs.declared.packet.Packet.TheVariants.{Segment}
use Rattle.decnet_frames.specs.Found.{found_seen}
use Rattle.dap_follow.specs.Streams.{stream_of}
use Rattle.dap_follow.specs.Keeping.Endings.{is_chosen}
use Rattle.dap_follow.specs.Keeping.Lister.{EndsCrowd}
use Rattle.dap_follow.specs.Keeping.Rest.{rest_of_each}
use Rattle.dap_follow.specs.Keeping.Room.{IsComing}
use Rattle.dap_follow.specs.Keeping.Streams.{Entries}
use Rattle.dap_follow.specs.declared.ending.Ending.TheVariants.{Crowded}
use Rattle.dap_follow.specs.declared.streams.Stream.{Stream}
use Rattle.dap_follow.proofs.CrowdLemmas.{ends_crowd}
use Rattle.dap_follow.proofs.lister.Lister.make_room.Goals as goal

pub returns-clause-room : goal.returns-clause-room
returns-clause-room c =
    let packet = found_seen c.args.found.now in
    let segment = c.args.segment.now in
    let n = c.args.self.now.packets in
    let old = c.args.self.now.streams.live.entries in
    let coming = c.in_ok-coming.coming in
    let crowd = c.in_ok-crowd.field-0 in
    let rest = rest_of_each (is_chosen (Crowded crowd)) old in
    let comes : IsComing (stream_of packet segment) n segment old coming = subst (λ (s : Stream). IsComing s n segment old coming) c.stream_of-stream.ensures c.in_ok-coming.ensures in
    (rest, subst (λ (l : Entries). EndsCrowd packet (Ok (Segment segment)) n old l rest) (sym c.end.ensures) (ends_crowd packet segment n coming crowd old comes c.in_ok-crowd.ensures), c.in_ok-push_ending.ensures)
