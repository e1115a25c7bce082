use Rattle.std.proofs.Common.{◌++◌, [], ℕ, List, Ok, refl, sym, ap, subst}
use Rattle.std.proofs.lemmas.List.{append-nil}
use Rattle.std.proofs.lemmas.Result.{on_ok_weaker}
use Rattle.nsp_seg.specs.declared.packet.SegmentFields.{SegmentFields}
use Rattle.nsp_seg.specs.Packets.{Spells}
use Rattle.nsp_seg.specs.declared.packet.Packet.TheVariants.{Segment, DataAck}
use Rattle.dap_listing.specs.Packets.{DecodedPacket, seen_line}
use Rattle.dap_listing.specs.Inner.Messages.{SegmentMessages}
use Rattle.dap_listing.proofs.MessageLemmas.{appended_twice}
use Rattle.dap_listing.proofs.packet.push_packet.Goals as goal

pub returns-in_ok-push_segment-in-Ok-Segment : goal.returns-in_ok-push_segment-in-Ok-Segment
returns-in_ok-push_segment-in-Ok-Segment c =
    let p = c.in-Ok-Segment in
    let s : SegmentFields = p.line in
    let told : DecodedPacket = Ok (Segment s) in
    let is : Spells (Segment s) c.args.bytes.now = rw p.field-0-is at p.ensures.found in
    on_ok_weaker c.push_whole.result
    (λ more. (
      seen_line told ++ more.0,
      record { seen = told; messages = more.0; is = is; listed = subst (λ (l : List ℕ). SegmentMessages s.first s.last l more.0) (ap (λ (v : SegmentFields). v.payload) c.line.view_is) more.1; joined = refl },
      appended_twice c.args.text.now.items c.push_segment.new.text.items c.push_whole.new.text.items (seen_line told) more.0 c.in_ok-push_segment-in-Ok-Segment.ensures.added more.2,
    ))
    c.push_whole.ensures

pub returns-in-Ok-DataAck : goal.returns-in-Ok-DataAck
returns-in-Ok-DataAck c =
    let p = c.in-Ok-DataAck in
    let told : DecodedPacket = Ok (DataAck p.ack) in
    let is : Spells (DataAck p.ack) c.args.bytes.now = rw p.field-0-is at p.ensures.found in
    on_ok_weaker c.push_ack.result
    (λ added. (seen_line told, record { seen = told; messages = []; is = is; listed = refl; joined = sym (append-nil (seen_line told)) }, added))
    c.push_ack.ensures.added
