use Rattle.std.proofs.Common.{refl, ap, sym, ◌∙◌, if◌then◌else◌}
use Rattle.dap_follow.specs.Room.{segment_room}
use Rattle.dap_follow.proofs.CrowdLemmas.{needs_of}
use Rattle.dap_follow.proofs.streams.Streams.coming.Goals as goal

pub returns-then-is_known : goal.returns-then-is_known
returns-then-is_known c = record {
  stream_is = refl;
  packet_is = refl;
  needs = λ number opens few keeps.
      needs_of number c.args.stream (c.args.packet, c.args.segment.now) opens c.args.self.now.live.entries 0 few keeps
      (c.is_known-is_known.result, c.is_known-is_known.ensures, sym (ap (λ b. if b then 0 else segment_room c.args.segment.now.payload) c.if-is_known.true));
  need_is = (c.is_known-is_known.result, c.is_known-is_known.ensures, sym (ap (λ b. if b then 0 else segment_room c.args.segment.now.payload) c.if-is_known.true));
}

pub returns-in_ok-need : goal.returns-in_ok-need
returns-in_ok-need c = record {
  stream_is = refl;
  packet_is = refl;
  needs = λ number opens few keeps.
      needs_of number c.args.stream (c.args.packet, c.args.segment.now) opens c.args.self.now.live.entries c.in_ok-need.need few keeps
      (c.is_known-is_known.result, c.is_known-is_known.ensures, c.in_ok-need.ensures ∙ sym (ap (λ b. if b then 0 else segment_room c.args.segment.now.payload) c.if-is_known.false));
  need_is = (c.is_known-is_known.result, c.is_known-is_known.ensures, c.in_ok-need.ensures ∙ sym (ap (λ b. if b then 0 else segment_room c.args.segment.now.payload) c.if-is_known.false));
}
