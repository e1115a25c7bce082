use Rattle.std.proofs.Common.{◌++◌, refl, subst, ◌∙◌}
use Rattle.std.proofs.lemmas.Result.{on_ok_weaker}
use Rattle.decnet_frames.specs.Found.{found_seen}
use Rattle.dap_follow.specs.Lines.{packet_line}
use Rattle.dap_follow.specs.Keeping.Lister.{EndsCrowd}
use Rattle.dap_follow.proofs.ListLemmas.{joins_text}
use Rattle.dap_follow.proofs.RestLemmas.{appended_twice}
use Rattle.dap_follow.proofs.lister.Lister.push_joined.Goals as goal

pub returns-clause-joined : goal.returns-clause-joined
returns-clause-joined c =
    let packet = found_seen c.args.found.now in
    let seen = c.args.seen.now in
    let between = c.end_streams.new.self in
    let mid = c.make_room_for.new.self in
    let chosen = c.make_room_for.ensures.chosen ∙ c.end_streams.ensures.chosen in
    let count = c.make_room_for.ensures.packets ∙ c.end_streams.ensures.packets in
    let new = c.push_seen.new.self in
    let t0 = c.args.text.now.items in
    let t1 = c.end_streams.new.text.items in
    let t2 = c.make_room_for.new.text.items in
    let t3 = c.push_packet_line.new.text.items in
    let t4 = c.push_seen.new.text.items in
    let ended = c.in_ok-end_streams.ensures.ends in
    let crowd = c.in_ok-make_room_for.ensures.room in
    let line = packet_line mid.chosen.in_words mid.packets packet seen in
    on_ok_weaker c.push_seen.result
    (λ said. (
      ended.0 ++ (crowd.0 ++ (line ++ said.0)),
      joins_text c.args.self.now between.streams.live.entries mid new packet seen ended.0 crowd.0 said.0 (ended.0 ++ (crowd.0 ++ (line ++ said.0))) chosen count ended.1
          (subst (λ n. EndsCrowd packet seen n between.streams.live.entries mid.streams.live.entries crowd.0) c.end_streams.ensures.packets crowd.1) said.1 refl,
      appended_twice t0 t1 t4 ended.0 (crowd.0 ++ (line ++ said.0)) ended.2
          (appended_twice t1 t2 t4 crowd.0 (line ++ said.0) crowd.2 (appended_twice t2 t3 t4 line said.0 c.in_ok-push_packet_line.ensures said.2)),
    ))
    c.push_seen.ensures.tells
