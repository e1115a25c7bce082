use Rattle.std.proofs.Common.{List, [], ℕ, Option, Some, None, refl, sym, subst, append-nil}
use Rattle.std.proofs.lemmas.Result.{on_ok_weaker}
use Rattle.decnet_frames.specs.Found.{found_seen}
use Rattle.dap_follow.specs.Streams.{stream_of}
use Rattle.dap_follow.specs.Keeping.Lister.{IsToldText}
use Rattle.dap_follow.specs.Keeping.Room.{Grows}
use Rattle.dap_follow.specs.Keeping.Streams.{Continues}
use Rattle.dap_follow.specs.declared.kept.Whole.{Whole}
use Rattle.dap_follow.specs.declared.streams.Stream.{Stream}
use Rattle.dap_follow.proofs.BoundLemmas.{place_taken}
use Rattle.dap_follow.proofs.ListLemmas.{tells_none, tells_some}
use Rattle.dap_follow.proofs.lister.Lister.push_segment.Goals as goal

pub returns-clause-tells : goal.returns-clause-tells
returns-clause-tells c =
    let l = c.args.self.now in
    let stream = stream_of (found_seen c.args.found.now) c.args.segment.now in
    let new = c.add.new.self.live.entries in
    let bytes = c.add.new.bytes.items in
    let whole = c.in-Some.whole in
    on_ok_weaker c.push_whole.result
    (λ said. (
      said.0,
      λ opens few keeps.
          let k = subst (λ (s : Stream). Continues l.packets s c.args.segment.now opens new bytes (Some whole)) c.stream_of-stream.ensures
          (subst (λ (f : Option Whole). Continues l.packets c.stream_of-stream.result c.args.segment.now opens new bytes f) c.in-Some.is (c.in_ok-added.ensures.continues l.packets opens few keeps refl)) in
          let grown = subst (λ (s : Stream). Grows s c.args.segment.now l.streams.live.entries new) c.stream_of-stream.ensures (c.in_ok-added.ensures.grows l.packets opens few keeps refl) in (
            tells_some l.chosen.in_words l.packets stream c.args.segment.now opens new bytes whole said.0 k
                (subst (λ (b : List ℕ). IsToldText l.chosen.in_words b whole said.0) c.deref.ensures.value said.1),
            k.keeps,
            λ place. place_taken stream c.args.segment.now l.streams.live.entries new place grown,
          ),
      said.2,
    ))
    c.push_whole.ensures

pub returns-in_default-clause-tells : goal.returns-in_default-clause-tells
returns-in_default-clause-tells c =
    let l = c.args.self.now in
    let stream = stream_of (found_seen c.args.found.now) c.args.segment.now in
    let new = c.add.new.self.live.entries in
    let bytes = c.add.new.bytes.items in (
      [],
      λ opens few keeps.
          let k = subst (λ (s : Stream). Continues l.packets s c.args.segment.now opens new bytes None) c.stream_of-stream.ensures
          (subst (λ (f : Option Whole). Continues l.packets c.stream_of-stream.result c.args.segment.now opens new bytes f) c.in_default.is (c.in_ok-added.ensures.continues l.packets opens few keeps refl)) in
          let grown = subst (λ (s : Stream). Grows s c.args.segment.now l.streams.live.entries new) c.stream_of-stream.ensures (c.in_ok-added.ensures.grows l.packets opens few keeps refl) in (
            tells_none l.chosen.in_words l.packets stream c.args.segment.now opens new bytes k,
            k.keeps,
            λ place. place_taken stream c.args.segment.now l.streams.live.entries new place grown,
          ),
      sym (append-nil c.args.text.now.items),
    )
