use Rattle.std.proofs.Common.{◌≡◌, ◌++◌, List, [], codes, ap, sym, ◌∙◌, if◌then◌else◌}
use Rattle.std.proofs.lemmas.Result.{on_ok_weaker}
use Rattle.dap_follow.specs.Lines.{length_text, range_text, stream_text}
use Rattle.dap_follow.specs.Keeping.Kept.{kept_bytes}
use Rattle.dap_follow.proofs.RestLemmas.{appended_twice}
use Rattle.dap_follow.proofs.rest.push_part.Goals as goal

pub returns : goal.returns
returns c =
    let t0 = c.args.text.now.items in
    let t1 = c.push_str.new.text.items in
    let t2 = c.push_stream.new.text.items in
    let t3 = c.push_piece.new.text.items in
    let k = c.args.kept.now in
    let stream = stream_text c.args.stream.now in
    let r = range_text k.from k.to in
    let piece = r ++ length_text (kept_bytes k) in
    on_ok_weaker c.push_piece.result
    (λ added.
    let bytes = c.deref.ensures.value ∙ c.in_ok-gather.ensures in
    let end : t3 ≡ t2 ++ piece = added ∙ ap (λ (l : List _). t2 ++ (r ++ length_text l)) bytes in
    appended_twice t0 t1 t3 (codes "part") (stream ++ piece) c.in_ok-push_str.ensures.added (appended_twice t1 t2 t3 stream piece c.in_ok-push_stream.ensures end)
    ∙ ap (λ b. t0 ++ (if b then [] else codes "part" ++ (stream ++ piece))) (sym c.if-kept.false))
    c.push_piece.ensures
