use Rattle.std.proofs.Common.{◌++◌, List, ℕ, if◌then◌else◌, ap, sym, ◌∙◌}
use Rattle.std.proofs.lemmas.Result.{on_ok_weaker}
use Rattle.dap_meanings.specs.Meanings.{with_words}
use Rattle.link_words.specs.PacketWords.{frame_words, packet_words}
use Rattle.decnet_frames.specs.Found.{found_seen}
use Rattle.dap_follow.specs.Lines.{plain_line}
use Rattle.dap_follow.proofs.LineLemmas.{some_line, words_appended}
use Rattle.dap_follow.proofs.text.push_packet_line.Goals as goal

pub returns-then-in_words : goal.returns-then-in_words
returns-then-in_words c =
    let packet = found_seen c.args.found.now in
    let seen = c.args.seen.now in
    let t0 = c.args.text.now.items in
    let t1 = c.push_plain_line.new.text.items in
    let line = plain_line c.args.number packet seen in
    let words = frame_words packet.frame ++ packet_words packet.bytes seen in
    on_ok_weaker c.add_packet_words.result
    (λ told.
    told ∙ ap (λ (f : List (List ℕ)). with_words (frame_words packet.frame ++ f) t1) (c.fault_of.ensures packet.bytes) ∙ ap (with_words words) c.in_ok-push_plain_line.ensures
    ∙ words_appended words t0 line (some_line c.args.number packet seen) ∙ ap (λ b. t0 ++ (if b then with_words words line else line)) (sym c.if-in_words.true))
    c.add_packet_words.ensures.words
