use Rattle.std.proofs.Common.{◌≡◌, ◌++◌, List, ℕ, codes, ap, ◌∙◌}
use Rattle.std.proofs.lemmas.Result.{on_ok_weaker}
use Rattle.texts.specs.Text.{word_text}
use Rattle.dap_listing.specs.Listing.{arrow_text}
use Rattle.decnet_frames.specs.Nodes.{nodes_text}
use Rattle.dap_follow.proofs.RestLemmas.{appended_twice}
use Rattle.dap_follow.proofs.text.push_stream.Goals as goal

pub returns : goal.returns
returns c =
    let stream = c.args.stream.now in
    let t0 = c.args.text.now.items in
    let t1 = c.push_str.new.text.items in
    let t2 = c.push_str-2.new.text.items in
    let t3 = c.push_str-3.new.text.items in
    let t4 = c.push_nodes.new.text.items in
    let t5 = c.push_word.new.text.items in
    let t6 = c.push_word-2.new.text.items in
    let arrow = arrow_text stream.way in
    let nodes = nodes_text stream.nodes in
    let dst : List ℕ = codes "dst=" ++ word_text stream.dst in
    let src : List ℕ = codes " src=" ++ word_text stream.src in
    let way : t2 ≡ t1 ++ arrow = c.in_ok-push_str-2.ensures.added ∙ ap (λ (l : List ℕ). t1 ++ l) c.arrow.ensures in
    on_ok_weaker c.push_word-2.result
    (λ added.
    appended_twice t0 t1 t6 (codes " ") (arrow ++ (codes " " ++ (nodes ++ (dst ++ src)))) c.in_ok-push_str.ensures.added
    (appended_twice t1 t2 t6 arrow (codes " " ++ (nodes ++ (dst ++ src))) way
    (appended_twice t2 t3 t6 (codes " ") (nodes ++ (dst ++ src)) c.in_ok-push_str-3.ensures.added
    (appended_twice t3 t4 t6 nodes (dst ++ src) c.in_ok-push_nodes.ensures.added
    (appended_twice t4 t5 t6 dst src c.in_ok-push_word.ensures.added added)))))
    c.push_word-2.ensures.added
