use Rattle.std.proofs.Common.{rules, ◌≡◌, ◌∷◌, ◌++◌, [], List, ℕ, OnOk, Some}
use Rattle.std.specs.Prelude.{codes}
use Rattle.std.specs.List.{concat}
use Rattle.std.proofs.lemmas.Result.{on_ok_weaker}
use Rattle.dap_listing.specs.Packets.{acks_text}
use Rattle.texts.specs.Text.{line_feed, word_text}
use Rattle.dap_listing.proofs.MessageLemmas.{appended_twice}
use Rattle.dap_listing.proofs.packet.push_ack.Goals as goal

pub returns-clause-added : goal.returns-clause-added
returns-clause-added c =
    let t0 = c.args.text.now.items in
    let t1 = c.push_str.new.text.items in
    let p1 : List ℕ = codes "ack" in
    let t2 = c.push_ends.new.text.items in
    let p2 : List ℕ = concat (codes " dst=" ∷ word_text c.args.ack.dst ∷ codes " src=" ∷ word_text c.args.ack.src ∷ []) in
    let t3 = c.push_acks.new.text.items in
    let p3 : List ℕ = codes " acks=" ++ acks_text (Some c.args.ack.ack1) c.args.ack.ack2 in
    let end = c.push_str-2.new.text.items in
    let ends : OnOk c.push_str-2.result (end ≡ t3 ++ line_feed) = search rules in
    on_ok_weaker c.push_str-2.result (λ ended. appended_twice t0 t1 end p1 (p2 ++ (p3 ++ line_feed)) c.in_ok-push_str.ensures.added (appended_twice t1 t2 end p2 (p3 ++ line_feed) c.in_ok-push_ends.ensures.added (appended_twice t2 t3 end p3 line_feed c.in_ok-push_acks.ensures.added ended))) ends
