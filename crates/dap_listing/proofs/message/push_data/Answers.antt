use Rattle.std.proofs.Common.{rules, ◌≡◌, ◌++◌, List, ℕ, OnOk}
use Rattle.std.specs.Prelude.{codes}
use Rattle.std.proofs.lemmas.Result.{on_ok_weaker}
use Rattle.texts.specs.Text.{image_text, line_feed}
use Rattle.dap_listing.proofs.MessageLemmas.{appended_twice}
use Rattle.dap_listing.proofs.message.push_data.Goals as goal

pub returns-clause-added : goal.returns-clause-added
returns-clause-added c =
    let t0 = c.args.text.now.items in
    let t1 = c.push_image.new.text.items in
    let p1 : List ℕ = codes "  data recnum=" ++ image_text c.args.recnum.now in
    let t2 = c.push_image-2.new.text.items in
    let p2 : List ℕ = codes " body=" ++ image_text c.args.bytes.now in
    let end = c.push_str.new.text.items in
    let ends : OnOk c.push_str.result (end ≡ t2 ++ line_feed) = search rules in
    on_ok_weaker c.push_str.result (λ ended. appended_twice t0 t1 end p1 (p2 ++ (line_feed)) c.in_ok-push_image.ensures.added (appended_twice t1 t2 end p2 (line_feed) c.in_ok-push_image-2.ensures.added ended)) ends
