use Rattle.std.proofs.Common.{◌≡◌, ◌++◌, ◌∷◌, [], ℕ, List, length, refl}
use Rattle.std.specs.Prelude.{codes}
use Rattle.std.specs.List.{concat}
use Rattle.std.specs.Fmt.{decimal}
use Rattle.std.proofs.lemmas.Result.{on_ok_weaker}
use Rattle.texts.specs.Text.{line_feed}
use Rattle.dap_listing.proofs.MessageLemmas.{appended_twice}
use Rattle.dap_listing.proofs.listing.push_message.Goals as goal

pub returns : goal.returns
returns c =
    let first : List ℕ = concat (codes "message len=" ∷ decimal (length c.args.bytes.now) ∷ line_feed ∷ []) in
    let head : c.push_str.new.text.items ≡ c.args.text.now.items ++ first =
    appended_twice c.args.text.now.items c.push_number.new.text.items c.push_str.new.text.items _ line_feed c.in_ok-push_number.ensures.added c.in_ok-push_str.ensures.added in
    on_ok_weaker c.push_messages.result
    (λ w. (first ++ w.0, (w.0, w.1, refl), appended_twice c.args.text.now.items _ _ first w.0 head w.2))
    c.push_messages.ensures.added
