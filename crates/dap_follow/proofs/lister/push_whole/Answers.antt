use Rattle.std.proofs.Common.{◌≡◌, ◌++◌, ℕ, List, ap, ◌∙◌, subst}
use Rattle.std.specs.Prelude.{codes}
use Rattle.std.proofs.lemmas.Result.{on_ok_weaker}
use Rattle.dap_listing.specs.Messages.{IsMessagesText}
use Rattle.dap_follow.specs.Joined.{tail}
use Rattle.dap_follow.specs.Lines.{length_text, range_text}
use Rattle.dap_follow.proofs.RestLemmas.{appended_twice}
use Rattle.dap_follow.proofs.lister.push_whole.Goals as goal

pub returns : goal.returns
returns c =
    let bytes = c.args.bytes.now in
    let w = c.args.whole in
    let t0 = c.args.text.now.items in
    let t1 = c.push_str.new.text.items in
    let t2 = c.push_piece.new.text.items in
    let piece : List ℕ = range_text w.from w.to ++ length_text bytes in
    let head : List ℕ = codes "  message" ++ piece in
    let first : t2 ≡ t0 ++ head = appended_twice t0 t1 t2 (codes "  message") piece c.in_ok-push_str.ensures.added c.in_ok-push_piece.ensures in
    on_ok_weaker c.push_messages.result
    (λ added. (
      head ++ added.0,
      λ m is. (
        added.0,
        subst (λ (l : List ℕ). IsMessagesText c.args.in_words l added.0) is.bytes_are added.1,
        ap (λ (a : ℕ). (codes "  message" ++ (range_text a w.to ++ length_text bytes)) ++ added.0) is.from
            ∙ ap (λ (b : ℕ). (codes "  message" ++ (range_text m.head.sequence b ++ length_text bytes)) ++ added.0) is.to
            ∙ ap (λ (l : List ℕ). (codes "  message" ++ (range_text m.head.sequence (tail m).sequence ++ length_text l)) ++ added.0) is.bytes_are,
      ),
      appended_twice t0 t2 c.push_messages.new.text.items head added.0 first added.2,
    ))
    c.push_messages.ensures.added
