use Rattle.std.proofs.Common.{◌≡◌, ◌++◌, Bool, sym, subst}
use Rattle.std.proofs.lemmas.Result.{on_ok_weaker}
use Rattle.dap_listing.specs.Messages.{item_line_in}
use Rattle.dap_listing.proofs.MessageLemmas.{begins_before_line, line_in_words}
use Rattle.dap_listing.proofs.message.push_item_line.Goals as goal

pub returns-then-in_words-clause-added : goal.returns-then-in_words-clause-added
returns-then-in_words-clause-added c =
    let item = c.args.item.now in
    let old = c.args.text.now.items in
    let new = c.add_item_words.new.text.items in
    on_ok_weaker c.add_item_words.result
    (λ words. subst (λ (b : Bool). new ≡ old ++ item_line_in b item) (sym c.if-in_words.true) (line_in_words item old c.push_item.new.text.items new c.in_ok-push_item.ensures.added words))
    c.add_item_words.ensures.words

pub returns-then-in_words-clause-kept : goal.returns-then-in_words-clause-kept
returns-then-in_words-clause-kept c =
    begins_before_line c.args.item.now c.args.text.now c.push_item.new.text c.add_item_words.new.text c.in_ok-push_item.ensures.added c.add_item_words.ensures.kept
