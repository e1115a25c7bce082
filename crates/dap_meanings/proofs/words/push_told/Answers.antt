use Rattle.std.proofs.Common.{◌++◌, List, ℕ, ◌∙◌, ap, sym, take, get_or}
use Rattle.std.specs.List.{flat_map}
use Rattle.dap_meanings.specs.Meanings.{words_text}
use Rattle.dap_meanings.specs.Words.{word_list, said_text}
use Rattle.dap_meanings.specs.declared.words.Word.TheVariants.{Nothing}
use Rattle.dap_meanings.proofs.ToldLemmas.{mark_after, mark-more, told_more, words_more}
use Rattle.dap_meanings.proofs.words.push_told.Goals as goal

pub loop-word-preserved : goal.loop-word-preserved
loop-word-preserved c =
    let words = c.args.words.now in
    let i = c.loop-word.word-index in
    let ws = flat_map word_list (take i words) in
    let word = said_text (get_or words i Nothing) in
    let more = words_more words i c.loop-word-test.true c.in_default.not-Nothing in
    let here = told_more c.args.text.now.items c.loop-word.text.items c.push_str.new.text.items c.push_word.new.text.items c.loop-word.mark.now word ws c.loop-word.invariant.text c.loop-word.invariant.mark c.in_ok-push_str.ensures.added c.in_ok-push_word.ensures.added in
    record {
      text = here ∙ ap (λ (s : List (List ℕ)). c.args.text.now.items ++ words_text s) (sym more);
      mark = mark-more ws word ∙ ap mark_after (sym more);
    }
