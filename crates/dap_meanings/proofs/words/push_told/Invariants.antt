use Rattle.std.proofs.Common.{◌≡◌, ◌++◌, take}
use Rattle.std.specs.List.{flat_map}
use Rattle.dap_meanings.specs.Meanings.{words_text}
use Rattle.dap_meanings.specs.Words.{word_list}
use Rattle.dap_meanings.proofs.ToldLemmas.{mark_after}
use Rattle.dap_meanings.proofs.words.push_told.Given as goal

abbrev pub invariant-loop-word : goal.invariant-loop-word
invariant-loop-word l = record {
  text : l.text.items ≡ l.initial.text.items ++ words_text (flat_map word_list (take l.word-index l.words));
  mark : l.mark ≡ mark_after (flat_map word_list (take l.word-index l.words));
}
