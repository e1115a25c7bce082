use Rattle.std.proofs.Common.{◌≡◌, ◌++◌, length, []}
use Rattle.std.specs.Prelude.{IsSome, unwrap_or}
use Rattle.texts.specs.Words.{texts_of}
use Rattle.dap_text.proofs.words.TextsToRecords.to_records.Given as goal

abbrev pub invariant-loop-word : goal.invariant-loop-word
invariant-loop-word l = record {
  good : IsSome (texts_of l.left);
  so_far : l.list.items ++ unwrap_or (texts_of l.left) [] ≡ l.self;
}

abbrev pub decreases-loop-word : goal.decreases-loop-word
decreases-loop-word l = length l.left
