use Rattle.file_names.proofs.FoldLemmas.{fold_again, fold_with_number}
use Rattle.file_names.proofs.laws.folds_find_themselves.Goals as goal

pub returns-clause-again : goal.returns-clause-again
returns-clause-again c = fold_again

pub returns-clause-numbered : goal.returns-clause-numbered
returns-clause-numbered c = fold_with_number
