use Rattle.file_names.proofs.NameLemmas.{fold_of_version, number_of_version}
use Rattle.file_names.proofs.laws.versions_find_themselves.Goals as goal

pub returns-clause-alike : goal.returns-clause-alike
returns-clause-alike c = fold_of_version

pub returns-clause-numbered : goal.returns-clause-numbered
returns-clause-numbered c = number_of_version
