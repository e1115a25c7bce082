use Rattle.dap_end.proofs.Pairing.{asking_pair, serving_pair, more_pairs}
use Rattle.dap_end.proofs.laws.runs_of_two_ends.Goals as goal

pub returns-clause-asking : goal.returns-clause-asking
returns-clause-asking c = asking_pair

pub returns-clause-serving : goal.returns-clause-serving
returns-clause-serving c = serving_pair

pub returns-clause-more : goal.returns-clause-more
returns-clause-more c = more_pairs
