use Rattle.dap_follow.proofs.ListLemmas.{fits_listed, is_within}
use Rattle.dap_follow.proofs.laws.kept_streams_are_bounded.Goals as goal

pub returns-clause-kept : goal.returns-clause-kept
returns-clause-kept c = is_within

pub returns-clause-open : goal.returns-clause-open
returns-clause-open c = fits_listed
