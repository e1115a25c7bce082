use Rattle.dap_follow.proofs.ListLemmas.{is_listed}
use Rattle.dap_follow.proofs.laws.taken_packets_are_listed.Goals as goal

pub returns : goal.returns
returns c = is_listed
