use Rattle.dap_follow.proofs.StayLemmas.{goes_between}
use Rattle.dap_follow.proofs.laws.listed_messages_can_go.Goals as goal

pub returns : goal.returns
returns c = goes_between
