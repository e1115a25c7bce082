use Rattle.dap_follow.proofs.StayLemmas.{stays}
use Rattle.dap_follow.proofs.laws.listed_messages_stay.Goals as goal

pub returns : goal.returns
returns c = stays
