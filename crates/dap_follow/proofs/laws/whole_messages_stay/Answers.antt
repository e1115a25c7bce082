use Rattle.dap_follow.proofs.LaterLemmas.{stay_whole}
use Rattle.dap_follow.proofs.laws.whole_messages_stay.Goals as goal

pub returns : goal.returns
returns c = stay_whole
