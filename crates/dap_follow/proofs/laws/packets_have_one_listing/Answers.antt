use Rattle.dap_follow.proofs.OneTextLemmas.{one_list}
use Rattle.dap_follow.proofs.laws.packets_have_one_listing.Goals as goal

pub returns : goal.returns
returns c = one_list
