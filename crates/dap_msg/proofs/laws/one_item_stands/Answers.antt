use Rattle.dap_msg.proofs.Listing.{one_item}
use Rattle.dap_msg.proofs.laws.one_item_stands.Goals as goal

pub returns : goal.returns
returns c = λ bytes at next after item other fits h o. one_item bytes at item other next after fits h o
