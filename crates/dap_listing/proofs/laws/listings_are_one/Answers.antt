use Rattle.dap_listing.proofs.OneListing.{one_listing}
use Rattle.dap_listing.proofs.laws.listings_are_one.Goals as goal

pub returns : goal.returns
returns c = one_listing
