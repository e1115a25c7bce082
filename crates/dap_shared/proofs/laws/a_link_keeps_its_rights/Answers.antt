use Rattle.dap_shared.proofs.Growing.{rights-last}
use Rattle.dap_shared.proofs.laws.a_link_keeps_its_rights.Goals as goal

pub returns : goal.returns
returns c = rights-last
