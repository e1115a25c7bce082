use Rattle.std.proofs.Common.{length}
use Rattle.dap_live.proofs.rights.+add_rights.Given as goal

abbrev pub decreases-add_rights : goal.decreases-add_rights
decreases-add_rights l = length l.names.now
