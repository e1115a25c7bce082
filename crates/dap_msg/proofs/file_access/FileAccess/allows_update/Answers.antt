use Rattle.std.proofs.Common.{◌∙◌}
use Rattle.dap_msg.proofs.Flags.{bit_test}
use Rattle.dap_msg.proofs.file_access.FileAccess.allows_update.Goals as goal

pub returns : goal.returns
returns c = c.contains.ensures tt ∙ bit_test c.args.self.0 3
