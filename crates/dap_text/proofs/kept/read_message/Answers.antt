use Rattle.std.proofs.Common.{◌∙◌}
use Rattle.dap_text.proofs.KeptLemmas.{only_in}
use Rattle.dap_text.proofs.kept.read_message.Goals as goal

pub returns-clause-only : goal.returns-clause-only
returns-clause-only c = λ look h e. c.kept_in.ensures ∙ only_in c.item_at-item.result.0 c.args.bytes.now c.item_at-item.result.1 c.item_at-item.ensures.only look h e
