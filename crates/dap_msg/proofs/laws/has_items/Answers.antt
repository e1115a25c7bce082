use Rattle.dap_msg.proofs.Offsets.{have_items, same_items}
use Rattle.dap_msg.proofs.laws.has_items.Goals as goal

pub returns-clause-some : goal.returns-clause-some
returns-clause-some c = λ bytes fits. let all = have_items bytes fits in (all.items, all.listed)

pub returns-clause-only : goal.returns-clause-only
returns-clause-only c = λ bytes items others fits h o. same_items bytes 0 items others fits h o
