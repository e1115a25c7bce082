use Rattle.std.proofs.Common.{[], ap}
use Rattle.dap_accessed.specs.Groups.{GroupedItems, answers_in}
use Rattle.dap_network.proofs.Histories.{items_one}
use Rattle.dap_network.proofs.laws.one_link_is_as_before.Goals as goal

pub returns-clause-items : goal.returns-clause-items
returns-clause-items c = λ most items. items_one [] items

pub returns-clause-files : goal.returns-clause-files
returns-clause-files c = λ own most first items. ap (λ (g : GroupedItems). g.standing.scene.files) (c.one_link_is_as_before.ensures.rights own most first items)

pub returns-clause-answers : goal.returns-clause-answers
returns-clause-answers c = λ own most first items. ap (λ (g : GroupedItems). answers_in g.standing.past) (c.one_link_is_as_before.ensures.rights own most first items)
