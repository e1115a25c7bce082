use Rattle.std.proofs.Common.{ap, sym, ◌∙◌}
use Rattle.std.specs.Prelude.{Bool}
use Rattle.dap_accessed.specs.Past.{asked_file}
use Rattle.dap_accessed.proofs.Asking.{a_good_file}
use Rattle.dap_accessed.proofs.asked.asked_for.Goals as goal

pub returns-else-full-clause-good : goal.returns-else-full-clause-good
returns-else-full-clause-good c =
    a_good_file c.args.full c.args.attributes.now c.asked_plainly.result
    (c.asked_plainly.ensures ∙ sym (ap (λ (b : Bool). asked_file b c.args.attributes.now) c.if-full.false))
