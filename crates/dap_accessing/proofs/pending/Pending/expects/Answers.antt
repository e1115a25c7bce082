use Rattle.std.proofs.Common.{subst, sym}
use Rattle.dap_msg.specs.declared.items.Item.TheVariants.{Whole}
use Rattle.dap_accessing.specs.declared.pending.Pending.{Pending}
use Rattle.dap_accessing.specs.Inner.Hears.{IsInSequence}
use Rattle.dap_accessing.proofs.Expecting.{batch_in_sequence}
use Rattle.dap_accessing.proofs.pending.Pending.expects.Goals as goal

pub returns-in-Batch-clause-yes : goal.returns-in-Batch-clause-yes
returns-in-Batch-clause-yes c = λ yes.
    subst (λ (p : Pending). IsInSequence p (Whole c.args.answer.now)) (sym c.in-Batch.is) (batch_in_sequence _ c.args.answer.now (c.is_record_or_refusal-in-Batch.ensures.yes yes))
