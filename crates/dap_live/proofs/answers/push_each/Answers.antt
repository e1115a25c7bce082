use Rattle.std.proofs.Common.{◌∙◌, ap, arith, drop}
use Rattle.std.proofs.lemmas.Result.{on_ok_weaker}
use Rattle.dap_live.proofs.EachLemmas.{batch_is}
use Rattle.dap_live.proofs.answers.push_each.Goals as goal

pub returns-in_ok-push_records-in-Batch : goal.returns-in_ok-push_records-in-Batch
returns-in_ok-push_records-in-Batch c =
    on_ok_weaker c.push_batch_line.result
    (batch_is c.args.told c.args.report.now c.bodies.inside.0.items c.in-Batch.bodies c.untold.result.now c.in-Batch.ending c.len.result c.args.text.now.items c.push_records.new.text.items c.push_batch_line.new.text.items
    c.in-Batch.is c.bodies.view_is (c.untold.ensures ∙ ap (drop c.args.told) c.deref.ensures.value) (omega (arith, c.bodies.inside.0.ok.0, c.len.ensures)) c.in_ok-push_records-in-Batch.ensures)
    c.push_batch_line.ensures
