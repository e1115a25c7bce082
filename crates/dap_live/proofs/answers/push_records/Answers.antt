use Rattle.std.proofs.Common.{◌∙◌, ◌++◌, List, ap, codes, ℕ}
use Rattle.texts.specs.Text.{image_text}
use Rattle.dap_live.proofs.EachLemmas.{record_more}
use Rattle.dap_live.proofs.answers.push_records.Goals as goal

pub loop-record-preserved : goal.loop-record-preserved
loop-record-preserved c =
    let body : List ℕ = c.record.inside.0.1.0.0.items in
    record_more c.args.records.now c.loop-record.record-index c.record-item.result c.record.inside.0.0 body c.args.text.now.items c.loop-record.text.items c.push_number.new.text.items c.push_image.new.text.items
    c.push_str.new.text.items c.loop-record-test.true c.record-item.is c.record.view_is c.loop-record.invariant c.in_ok-push_number.ensures.added
    (c.in_ok-push_image.ensures.added ∙ ap (λ (l : List ℕ). c.push_number.new.text.items ++ (codes " " ++ image_text l)) c.deref.ensures.value) c.in_ok-push_str.ensures.added
