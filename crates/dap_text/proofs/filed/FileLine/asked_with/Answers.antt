use Rattle.std.proofs.Common.{◌≡◌, ap, sym, ◌∙◌}
use Rattle.dap_accessed.specs.Asked.{asked_fully, look_of}
use Rattle.dap_text.specs.Kept.{line_attributes}
use Rattle.dap_text.proofs.KeptLemmas.{agree, asks_bad, asks_none, asks_ok, differ}
use Rattle.dap_text.proofs.filed.FileLine.asked_with.Goals as goal

pub returns-then-ne-clause-asks : goal.returns-then-ne-clause-asks
returns-then-ne-clause-asks c =
    let made : c.look_of.result ≡ look_of (line_attributes c.args.self.now c.args.look) = c.look_of.ensures ∙ ap look_of c.attributes-attributes.ensures in
    asks_none c.args.self.now c.args.look c.requires (λ e. differ c.look_of.result c.args.look c.ne.result c.if-ne.true c.ne.ensures (made ∙ e))

pub returns-in-Some-clause-asks : goal.returns-in-Some-clause-asks
returns-in-Some-clause-asks c =
    let made : c.look_of.result ≡ look_of (line_attributes c.args.self.now c.args.look) = c.look_of.ensures ∙ ap look_of c.attributes-attributes.ensures in
    asks_ok c.args.self.now c.args.look c.in-Some.asked c.requires (sym made ∙ agree c.look_of.result c.args.look c.ne.result c.if-ne.false c.ne.ensures)
    (sym c.in-Some.is ∙ c.fully.ensures.same ∙ ap asked_fully c.attributes-attributes.ensures)

pub returns-in-None-clause-asks : goal.returns-in-None-clause-asks
returns-in-None-clause-asks c =
    let made : c.look_of.result ≡ look_of (line_attributes c.args.self.now c.args.look) = c.look_of.ensures ∙ ap look_of c.attributes-attributes.ensures in
    asks_bad c.args.self.now c.args.look c.requires (sym made ∙ agree c.look_of.result c.args.look c.ne.result c.if-ne.false c.ne.ensures)
    (sym c.in-None.is ∙ c.fully.ensures.same ∙ ap asked_fully c.attributes-attributes.ensures)
