use Rattle.std.proofs.Common.{◌∙◌, ◌≤◌, ℕ, List, length, ap, subst, inl}
use Rattle.linewise.specs.Talks.{max_line}
use Rattle.cap_cli.specs.Forms.{form_of}
use Rattle.cap_cli.specs.Tasks.{StrictInput}
use Rattle.cap_cli.specs.declared.form.Form.{Form}
use Rattle.cap_cli.proofs.RunLemmas.{some_from}
use Rattle.cap_cli.proofs.running.list_strictly.Goals as goal

pub returns-in-Ok : goal.returns-in-Ok
returns-in-Ok g c =
    let old = g.W.Write.contents c.args.writer.now in
    let new = g.W.Write.contents c.list_input_strictly.new.writer in
    let told = g.E.Write.contents c.args.error_writer.now in
    let tells = g.E.Write.contents c.list_input_strictly.new.error_writer in
    let status = c.list_input_strictly.result in
    let options = c.args.options in
    some_from _ c.in-Ok.ensures.whole (λ bytes same.
    let form = c.form_of_front-form.ensures ∙ ap form_of (c.deref.ensures.value ∙ same) in
    let given = c.deref-in-Ok.ensures.value ∙ same in
    let strict = subst (λ (l : List ℕ). StrictInput options c.form_of_front-form.result l old new told tells status) given c.list_input_strictly.ensures in
    inl (subst (λ (l : List ℕ). length l ≤ max_line) same c.in-Ok.ensures.limit, subst (λ (f : Form). StrictInput options f bytes old new told tells status) form strict))
