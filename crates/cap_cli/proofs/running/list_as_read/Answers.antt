use Rattle.std.proofs.Common.{◌∙◌, ℕ, List, ap, inl}
use Rattle.std.specs.Prelude.{Some}
use Rattle.std.specs.Fmt.{option_append}
use Rattle.cap_cli.specs.Forms.{form_of}
use Rattle.cap_cli.specs.Tasks.{ListsInput}
use Rattle.cap_cli.specs.declared.form.Form.{Form}
use Rattle.cap_cli.proofs.RunLemmas.{joined, some_from}
use Rattle.cap_cli.proofs.running.list_as_read.Goals as goal

pub returns : goal.returns
returns g c =
    let old = g.W.Write.contents c.args.writer.now in
    let new = g.W.Write.contents c.list_input.new.writer in
    let told = g.E.Write.contents c.args.error_writer.now in
    let tells = g.E.Write.contents c.list_input.new.error_writer in
    let status = c.list_input.result in
    let P : Form → List ℕ → Type 0 = λ f input. ListsInput c.args.options f input old new told tells status in
    let chained = c.chain-input.ensures.bytes ∙ ap (λ (l : List ℕ). option_append (Some l) (g.R.Read.remaining c.read_front.new.reader)) c.as_slice-2.ensures.value in
    let form = c.form_of_front-form.ensures ∙ ap form_of c.as_slice.ensures.value in
    some_from _ (joined _ _ _ c.in-Ok.front.items c.form_of_front-form.result P c.in-Ok.ensures.came c.in-Ok.ensures.told chained form c.list_input.ensures)
    (λ input gives. inl gives)
