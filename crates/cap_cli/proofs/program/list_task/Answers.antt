use Rattle.std.proofs.Common.{◌≡◌, subst, inr}
use Rattle.std.specs.Prelude.{Option}
use Rattle.linewise.specs.Output.{WritesFront}
use Rattle.cap_cli.specs.Opening.{unopened_line}
use Rattle.cap_cli.specs.Words.{Text}
use Rattle.cap_cli.proofs.RunLemmas.{untouched}
use Rattle.cap_cli.proofs.program.list_task.Goals as goal

pub returns-in-Err : goal.returns-in-Err
returns-in-Err g c =
    let why = c.in-Err.unopened in
    let told = g.E.Write.contents c.args.error_writer.now in
    let tells = g.E.Write.contents c.tell_unopened.new.error_writer in
    let refused = subst (λ (f : Option Text). g.O.Opens.refuses c.args.source.now f why) c.opened-file.ensures c.in-Err.ensures.refused in
    let tellings = subst (λ (f : Option Text). WritesFront told tells (unopened_line f why)) c.opened-file.ensures c.tell_unopened.ensures.told in
    inr (why, refused, untouched _, tellings, c.tell_unopened.ensures.status)
