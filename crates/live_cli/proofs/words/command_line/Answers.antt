use Rattle.std.proofs.Common.{◌∙◌, ap, sym, rules}
use Rattle.clap.specs.Words.{App, app_of, with_subcommand}
use Rattle.live_cli.proofs.RunLemmas.{daplive_by}
use Rattle.live_cli.proofs.words.command_line.Goals as goal

pub returns-clause-line : goal.returns-clause-line
returns-clause-line c =
    let serve = c.in_ok-serve_command.ensures.line in
    let ask = c.in_ok-end_command.ensures.line in
    let first = c.in_ok-command.ensures in
    let second = c.in_ok-command-2.ensures in
    let app = second.shape ask.local
    ∙ ap (λ (a : App). with_subcommand a (app_of c.in_ok-end_command.field-0).top) (first.shape serve.local)
    ∙ search rules ∙ sym daplive_by in
    record {
      app = app;
      local = search rules;
      required = ap (λ (a : App). a.top.subcommand_required) app;
    }
