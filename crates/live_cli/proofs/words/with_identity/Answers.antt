use Rattle.std.proofs.Common.{◌∙◌, ap}
use Rattle.std.specs.Prelude.{codes}
use Rattle.clap.specs.Words.{App, with_rule}
use Rattle.live_cli.specs.Words.{option}
use Rattle.live_cli.proofs.words.with_identity.Goals as goal

pub returns-clause-added : goal.returns-clause-added
returns-clause-added c =
    let first = c.in_ok-command.ensures.added in
    let second = c.in_ok-command-2.ensures.added in
    record {
      app = second.app ∙ ap (λ (a : App). with_rule a (option (codes "syscap") (codes "2001c3466"))) first.app;
      local = λ none. second.local (first.local none);
    }
