use Rattle.std.proofs.Common.{◌∙◌, ap, false}
use Rattle.std.specs.Prelude.{Bool, ◌||◌}
use Rattle.clap.specs.Words.{Rule, app_of, with_rule}
use Rattle.live_cli.proofs.words.with_syscap.Goals as goal

pub returns-clause-added : goal.returns-clause-added
returns-clause-added c =
    let added = c.in_ok-command.ensures in
    let syscap = c.option-syscap.ensures in
    record {
      app = added.shape syscap.local ∙ ap (λ (r : Rule). with_rule (app_of c.args.command) r) syscap.rule;
      local = λ none. added.globals ∙ ap (λ (b : Bool). b || c.option-syscap.result.global) none ∙ ap (λ (b : Bool). false || b) syscap.local;
    }
