use Rattle.std.proofs.Common.{refl, sym, ◌∙◌, ◌++◌}
use Rattle.linewise.specs.declared.talking.Became.TheVariants.{Done}
use Rattle.dap_live.specs.declared.asking.Came.TheVariants.{Told}
use Rattle.dap_live.specs.Each.{told_text}
use Rattle.dap_live.proofs.ResultLemmas.{err_always, err_from}
use Rattle.dap_live.proofs.ReachLemmas.{where_left, where_none}
use Rattle.dap_live.proofs.asking.go_on_if_left.Goals as goal

pub returns-in_err-push_told-clause-err : goal.returns-in_err-push_told-clause-err
returns-in_err-push_told-clause-err c =
    err_always c.from_residual.result (
      c.args.text.now.items ++ told_text c.args.asking.now,
      Told Done,
      where_none _ (sym c.has_more.ensures ∙ c.if-has_more.false) _ _ (refl, refl, refl),
    )

pub returns-then-has_more-clause-err : goal.returns-then-has_more-clause-err
returns-then-has_more-clause-err c =
    err_from c.go_on_again.result c.go_on_again.ensures.err
    (λ done. (done.0, done.1, where_left _ (sym c.has_more.ensures ∙ c.if-has_more.true) _ _ done.2))
