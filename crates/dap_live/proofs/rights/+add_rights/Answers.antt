use Rattle.std.proofs.Common.{◌∙◌, ap, sym, ◌+◌}
use Rattle.texts.proofs.ForCallers.{slice_from}
use Rattle.dap_live.specs.Rights.{comma_separated, with_rights}
use Rattle.dap_live.proofs.RightsLemmas.{some_right}
use Rattle.dap_live.proofs.rights.+add_rights.Goals as goal

pub returns-in_err-add_right-in-Some : goal.returns-in_err-add_right-in-Some
returns-in_err-add_right-in-Some t c =
    c.from_residual.ensures
    ∙ sym (some_right c.args.rights c.args.names.now c.in-Some.end _ (sym c.find_byte.ensures ∙ c.in-Some.is) (sym c.add_right-in-Some.ensures ∙ c.in_err-add_right-in-Some.was))

pub returns-in_ok-add_right-in-Some : goal.returns-in_ok-add_right-in-Some
returns-in_ok-add_right-in-Some t c =
    c.add_rights.ensures
    ∙ ap (λ l. with_rights c.in_ok-add_right-in-Some.field-0 (comma_separated l)) (slice_from (c.in-Some.end + 1) c.args.names.now)
    ∙ sym (some_right c.args.rights c.args.names.now c.in-Some.end _ (sym c.find_byte.ensures ∙ c.in-Some.is) (sym c.add_right-in-Some.ensures ∙ c.in_ok-add_right-in-Some.was))
