use Rattle.std.proofs.Common.{◌∙◌, sym}
use Rattle.dap_end.specs.Calls.{IsOneOf}
use Rattle.dap_end.proofs.Hearing.{run_promises}
use Rattle.dap_end.proofs.laws.every_run_is_told.Goals as goal

pub returns : goal.returns
returns c = λ came requests old new reports wrote h r.
    let t = run_promises (IsOneOf came) r.0 old new reports wrote h r.2 in (t.0, t.1, t.2 ∙ sym r.1, t.3, t.4)
