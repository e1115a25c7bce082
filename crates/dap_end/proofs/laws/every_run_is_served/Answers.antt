use Rattle.std.proofs.Common.{[], ap}
use Rattle.dap_accessed.specs.Present.{Present}
use Rattle.dap_end.specs.Calls.{IsOneOf}
use Rattle.dap_end.proofs.Running.{run, did_nothing}
use Rattle.dap_end.proofs.laws.every_run_is_served.Goals as goal

pub returns : goal.returns
returns c = λ came first old new wrote h r.
    let d = run (IsOneOf came) r.0 (old, []) (new, wrote) first r.1 (did_nothing first old h) in
    (d.past, d.is, d.had, ap (λ (p : Present). p.files) d.is.serving, d.packets)
