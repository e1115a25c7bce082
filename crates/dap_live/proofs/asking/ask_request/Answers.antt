use Rattle.std.proofs.Common.{inl, inr, subst}
use Rattle.dap_accessing.specs.declared.fault.AskFault.TheVariants.{Busy}
use Rattle.dap_live.specs.declared.asking.Asking.{Asking}
use Rattle.dap_live.specs.Asking.{ClientGoesOn}
use Rattle.dap_live.specs.Inner.Saying.{front_text}
use Rattle.dap_live.specs.declared.asking.Front.TheVariants.{Asked}
use Rattle.dap_live.proofs.ResultLemmas.{err_from}
use Rattle.dap_live.proofs.asking.ask_request.Goals as goal

pub returns-in-Ok-clause-err : goal.returns-in-Ok-clause-err
returns-in-Ok-clause-err c =
    err_from c.go_on_after.result c.go_on_after.ensures.err
    (λ done. inr (
      done.0,
      done.1,
      inl (c.in-Ok.count, c.ask.new.self, c.in-Ok.ensures.ok, subst (λ (a : Asking). ClientGoesOn a (front_text (Asked c.in-Ok.count)) c.go_on_after.new.asking done.0 done.1) c.begin_request.ensures done.2),
    ))

pub returns-in-Err-Busy-clause-err : goal.returns-in-Err-Busy-clause-err
returns-in-Err-Busy-clause-err c =
    let refused = rw c.in-Err-Busy.field-0-is at c.in-Err-Busy.ensures.err in
    err_from c.go_on_after-in-Err-Busy.result c.go_on_after-in-Err-Busy.ensures.err
    (λ done. inr (done.0, done.1, inr (Busy, refused.1, rw refused.0 at done.2)))
