use Rattle.std.proofs.Common.{◌≡◌, false, rules, inl, inr}
use Rattle.dap_live.proofs.NodeLemmas.{on-running}
use Rattle.dap_live.proofs.ResultLemmas.{err_from, ok_from}
use Rattle.dap_live.proofs.node.resend_on.Goals as goal

pub returns-clause-ok : goal.returns-clause-ok
returns-clause-ok c =
    let works : c.link_of.result.now.failed ≡ false = search rules in
    ok_from c.resend_running.result c.resend_running.ensures.ok
    (λ became this. on-running c.args.link c.args.node.now c.link_of.result.now c.link_of.ensures works c.resend_running.new.node c.resend_running.new.text.items became this)

-- what was done is done, also where it isn't told
pub returns-clause-err : goal.returns-clause-err
returns-clause-err c =
    let works : c.link_of.result.now.failed ≡ false = search rules in
    err_from c.resend_running.result c.resend_running.ensures.err
    (λ reached. elim reached [
      | inl same ↦ inl same
      | inr done ↦ inr (
        done.0,
        done.1,
        on-running c.args.link c.args.node.now c.link_of.result.now c.link_of.ensures works c.resend_running.new.node done.0 done.1 done.2,
      )
    ])
