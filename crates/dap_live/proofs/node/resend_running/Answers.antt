use Rattle.std.proofs.Common.{◌∙◌, ◌++◌, ap, sym, inr, List, ℕ}
use Rattle.dap_live.specs.Texts.{packets_text}
use Rattle.dap_live.proofs.NodeLemmas.{about-goes, resends-on}
use Rattle.dap_live.proofs.ResultLemmas.{err_from}
use Rattle.dap_live.proofs.node.resend_running.Goals as goal

-- what was done is done, also where it isn't told
pub returns-then-is_work_left-clause-err : goal.returns-then-is_work_left-clause-err
returns-then-is_work_left-clause-err c =
    let at = c.link_of.ensures in
    let (packets, again, adds) = c.in_ok-push_again.ensures in
    err_from c.go_on_after.result c.go_on_after.ensures.err
    (λ done. inr (
      done.0,
      done.1,
      resends-on c.args.link c.args.node.now c.link_of.result.now at c.push_again.new.text.items packets again
          (adds ∙ ap (λ (l : List ℕ). l ++ packets_text packets) c.requires.text) (sym (c.is_work_left.ensures at.0 at.1) ∙ c.if-is_work_left.true) c.go_on_after.new.node done.0 done.1
          (about-goes c.args.link c.args.node.now c.push_again.new.text.items c.go_on_after.new.node done.0 done.1 done.2),
    ))
