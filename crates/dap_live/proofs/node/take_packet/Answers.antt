use Rattle.std.proofs.Common.{◌≡◌, ◌⊎◌, ◌∙◌, sym, subst, List, ℕ}
use Rattle.dap_live.specs.Inner.NodeReaching.{IsDoneWithText}
use Rattle.dap_live.specs.Node.{TakesOn, TakesPacketBy}
use Rattle.dap_live.proofs.NodeLemmas.{reaches-by, reaches-one}
use Rattle.dap_live.proofs.ResultLemmas.{err_from}
use Rattle.dap_live.proofs.node.take_packet.Goals as goal

pub returns-in-Some-clause-err : goal.returns-in-Some-clause-err
returns-in-Some-clause-err c =
    let bytes : c.deref.result.now ≡ c.args.digits.now = c.deref.ensures.value ∙ c.in_ok-bytes.ensures in
    err_from c.take_on.result c.take_on.ensures.err
    (λ done. reaches-one c.in-Some.link c.args.node.now c.take_on.new.node c.args.digits.now (sym c.in-Some.is ∙ c.find_one.ensures.found)
    (done.0, done.1, subst (λ (b : List ℕ). TakesOn c.in-Some.link c.args.node.now b c.take_on.new.node done.0 done.1) bytes done.2))

pub returns-clause-err : goal.returns-clause-err
returns-clause-err c =
    let old = c.args.node.now in
    let new = c.take_of.new.node in
    let bytes : c.deref-in-None.result.now ≡ c.args.digits.now = c.deref-in-None.ensures.value ∙ c.in_ok-bytes.ensures in
    err_from c.take_of.result c.take_of.ensures.err
    (λ why. reaches-by old new c.args.digits.now (sym c.in-None.is ∙ c.find_one.ensures.found)
    (subst (λ (b : List ℕ). (new ≡ old) ⊎ IsDoneWithText (TakesPacketBy old b new)) bytes why))
