use Rattle.std.proofs.Common.{◌==◌, ◌≡◌, false}
use Rattle.std.proofs.lemmas.Bool.{ne_eqb}
use Rattle.dap_live.proofs.NewNode.{new_only, new_several}
use Rattle.dap_live.proofs.node.Node.new.Goals.{then-links-eq1+in_ok-begin_only, else-links-eq1}
use Rattle.dap_live.proofs.node.Node.new.Goals as goal

pub returns-clause-ok : goal.returns-clause-ok
returns-clause-ok c =
    let a = c.args in
    elim c.if-links-eq1.branch [
      | then-links-eq1+in_ok-begin_only w ↦
          rw w.node-is
          (new_only a.own a.links a.usual a.most_waiting c.in-Ok.node w.begin_only.new.node w.if-links-eq1.true c.in-Ok.ensures w.in_ok-begin_only.ensures.setup w.in_ok-begin_only.ensures.ok w.in_ok-begin_only.ensures.rest)
      | else-links-eq1 w ↦
          let several : (a.links == 1) ≡ false = ne_eqb a.links 1 w.if-links-eq1.false in
          rw w.node-is (new_several a.own a.links a.usual a.most_waiting c.in-Ok.node several c.in-Ok.ensures)
    ]
