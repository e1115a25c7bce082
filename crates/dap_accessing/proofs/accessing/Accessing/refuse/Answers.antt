use Rattle.std.proofs.Common.{◌∙◌, ap, sym}
use Rattle.dap_accessing.specs.Present.{ClientState, failed_after}
use Rattle.dap_accessing.proofs.Laws.{expected_refused, unexpected_refused}
use Rattle.dap_accessing.proofs.accessing.Accessing.refuse.Goals as goal

pub returns-then-may_come-clause-refused : goal.returns-then-may_come-clause-refused
returns-then-may_come-clause-refused c =
    let (item, next) = c.item_at-item.result in
    expected_refused c.args.nsp_message.now c.args.at item next c.args.self.now (ap (λ (v : ClientState). v.failed) (sym c.self.view_is) ∙ c.if-self.false) c.item_at-item.ensures.exact
    (c.may_come.ensures.yes c.if-may_come.true)

pub returns-clause-refused : goal.returns-clause-refused
returns-clause-refused c =
    let (item, next) = c.item_at-item.result in
    unexpected_refused c.args.nsp_message.now c.args.at item next c.args.self.now _ (ap (λ (v : ClientState). v.failed) (sym c.self.view_is) ∙ c.if-self.false) c.item_at-item.ensures.exact
    (c.may_come.ensures.no c.if-may_come.false) (ap failed_after c.self.view_is)
