use Rattle.std.proofs.Common.{◌∙◌, ap, sym, subst}
use Rattle.dap_msg.specs.Items.{ItemAt}
use Rattle.dap_accessing.specs.Present.{ClientState, failed_after}
use Rattle.dap_msg.proofs.ForCallers.{fields_fit}
use Rattle.dap_accessing.proofs.Each.{read_on}
use Rattle.dap_accessing.proofs.Numbers.{short_numbers}
use Rattle.dap_accessing.proofs.Laws.{taken_read, taken_refused, rest_refused}
use Rattle.dap_accessing.proofs.accessing.Accessing.read.Goals as goal

pub returns-in_default-clause-refused : goal.returns-in_default-clause-refused
returns-in_default-clause-refused c =
    rest_refused c.args.nsp_message.now c.args.at c.in_default.field-0 c.item_at-item.result.1 c.args.self.now _ (ap (λ (v : ClientState). v.failed) (sym c.self.view_is) ∙ c.if-self.false)
    (subst (λ i. ItemAt c.args.nsp_message.now c.args.at i c.item_at-item.result.1) c.in_default.is c.item_at-item.ensures.exact) (ap failed_after c.self.view_is)

pub returns-in-Err-clause-refused : goal.returns-in-Err-clause-refused
returns-in-Err-clause-refused c =
    taken_refused c.args.nsp_message.now c.args.at c.in-Whole.message c.item_at-item.result.1 c.args.self.now c.take.new.self c.in-Err.fault (ap (λ (v : ClientState). v.failed) (sym c.self.view_is) ∙ c.if-self.false)
    (subst (λ i. ItemAt c.args.nsp_message.now c.args.at i c.item_at-item.result.1) c.in-Whole.is c.item_at-item.ensures.exact) c.in-Err.ensures.takes

pub returns-in-Ok-clause-reads : goal.returns-in-Ok-clause-reads
returns-in-Ok-clause-reads c =
    taken_read c.args.nsp_message.now c.args.at c.in-Whole.message c.item_at-item.result.1 c.args.self.now c.take.new.self c.in-Ok.report (ap (λ (v : ClientState). v.failed) (sym c.self.view_is) ∙ c.if-self.false)
    (subst (λ i. ItemAt c.args.nsp_message.now c.args.at i c.item_at-item.result.1) c.in-Whole.is c.item_at-item.ensures.exact) c.in-Ok.ensures.takes

pub returns-in-Ok-clause-reads_on : goal.returns-in-Ok-clause-reads_on
returns-in-Ok-clause-reads_on c =
    read_on c.args.nsp_message.now c.args.at c.in-Whole.message c.item_at-item.result.1 c.args.self.now c.take.new.self
    (subst (λ i. ItemAt c.args.nsp_message.now c.args.at i c.item_at-item.result.1) c.in-Whole.is c.item_at-item.ensures.exact) c.in-Ok.report c.in-Ok.ensures.takes

pub take-requires : goal.take-requires
take-requires c = record {
  short = short_numbers c.in-Whole.message (fields_fit c.in-Whole.message (c.item_at-item.ensures.fields c.in-Whole.message c.in-Whole.is));
}
