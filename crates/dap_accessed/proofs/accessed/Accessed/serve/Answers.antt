use Rattle.std.proofs.Common.{arith, subst}
use Rattle.dap_msg.specs.declared.items.Item.{Item}
use Rattle.dap_accessed.specs.Served.{IsSilent}
use Rattle.dap_accessed.proofs.Opens.{if_ok}
use Rattle.dap_accessed.proofs.accessed.Accessed.serve.Goals as goal

pub returns-clause-serves : goal.returns-clause-serves
returns-clause-serves c = c.serve_item.ensures.serves c.args.nsp_message.now c.args.at c.item_at-item.ensures.exact

pub returns-clause-within : goal.returns-clause-within
returns-clause-within c = if_ok c.serve_item.result c.serve_item.ensures.next (λ served e. omega (arith, e, c.item_at-item.ensures.within))

pub returns-clause-further : goal.returns-clause-further
returns-clause-further c some = if_ok c.serve_item.result c.serve_item.ensures.next (λ served e. omega (arith, e, c.item_at-item.ensures.further some))

pub returns-clause-unrefused : goal.returns-clause-unrefused
returns-clause-unrefused c = λ first items item next h there none.
    c.serve_item.ensures.unrefused first items h (subst (λ (i : Item). IsSilent c.args.self.now.setup first items i) (c.item_at-item.ensures.only item next there).0 none)
