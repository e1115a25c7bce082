use Rattle.std.proofs.Common.{length, sym, ◌∙◌}
use Rattle.dap_shared.specs.Nodes.{node_after}
use Rattle.dap_shared.proofs.Events.{history-shares}
use Rattle.dap_shared.proofs.Lowest.{none-lowest}
use Rattle.dap_shared.proofs.noted.locking.Goals as goal

pub returns-else-is_locked_out : goal.returns-else-is_locked_out
returns-else-is_locked_out c = λ first events h.
    none-lowest c.args.shared.now.setup c.args.addresses.now c.args.link (node_after c.args.shared.now.setup first (length c.args.shared.now.sessions) events) c.args.item.now
    (c.requires.all ∙ sym (history-shares c.args.shared.now.setup first (length c.args.shared.now.sessions) events h.links).1)
    (sym (c.is_locked_out.ensures first events h) ∙ c.if-is_locked_out.false)
