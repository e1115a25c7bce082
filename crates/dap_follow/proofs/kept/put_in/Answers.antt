use Rattle.std.proofs.Common.{sym, ◌∙◌}
use Rattle.dap_follow.proofs.JoinLemmas.{puts_message, puts_open}
use Rattle.dap_follow.proofs.kept.put_in.Goals as goal

pub returns-then-is_message-clause-puts : goal.returns-then-is_message-clause-puts
returns-then-is_message-clause-puts c =
    puts_message c.args.index c.args.kept.now.items c.args.segment c.in_ok-index.index c.join.new.kept.items c.in_ok-index.piece c.list_at.new.kept.items c.list_at.new.bytes.items c.in_ok-list_at.field-0
    c.in_ok-index.ensures.joins (sym c.is_message.ensures ∙ c.if-is_message.true) c.in_ok-list_at.ensures.lists

pub returns-clause-puts : goal.returns-clause-puts
returns-clause-puts c =
    puts_open c.args.index c.args.kept.now.items c.args.segment c.in_ok-index.index c.join.new.kept.items c.in_ok-index.piece c.put_at.new.kept.items c.args.bytes.now.items
    c.in_ok-index.ensures.joins (sym c.is_message.ensures ∙ c.if-is_message.false) c.in_ok-put_at.ensures.items
