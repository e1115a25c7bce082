use Rattle.std.proofs.Common.{arith, ◌∙◌}
use Rattle.dap_follow.proofs.BoundLemmas.{grows}
use Rattle.dap_follow.proofs.EntryLemmas.{comes}
use Rattle.dap_follow.proofs.JoinLemmas.{if_ok_on, if_ok_weaker}
use Rattle.dap_follow.proofs.streams.Streams.add.Goals as goal

pub returns-clause-continues : goal.returns-clause-continues
returns-clause-continues c =
    if_ok_weaker c.add.result
    (λ found finds number opens few keeps same.
    comes number c.args.stream c.args.segment.now c.args.self.now.live.entries c.stream_index.new.self.live.entries c.in_ok-index.index c.index_mut.result.now c.add.new.self c.add.new.bytes.items found opens
    c.in_ok-index.ensures.indexed c.index_mut.ensures.value (c.add.ensures.last ∙ same, λ ordered keeps most. finds ordered number keeps (omega (arith, most, few))) keeps)
    c.add.ensures.finds

pub returns-clause-grows : goal.returns-clause-grows
returns-clause-grows c =
    if_ok_on c.add.result
    (λ found finds number opens few keeps same.
    grows number c.args.stream c.args.segment.now c.args.self.now.live.entries c.stream_index.new.self.live.entries c.in_ok-index.index c.index_mut.result.now c.add.new.self c.add.new.bytes.items found opens few
    c.in_ok-index.ensures.indexed c.index_mut.ensures.value (c.add.ensures.last ∙ same, λ ordered keeps most. finds ordered number keeps (omega (arith, most, few))) keeps)
    c.add.ensures.finds
