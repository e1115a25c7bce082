use Rattle.std.proofs.Common.{◌+◌, length, ap, ◌∙◌, arith}
use Rattle.nsp_link.specs.Link.{LinkValue}
use Rattle.nsp_link.proofs.Held.{held_few}
use Rattle.nsp_link.proofs.link.LinkEnd.held_count.Goals as goal

pub returns-clause-value : goal.returns-clause-value
returns-clause-value c = c.self.invariant.counted ∙ ap (λ (v : LinkValue). length v.held) c.self.view_is

pub returns-clause-small : goal.returns-clause-small
returns-clause-small c =
    let r = c.self.inside.incoming.received in
    let window = ap (λ (v : LinkValue). v.setup.window) c.self.view_is in
    let few = held_few (r + 1) (r + 1 + c.self.inside.setup.window) _ (omega (arith, c.self.invariant.link.setup.2)) c.self.invariant.link.held in
    omega (arith, c.self.invariant.counted, few, window)
