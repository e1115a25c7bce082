use Rattle.std.proofs.Common.{arith, refl, ℕ, length, get_or}
use Rattle.dap_shared.specs.Nodes.{locks_out, node_after}
use Rattle.dap_shared.proofs.Lowest.{step}
use Rattle.dap_shared.proofs.noted.lowest_of.Goals as goal

pub loop-other-init : goal.loop-other-init
loop-other-init c = λ first events h i lt. absurd (let none : ⊥ = omega (arith, lt) in none)

pub loop-other-preserved : goal.loop-other-preserved
loop-other-preserved c = λ first events h.
    step (λ (other : ℕ). locks_out c.args.shared.now.setup other c.args.link (node_after c.args.shared.now.setup first (length c.args.shared.now.sessions) events) c.args.item.now) (λ (other : ℕ). get_or c.args.addresses.now other 0) c.loop-other.other c.loop-other.lowest
    c.lower_if-lowest.result _ c.locks_out.result (c.locks_out.ensures first events h) refl c.lower_if-lowest.ensures.still c.lower_if-lowest.ensures.lower (c.loop-other.invariant first events h)
