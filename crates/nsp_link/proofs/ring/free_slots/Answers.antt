use Rattle.std.proofs.Common.{ap, ◌∙◌, List, Option}
use Rattle.nsp_link.specs.Inner.Pieces.{Held}
use Rattle.nsp_link.specs.Inner.Pieces.{held_from}
use Rattle.nsp_link.proofs.Held.{held_free}
use Rattle.nsp_link.proofs.ring.free_slots.Goals as goal

pub returns-clause-none : goal.returns-clause-none
returns-clause-none c = λ n. ap (λ (xs : List (Option Held)). held_from n xs) c.loop.invariant.free ∙ held_free n c.loop.counter
