use Rattle.std.proofs.Common.{List, length, get_or}
use Rattle.dap_accessed.specs.Standing.{Files}
use Rattle.dap_shared.specs.Nodes.{Event, locks_out, node_after}
use Rattle.dap_shared.specs.Noted.{LeastOf}
use Rattle.dap_shared.specs.Shared.{SharedAfter}
use Rattle.dap_shared.proofs.noted.lowest_of.Given as goal

abbrev pub invariant-loop-other : goal.invariant-loop-other
invariant-loop-other l =
    (first : Files) (events : List Event) → SharedAfter first events l.shared
    → LeastOf (λ other. locks_out l.shared.setup other l.link (node_after l.shared.setup first (length l.shared.sessions) events) l.item) (λ other. get_or l.addresses other 0) l.other l.lowest
