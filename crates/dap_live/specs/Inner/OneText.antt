-- Ends that answer each line alike.
use Rattle.std.specs.Prelude.{◌≡◌, List}
use Rattle.dap_accessed.specs.Standing.{Files}
use Rattle.dap_shared.specs.Nodes.{Event}
use Rattle.dap_shared.specs.Shared.{SharedAfter}
use Rattle.dap_end.specs.Node.{NodeLinkValue}
use Rattle.dap_end.specs.Asking.{HasDone}
use Rattle.dap_live.specs.declared.asking.Asking.{Asking}
use Rattle.dap_live.specs.declared.node.Node.{Node}
use Rattle.dap_live.specs.Node.{HasRun, HasSent}

-- both clients are of one value
abbrev pub AreSameAsking : Asking → Asking → Type 0
AreSameAsking one other =
    (one.end ≡ other.end) × (one.setup ≡ other.setup) × (one.reports.items ≡ other.reports.items) × (one.told ≡ other.told)
    × (one.is_each ≡ other.is_each) × HasDone one.end

-- some history left what is before a link of a node, and the link sends some messages
abbrev pub HasCarried : NodeLinkValue → Type 0
HasCarried v = (first : Files) × (events : List Event) × SharedAfter first events v.present.shared × HasSent v.port.link

-- both nodes are of one value
abbrev pub AreSameNodes : Node → Node → Type 0
AreSameNodes one other =
    (one.node ≡ other.node) × (one.own ≡ other.own) × (one.usual ≡ other.usual) × (one.most_waiting ≡ other.most_waiting)
    × (one.last ≡ other.last) × (one.used ≡ other.used) × (one.given ≡ other.given) × HasRun one.node
