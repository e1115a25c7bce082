use Rattle.dap_shared.specs.Noted.{NotedServed}
use Rattle.nsp_link.specs.declared.link.Got.TheVariants.{AckOnly}
use Rattle.dap_end.specs.By.{end_with}
use Rattle.dap_end.specs.Node.{without_notes}
use Rattle.dap_network.proofs.AnyBounds.{going_bounded, nothing_left, taking_bounded}
use Rattle.dap_network.proofs.any_peers.links_are_bounded.Goals as goal

pub returns-clause-go_on : goal.returns-clause-go_on
returns-clause-go_on c = λ link most old new out all r on.
    record { before = on.before; after = on.after; there = on.there; does = going_bounded (NotedServed link) most _ _ out all r on.does.0 on.does.1; ports = on.ports }

pub returns-clause-take : goal.returns-clause-take
returns-clause-take c = λ link most old new bytes out all r on.
    record { before = on.before; after = on.after; there = on.there; does = taking_bounded (NotedServed link) most _ _ bytes out all r on.does.0 on.does.1; ports = on.ports }

pub returns-clause-nothing_left : goal.returns-clause-nothing_left
returns-clause-nothing_left c = λ link most old new out all handed some on.
    record {
      before = on.before;
      after = on.after;
      there = on.there;
      does =
          let rested = nothing_left (NotedServed link) most (end_with on.before (without_notes old.noted)) (end_with on.after new.noted) AckOnly out all some on.does.0 (handed, on.does.1) on.does.2 on.does.3 in
          record { served = rested.0; idle = rested.1; empty = rested.2; acknowledged = rested.3 };
      ports = on.ports;
    }
