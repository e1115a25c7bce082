use Rattle.dap_events.specs.declared.event.End.TheVariants.{A, B}
use Rattle.dap_world.specs.Inner.WorldView.{parts_of}
use Rattle.dap_world.proofs.Steps.Wires.{shown_link, came_partial, came_inbox}
use Rattle.dap_world.proofs.world.World.link.Goals as goal

pub returns-in-A-clause-way : goal.returns-in-A-clause-way
returns-in-A-clause-way c = let is = shown_link (parts_of c.self.inside) A c.args.self.now c.args.end c.link.result.now c.self.invariant c.self.view_is c.in-A.is c.link.ensures in (is.local, is.remote)

pub returns-in-A-clause-size : goal.returns-in-A-clause-size
returns-in-A-clause-size c = (shown_link (parts_of c.self.inside) A c.args.self.now c.args.end c.link.result.now c.self.invariant c.self.view_is c.in-A.is c.link.ensures).size

pub returns-in-A-clause-window : goal.returns-in-A-clause-window
returns-in-A-clause-window c = (shown_link (parts_of c.self.inside) A c.args.self.now c.args.end c.link.result.now c.self.invariant c.self.view_is c.in-A.is c.link.ensures).window

pub returns-in-A-clause-sent : goal.returns-in-A-clause-sent
returns-in-A-clause-sent c = (shown_link (parts_of c.self.inside) A c.args.self.now c.args.end c.link.result.now c.self.invariant c.self.view_is c.in-A.is c.link.ensures).sent

pub returns-in-A-clause-acked : goal.returns-in-A-clause-acked
returns-in-A-clause-acked c = (shown_link (parts_of c.self.inside) A c.args.self.now c.args.end c.link.result.now c.self.invariant c.self.view_is c.in-A.is c.link.ensures).acked

pub returns-in-A-clause-queued : goal.returns-in-A-clause-queued
returns-in-A-clause-queued c = (shown_link (parts_of c.self.inside) A c.args.self.now c.args.end c.link.result.now c.self.invariant c.self.view_is c.in-A.is c.link.ensures).queued

pub returns-in-A-clause-received : goal.returns-in-A-clause-received
returns-in-A-clause-received c = (shown_link (parts_of c.self.inside) A c.args.self.now c.args.end c.link.result.now c.self.invariant c.self.view_is c.in-A.is c.link.ensures).received

pub returns-in-A-clause-held : goal.returns-in-A-clause-held
returns-in-A-clause-held c = (shown_link (parts_of c.self.inside) A c.args.self.now c.args.end c.link.result.now c.self.invariant c.self.view_is c.in-A.is c.link.ensures).held

pub returns-in-A-clause-running : goal.returns-in-A-clause-running
returns-in-A-clause-running c = (shown_link (parts_of c.self.inside) A c.args.self.now c.args.end c.link.result.now c.self.invariant c.self.view_is c.in-A.is c.link.ensures).running

pub returns-in-B-clause-way : goal.returns-in-B-clause-way
returns-in-B-clause-way c = let is = shown_link (parts_of c.self.inside) B c.args.self.now c.args.end c.link-in-B.result.now c.self.invariant c.self.view_is c.in-B.is c.link-in-B.ensures in (is.local, is.remote)

pub returns-in-B-clause-size : goal.returns-in-B-clause-size
returns-in-B-clause-size c = (shown_link (parts_of c.self.inside) B c.args.self.now c.args.end c.link-in-B.result.now c.self.invariant c.self.view_is c.in-B.is c.link-in-B.ensures).size

pub returns-in-B-clause-window : goal.returns-in-B-clause-window
returns-in-B-clause-window c = (shown_link (parts_of c.self.inside) B c.args.self.now c.args.end c.link-in-B.result.now c.self.invariant c.self.view_is c.in-B.is c.link-in-B.ensures).window

pub returns-in-B-clause-sent : goal.returns-in-B-clause-sent
returns-in-B-clause-sent c = (shown_link (parts_of c.self.inside) B c.args.self.now c.args.end c.link-in-B.result.now c.self.invariant c.self.view_is c.in-B.is c.link-in-B.ensures).sent

pub returns-in-B-clause-acked : goal.returns-in-B-clause-acked
returns-in-B-clause-acked c = (shown_link (parts_of c.self.inside) B c.args.self.now c.args.end c.link-in-B.result.now c.self.invariant c.self.view_is c.in-B.is c.link-in-B.ensures).acked

pub returns-in-B-clause-queued : goal.returns-in-B-clause-queued
returns-in-B-clause-queued c = (shown_link (parts_of c.self.inside) B c.args.self.now c.args.end c.link-in-B.result.now c.self.invariant c.self.view_is c.in-B.is c.link-in-B.ensures).queued

pub returns-in-B-clause-received : goal.returns-in-B-clause-received
returns-in-B-clause-received c = (shown_link (parts_of c.self.inside) B c.args.self.now c.args.end c.link-in-B.result.now c.self.invariant c.self.view_is c.in-B.is c.link-in-B.ensures).received

pub returns-in-B-clause-held : goal.returns-in-B-clause-held
returns-in-B-clause-held c = (shown_link (parts_of c.self.inside) B c.args.self.now c.args.end c.link-in-B.result.now c.self.invariant c.self.view_is c.in-B.is c.link-in-B.ensures).held

pub returns-in-B-clause-running : goal.returns-in-B-clause-running
returns-in-B-clause-running c = (shown_link (parts_of c.self.inside) B c.args.self.now c.args.end c.link-in-B.result.now c.self.invariant c.self.view_is c.in-B.is c.link-in-B.ensures).running

pub returns-in-A-clause-limit : goal.returns-in-A-clause-limit
returns-in-A-clause-limit c = (shown_link (parts_of c.self.inside) A c.args.self.now c.args.end c.link.result.now c.self.invariant c.self.view_is c.in-A.is c.link.ensures).limit

pub returns-in-A-clause-partial : goal.returns-in-A-clause-partial
returns-in-A-clause-partial c = came_partial c.args.self.now c.args.end c.link.result.now (shown_link (parts_of c.self.inside) A c.args.self.now c.args.end c.link.result.now c.self.invariant c.self.view_is c.in-A.is c.link.ensures)

pub returns-in-A-clause-inbox : goal.returns-in-A-clause-inbox
returns-in-A-clause-inbox c = came_inbox c.args.self.now c.args.end c.link.result.now (shown_link (parts_of c.self.inside) A c.args.self.now c.args.end c.link.result.now c.self.invariant c.self.view_is c.in-A.is c.link.ensures)

pub returns-in-A-clause-early : goal.returns-in-A-clause-early
returns-in-A-clause-early c = (shown_link (parts_of c.self.inside) A c.args.self.now c.args.end c.link.result.now c.self.invariant c.self.view_is c.in-A.is c.link.ensures).stands.held

pub returns-in-B-clause-limit : goal.returns-in-B-clause-limit
returns-in-B-clause-limit c = (shown_link (parts_of c.self.inside) B c.args.self.now c.args.end c.link-in-B.result.now c.self.invariant c.self.view_is c.in-B.is c.link-in-B.ensures).limit

pub returns-in-B-clause-partial : goal.returns-in-B-clause-partial
returns-in-B-clause-partial c = came_partial c.args.self.now c.args.end c.link-in-B.result.now (shown_link (parts_of c.self.inside) B c.args.self.now c.args.end c.link-in-B.result.now c.self.invariant c.self.view_is c.in-B.is c.link-in-B.ensures)

pub returns-in-B-clause-inbox : goal.returns-in-B-clause-inbox
returns-in-B-clause-inbox c = came_inbox c.args.self.now c.args.end c.link-in-B.result.now (shown_link (parts_of c.self.inside) B c.args.self.now c.args.end c.link-in-B.result.now c.self.invariant c.self.view_is c.in-B.is c.link-in-B.ensures)

pub returns-in-B-clause-early : goal.returns-in-B-clause-early
returns-in-B-clause-early c = (shown_link (parts_of c.self.inside) B c.args.self.now c.args.end c.link-in-B.result.now c.self.invariant c.self.view_is c.in-B.is c.link-in-B.ensures).stands.held
