use Rattle.dap_world.specs.Inner.WorldView.{parts_of}
use Rattle.dap_world.proofs.Steps.AskingOne.{asked_done}
use Rattle.dap_world.proofs.world.World.ask_owned.Goals as goal

pub invariant_of-self : goal.invariant_of-self
invariant_of-self c = (asked_done (parts_of c.self.inside) c.args.request c.ask_next.new.end c.ask_next.new.requests.items c.ask_next.result c.self.invariant c.ask_next.ensures.ok c.ask_next.ensures.told c.ask_next.ensures.err).0

pub returns : goal.returns
returns c = rw (← c.self.view_is) (asked_done (parts_of c.self.inside) c.args.request c.ask_next.new.end c.ask_next.new.requests.items c.ask_next.result c.self.invariant c.ask_next.ensures.ok c.ask_next.ensures.told c.ask_next.ensures.err).1
